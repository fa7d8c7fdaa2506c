-- What a draft contains of the patterns so far.
use Rattle.std.specs.Prelude.{ℕ, ◌≡◌, ◌+◌, ◌-◌, ◌*◌, ◌/◌, ◌≤◌, ◌⊎◌, Bool, false, List, [], ◌∷◌, ◌++◌, length, sum_by}
use Rattle.regex_nfa.specs.Sizes.{table_bytes}
use Rattle.regex_nfa.specs.declared.nfa.Nfa as kit_nfa
use Rattle.regex_hir.specs.Re.{Re}
use Rattle.regex_syntax.specs.declared.Config.{Config}
use Rattle.automata_base.specs.Nfas.Accepted.{IsChecked}
use Rattle.automata_base.specs.Nfas.Getters.{SkipsLazily}
use Rattle.automata_transform.specs.Nfas.AnchoredNfas.{IsAnchoredNfa}
use Rattle.automata_transform.specs.Nfas.FlattenedNfas.{IsFlattenedNfa}
use Rattle.automata_transform.specs.Nfas.MergedNfas.{IsMergedNfa, KeepsBounds}
use Rattle.automata_base.specs.Nfas.Nodes as ours
use Rattle.automata_base.specs.declared.nfa.thompson.state.State.{State}
use Rattle.automata_base.specs.declared.nfa.thompson.state.State.TheVariants.{Capture}
use Rattle.regex_automata.specs.Promises.{LeftmostFirst, engine_of}
use Rattle.meaning.specs.Agreeing.{HasMeaning, HasNoUnicodeLook}
use Rattle.meaning.specs.Translated.{joined_engine, nodes_of, nodes_of_all, starts_of}
use Rattle.patterns.specs.Patterns.{AreMeanings, AreNfasOf, IsMeaning, config_of}
use Rattle.patterns.specs.declared.compile.Draft.{Draft}
use Rattle.patterns.specs.declared.compile.Options.{Options}

-- the NFA finds what the text means
abbrev pub IsCompiled : Config → (text : List ℕ) → kit_nfa.Nfa → Type 0
IsCompiled config text k = (re : Re) × IsMeaning config text re × HasMeaning k re

-- if the state is a capture, its slot is one of the two of its group
abbrev pub HasGroupOfSlot : State → Type 0
HasGroupOfSlot (Capture next pattern group slot) = group ≡ slot / 2
HasGroupOfSlot state = Unit {0}

-- the draft grows by one pattern, which takes room
pub record Grows (ascii : Bool) (old : Draft) (k : kit_nfa.Nfa) (new : Draft) : Type 0 where
  -- the states of the pattern's NFA come after the previous ones, with the next pattern's number
  pub nodes :
      ours.nodes_of new.states.items
      ≡ ours.nodes_of old.states.items
      ++ nodes_of (length old.states.items) (length old.starts.items) k.transitions.items k.states.items
  -- its start comes after the previous starts
  pub starts : new.starts.items ≡ old.starts.items ++ (length old.states.items + k.start) ∷ []
  -- it has no Unicode word boundary, unless the text is ASCII
  pub looks : ascii ≡ false → HasNoUnicodeLook k
  -- the remaining room is the previous room less the bytes of its tables, or none
  pub room : new.room ≡ old.room - table_bytes k

-- the states and starts of these patterns, and no others
pub record Has (draft : Draft) (ks : List kit_nfa.Nfa) : Type 0 where
  -- its states are the states of these NFAs, one pattern after another
  pub nodes : ours.nodes_of draft.states.items ≡ nodes_of_all 0 0 ks
  -- the start of each of them, in the same order
  pub starts : draft.starts.items ≡ starts_of 0 ks

-- what the tables of these patterns leave of the size limit, or nothing
pub record IsLeft (options : Options) (draft : Draft) (ks : List kit_nfa.Nfa) : Type 0 where
  -- nothing but their tables takes room
  pub least : options.size_limit ≤ sum_by table_bytes ks + draft.room
  -- each pattern may have exceeded the limit by 24 bytes
  pub most : sum_by table_bytes ks + draft.room ≤ options.size_limit + 24 * length ks

-- a draft has the states and starts of these texts
pub record IsDraftOf (options : Options) (texts : List (List ℕ)) (draft : Draft) : Type 0 where
  -- what each text means
  pub res : List Re
  -- the texts have these meanings
  pub meant : AreMeanings (config_of options) texts res
  -- an NFA for each
  pub ks : List kit_nfa.Nfa
  -- the NFAs find what the texts mean
  pub nfas : AreNfasOf options ks res
  -- the draft has the states and starts of these NFAs
  pub has : Has draft ks
  -- the remaining room under the size limit
  pub left : IsLeft options draft ks

-- the NFA joins the patterns of a draft, whichever they are
abbrev pub JoinsDraft : (utf8 : Bool) → Draft → ours.Automaton → Type 0
JoinsDraft utf8 draft nfa =
    (ks : List kit_nfa.Nfa) → Has draft ks → engine_of nfa LeftmostFirst ≡ joined_engine utf8 ks

-- the second NFA is the first one with some of its unions merged, if that is within a limit
pub record IsMergedWithin (limit : ℕ) (nfa merged : ours.Automaton) : Type 0 where
  -- the first one is an NFA
  pub checked : IsChecked nfa
  -- some of its unions are merged, or none
  pub merges : IsMergedNfa nfa merged
  -- its unanchored searches skip bytes lazily if those of the first one do
  pub skips : SkipsLazily nfa → SkipsLazily merged
  -- the states take no more bytes than the limit, 12 each, or none is merged
  pub small : (12 * length merged.states ≤ limit) ⊎ (merged ≡ nfa)

-- the second NFA is the first one, with its long chains of unions flattened, with some of its unions merged if that is
-- within a limit, and without its lazy loop if that is of no use
pub record IsSimplified (limit : ℕ) (nfa simplified : ours.Automaton) : Type 0 where
  -- the NFA after flattening
  pub flat : ours.Automaton
  -- chains of unions are flattened, or none
  pub flattens : IsFlattenedNfa nfa flat
  -- a search needs no more for it than before
  pub bounds : KeepsBounds nfa flat
  -- the NFA after merging
  pub merged : ours.Automaton
  -- then some unions are merged
  pub merges : IsMergedWithin limit flat merged
  -- then the loop is left out
  pub anchors : IsAnchoredNfa merged simplified
