-- The engine of a search: an NFA, its starts, its UTF-8 flag and a match kind.
use Rattle.std.specs.Prelude.{ℕ, ◌≡◌, Bool, true, List, [], ◌∷◌, Option, Some, slice_get}
use Rattle.automata_base.specs.Lists.{In}
use Rattle.automata_base.specs.Nfas.Nfa.{Nfa, Node, Split, Read, node, hop, takes, accepts}
use Rattle.automata_base.specs.Paths.Paths.{all_true, HasEpsilonPath}
use Rattle.automata_base.specs.Powersets.Cuts.{MatchKind}
use Rattle.automata_base.specs.Nfas.Nodes.{Automaton, nfa_of}
pub use Rattle.automata_base.specs.declared.util.search.Anchored.{Anchored}
pub use Rattle.automata_base.specs.declared.util.search.Anchored.TheVariants.{No, Yes, Pattern}

-- An engine, with the starts of anchored searches, of unanchored ones, and of those for each pattern.
pub record Engine : Type 0 where
  -- the NFA, as paths see it
  pub nfa : Nfa
  -- the state where anchored searches begin
  pub anchored : ℕ
  -- the state where unanchored searches begin
  pub unanchored : ℕ
  -- the state where anchored searches of each pattern begin
  pub starts : List ℕ
  -- whether offsets inside a character are skipped, if the NFA has the empty match
  pub utf8 : Bool
  -- the match kind, which says which path is the match
  pub kind : MatchKind

-- The state where the paths of an anchored mode start; none past the last pattern.
abbrev pub first_state : Engine → Anchored → Option ℕ
first_state d No = Some d.unanchored
first_state d Yes = Some d.anchored
first_state d (Pattern k) = slice_get d.starts k

-- Epsilon edges lead from some pattern's start to a match, with every look taken as true.
abbrev pub MatchesEmpty : Nfa → (starts : List ℕ) → Type 0
MatchesEmpty n starts = (start q p : ℕ) × In start starts × HasEpsilonPath n start q × (accepts n q ≡ Some p)

-- The NFA of the engine has the empty match: epsilon edges lead from some pattern's start to a match, with every look
-- taken as true.
abbrev pub HasEmptyMatch : Engine → Type 0
HasEmptyMatch d = MatchesEmpty d.nfa d.starts

-- Split places are skipped if the NFA has the empty match and is in UTF-8 mode.
abbrev pub IsSkipping : Engine → Type 0
IsSkipping d = (d.utf8 ≡ true) × HasEmptyMatch d

-- `q` has an edge to `r`, with every look taken as true.
pub data HasEdge (n : Nfa) (q r : ℕ) : Type 0 where
  -- an epsilon edge
  FreeEdge : (e : ℕ) → hop n all_true q e ≡ Some r → HasEdge n q r
  -- an edge that reads a byte
  ByteEdge : (u : ℕ) → takes n q u ≡ Some r → HasEdge n q r

-- Edges lead from `q` over these states to `z`.
abbrev pub Road : Nfa → ℕ → List ℕ → ℕ → Type 0
Road n q [] z = q ≡ z
Road n q (r ∷ rs) z = HasEdge n q r × Road n r rs z

-- Edges lead from `q` to `z`, over any number of states.
abbrev pub Reaches : Nfa → ℕ → ℕ → Type 0
Reaches n q z = (rs : List ℕ) × Road n q rs z

-- Every search begins anchored: anchored and unanchored searches have the same start.
abbrev pub BeginsAnchored : Engine → Type 0
BeginsAnchored d = d.unanchored ≡ d.anchored

-- The node that leads to `next` on any byte.
abbrev pub any_byte : ℕ → Node
any_byte next = Read (record { lo = 0; hi = 255; next = next } ∷ [])

-- The unanchored start is a union that first tries the anchored start and then, after any byte, itself, and no edge
-- leads back to it from the anchored start.
abbrev pub LoopsLazily : Nfa → (anchored unanchored skip : ℕ) → Type 0
LoopsLazily n anchored unanchored skip =
    (node n unanchored ≡ Split (anchored ∷ skip ∷ [])) × (node n skip ≡ any_byte unanchored)
    × (Reaches n anchored unanchored → ⊥)

-- Unanchored searches begin at the anchored start, or lazily skip bytes before it.
pub data BeginsLazily (n : Nfa) (anchored unanchored : ℕ) : Type 0 where
  -- they begin at the anchored start
  SharedStart : unanchored ≡ anchored → BeginsLazily n anchored unanchored
  -- they begin there, or after any bytes, the fewest first
  LazyLoop : (skip : ℕ) → LoopsLazily n anchored unanchored skip → BeginsLazily n anchored unanchored

-- An NFA, searched under a match kind.
abbrev pub engine_of : Automaton → MatchKind → Engine
engine_of a kind = record {
  nfa = nfa_of a;
  anchored = a.start_anchored;
  unanchored = a.start_unanchored;
  starts = a.start_pattern;
  utf8 = a.flags.utf8;
  kind = kind;
}
