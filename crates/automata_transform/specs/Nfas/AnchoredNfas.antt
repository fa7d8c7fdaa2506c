-- NFAs whose matches begin only at the start of a haystack, and the same NFAs without a loop that skips bytes.
use Rattle.std.specs.Prelude.{ℕ, ◌≡◌, true, false, List, []}
use Rattle.automata_base.specs.declared.util.look.Look.TheVariants.{Start}
use Rattle.automata_base.specs.Nfas.Getters.{SkipsLazily}
use Rattle.automata_base.specs.Nfas.Nfa.{Truth, ends_at, node}
use Rattle.automata_base.specs.Nfas.Nodes.{Automaton, nfa_of}
use Rattle.automata_base.specs.Paths.Paths.{IsPathAt}
use Rattle.automata_base.specs.Powersets.Passes.{Occurs}

-- Every look but `Look::Start` is taken as true.
abbrev pub all_but_start : Truth
all_but_start Start = false
all_but_start look = true

-- Where `Look::Start` does not hold, epsilon edges from the anchored start lead to no state that reads a byte or
-- matches.
abbrev pub NeedsStart : Automaton → Type 0
NeedsStart a =
    (q : ℕ) (path : List ℕ) → IsPathAt (nfa_of a) all_but_start [] a.start_anchored path q
    → ends_at (node (nfa_of a) q) ≡ false

-- Each path from the anchored start passes `Look::Start` before it reads a byte or matches, and the NFA has that look.
-- So matches begin only at the start of a haystack.
abbrev pub AssertsStart : Automaton → Type 0
AssertsStart a = Occurs (nfa_of a) Start × NeedsStart a

-- The lazy loop before the anchored start is of no use: no match begins after a byte that it skips.
pub record MayBeginAnchored (a : Automaton) : Type 0 where
  -- matches begin only at the start of a haystack
  pub asserts : AssertsStart a
  -- unanchored searches skip bytes lazily, or begin at the anchored start
  pub skips : SkipsLazily a
  -- the NFA does not keep unions
  pub unions : a.keeps_unions ≡ false

-- The second NFA has the states, the starts and the flags of the first, but its unanchored searches begin at the
-- anchored start.
pub record BeginsAnchoredAs (a b : Automaton) : Type 0 where
  -- paths see the same states
  pub nfa : nfa_of b ≡ nfa_of a
  -- anchored searches begin at the same state
  pub anchored : b.start_anchored ≡ a.start_anchored
  -- unanchored searches begin there, too
  pub unanchored : b.start_unanchored ≡ a.start_anchored
  -- searches for each pattern begin at the same state
  pub patterns : b.start_pattern ≡ a.start_pattern
  -- the flags are the same
  pub flags : b.flags ≡ a.flags

-- The second NFA is the first one, without its lazy loop if that is of no use.
pub data IsAnchoredNfa (a b : Automaton) : Type 0 where
  -- the loop is of no use, and unanchored searches begin at the anchored start
  DropsLoop : MayBeginAnchored a → BeginsAnchoredAs a b → IsAnchoredNfa a b
  -- the loop may be of use, and the NFA is unchanged
  KeepsLoop : (MayBeginAnchored a → ⊥) → b ≡ a → IsAnchoredNfa a b
