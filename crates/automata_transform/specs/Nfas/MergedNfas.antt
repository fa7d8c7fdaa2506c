-- The NFA that results from merging unions.
use Rattle.std.specs.Prelude.{ℕ, ◌≡◌, ◌≤◌, ◌+◌, ◌*◌, List, Some, length, slice_get}
use Rattle.automata_base.specs.declared.nfa.thompson.state.State.TheVariants.{Capture}
use Rattle.automata_base.specs.Nfas.Getters.{SkipsLazily}
use Rattle.automata_transform.specs.Nfas.Merges.{IsMerged}
use Rattle.automata_base.specs.Nfas.Nodes.{Automaton, nfa_of, stack_room}
use Rattle.automata_base.specs.Paths.Paths.{IsLookAcyclic}

-- The second NFA has the starts and the flags of the first, and keeps unions if that does.
pub record BeginsAs (a b : Automaton) : Type 0 where
  -- anchored searches begin at the same state
  pub anchored : b.start_anchored ≡ a.start_anchored
  -- unanchored searches begin at the same state
  pub unanchored : b.start_unanchored ≡ a.start_unanchored
  -- searches for each pattern begin at the same state
  pub patterns : b.start_pattern ≡ a.start_pattern
  -- the flags are the same
  pub flags : b.flags ≡ a.flags
  -- both keep unions, or neither does
  pub unions : b.keeps_unions ≡ a.keeps_unions

-- The second NFA is the first one, with some of its unions merged, or none.
pub record IsMergedNfa (a b : Automaton) : Type 0 where
  -- it has the same starts and flags
  pub begins : BeginsAs a b
  -- the lists of states that its additional states stand for
  pub lists : List (List ℕ)
  -- its states are those of the first one, merged
  pub merged : IsMerged (nfa_of a) (nfa_of b) a.start_anchored lists

-- The most states that an NFA has after its unions are merged: nine for each state before, and 4,096 in addition.
abbrev pub most_merged : Automaton → ℕ
most_merged a = 9 * length a.states + 4096

-- Each capture state of the first NFA is the same in the second one, with its pattern, its group and its slot.
abbrev pub KeepsCaptures : (a b : Automaton) → Type 0
KeepsCaptures a b =
    (q next pattern group slot : ℕ) → slice_get a.states q ≡ Some (Capture next pattern group slot)
    → slice_get b.states q ≡ Some (Capture next pattern group slot)

-- A search needs no more for the second NFA than for the first.
pub record KeepsBounds (a b : Automaton) : Type 0 where
  -- the stack of a closure needs no more room
  pub room : stack_room b.states ≤ stack_room a.states
  -- no cycle of epsilon edges passes a look, if none does in the first one
  pub acyclic : IsLookAcyclic (nfa_of a) → IsLookAcyclic (nfa_of b)
  -- unanchored searches begin at the anchored start, or skip bytes lazily, if they do in the first one
  pub skips : SkipsLazily a → SkipsLazily b
