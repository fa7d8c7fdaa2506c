-- The data of an NFA, as contracts see it.
use Rattle.std.specs.Prelude.{ℕ, Bool, false, ◌≡◌, ◌↔◌, IsTrue, List}
use Rattle.automata_base.specs.declared.nfa.thompson.Data.{Data}
use Rattle.automata_base.specs.declared.nfa.thompson.state.Flags.{Flags}
use Rattle.automata_base.specs.declared.nfa.thompson.state.State.{State}
use Rattle.automata_base.specs.Nfas.Nodes.{Automaton, nfa_of, stack_room}
use Rattle.automata_base.specs.Paths.Paths.{IsLookAcyclic}
use Rattle.automata_base.specs.Nfas.Accepted.{IsChecked, IsLooks}
use Rattle.automata_base.specs.Nfas.Getters.{HasEmpty, SkipsLazily}

-- The NFA with these parts, as contracts see it; it does not keep unions.
abbrev pub automaton : List State → (anchored unanchored : ℕ) → (starts : List ℕ) → Flags → Automaton
automaton states anchored unanchored starts flags = record {
  states = states;
  start_anchored = anchored;
  start_unanchored = unanchored;
  start_pattern = starts;
  flags = flags;
  keeps_unions = false;
}

-- The NFA with this data, as contracts see it.
abbrev pub automaton_of : Data → (keeps_unions : Bool) → Automaton
automaton_of d keeps_unions = record {
  states = d.states.items;
  start_anchored = d.start_anchored;
  start_unanchored = d.start_unanchored;
  start_pattern = d.start_pattern.items;
  flags = d.flags;
  keeps_unions = keeps_unions;
}

-- `NFA::from_states` accepts the data of the NFA, and the properties that were computed from its states are right.
pub record IsConsistent (d : Data) (keeps_unions : Bool) : Type 0 where
  -- it passes the tests of `NFA::from_states`
  pub checked : IsChecked (automaton_of d keeps_unions)
  -- its set of looks has exactly the looks that are states of the NFA
  pub looks : IsLooks (automaton_of d keeps_unions) d.looks
  -- its room is what the stack of a closure needs
  pub room : d.room ≡ stack_room d.states.items
  -- it says correctly whether it has the empty match
  pub empty : IsTrue d.has_empty ↔ HasEmpty (automaton_of d keeps_unions)
  -- it says correctly whether unanchored searches begin at the anchored start, or lazily skip bytes before it
  pub skips : IsTrue d.skips_lazily ↔ SkipsLazily (automaton_of d keeps_unions)
  -- it says correctly whether no cycle of epsilon edges passes a look
  pub acyclic : IsTrue d.is_look_acyclic ↔ IsLookAcyclic (nfa_of (automaton_of d keeps_unions))
