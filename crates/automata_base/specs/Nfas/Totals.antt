-- Totals over the states of an NFA.
use Rattle.std.specs.Prelude.{◌≡◌, eqb, List}
use Rattle.automata_base.specs.declared.nfa.thompson.state.State.{State}
use Rattle.automata_base.specs.declared.nfa.thompson.checks.Totals.{Totals}
use Rattle.automata_base.specs.Haystacks.Looks.{Look, look_index}
use Rattle.automata_base.specs.Haystacks.LookSets.{truth_of}
use Rattle.automata_base.specs.Nfas.Nfa.{any_node}
use Rattle.automata_base.specs.Nfas.Nodes.{nodes_of, stack_room}

-- the totals that one pass over the states computes
pub record AreTotals (states : List State) (totals : Totals) : Type 0 where
  -- the room that the stack of a closure needs
  pub room : totals.room ≡ stack_room states
  -- the looks that occur
  pub looks :
      (other : Look)
      → truth_of totals.looks other ≡ any_node (λ look. eqb (look_index look) (look_index other)) (nodes_of states)
