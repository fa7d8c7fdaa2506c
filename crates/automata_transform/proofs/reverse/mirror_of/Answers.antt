use Rattle.std.proofs.Common.{List, ◌≡◌, true, length, sym, subst}
use Rattle.automata_base.specs.declared.nfa.thompson.state.State.{State}
use Rattle.automata_base.specs.Nfas.Errors.{states_below, states_ordered}
use Rattle.automata_base.proofs.Nfas.Reach.InRange.{checked_below}
use Rattle.automata_transform.proofs.reverse.mirror_of.Goals as goal

pub reverse_states-requires-clause-range : goal.reverse_states-requires-clause-range
reverse_states-requires-clause-range c =
    subst (λ (z : List State). states_below (length z) z ≡ true) (sym c.states-states.ensures.same)
    (checked_below c.args.nfa.now c.states-states.ensures.checked)

pub reverse_states-requires-clause-ordered : goal.reverse_states-requires-clause-ordered
reverse_states-requires-clause-ordered c =
    subst (λ (z : List State). states_ordered z ≡ true) (sym c.states-states.ensures.same)
    c.states-states.ensures.checked.ordered
