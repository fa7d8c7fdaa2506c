use Rattle.std.proofs.Common.{◌<◌, subst}
use Rattle.automata_determinize.proofs.Powersets.Stepping.{starts_are_right, successors_are_right}
use Rattle.automata_base.proofs.Powersets.ReportsAreRight.{start_below}
use Rattle.automata_base.proofs.Powersets.Walking.{nodes_length}
use Rattle.automata_determinize.proofs.Answers.Within.{states_own}
use Rattle.automata_determinize.proofs.laws.steps_are_right.Goals as goal

pub returns-clause-successors : goal.returns-clause-successors
returns-clause-successors c = successors_are_right c.args.nfa.now c.states-states.ensures.checked.range

pub returns-clause-starts : goal.returns-clause-starts
returns-clause-starts c = starts_are_right c.args.nfa.now c.states-states.ensures.checked.range
    (λ mode s e.
    subst (λ v. s < v) (nodes_length c.args.nfa.now.states)
    (start_below c.args.nfa.now mode s c.states-states.ensures.checked e))

pub returns-clause-own : goal.returns-clause-own
returns-clause-own c = states_own c.args.nfa.now c.states-states.ensures.checked
