use Rattle.automata_determinize.proofs.Powersets.ReportsAreRight.{reported_ends_right, reported_right}
use Rattle.automata_determinize.proofs.Answers.Within.{reported_lies}
use Rattle.automata_determinize.proofs.laws.reported_is_right.Goals as goal

pub returns-clause-answer : goal.returns-clause-answer
returns-clause-answer c = reported_right c.args.nfa.now c.states-states.ensures.checked

pub returns-clause-ends : goal.returns-clause-ends
returns-clause-ends c = reported_ends_right c.args.nfa.now c.states-states.ensures.checked

pub returns-clause-within : goal.returns-clause-within
returns-clause-within c = reported_lies c.args.nfa.now c.states-states.ensures.checked
