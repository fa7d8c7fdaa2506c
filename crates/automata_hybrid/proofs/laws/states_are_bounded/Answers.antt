use Rattle.std.proofs.Common.{subst}
use Rattle.automata_hybrid.proofs.Words.{StatesReportOwn}
use Rattle.automata_hybrid.proofs.laws.states_are_bounded.Goals as goal

pub returns-clause-own : goal.returns-clause-own
returns-clause-own c = subst StatesReportOwn c.get_nfa.ensures c.steps_are_right.ensures.own
