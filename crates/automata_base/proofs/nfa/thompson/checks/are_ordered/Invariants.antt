use Rattle.std.proofs.Common.{◌≡◌, drop}
use Rattle.automata_base.specs.Nfas.Errors.{states_ordered}
use Rattle.automata_base.proofs.nfa.thompson.checks.are_ordered.Given as goal

abbrev pub invariant-loop-i : goal.invariant-loop-i
invariant-loop-i l = states_ordered l.states ≡ states_ordered (drop l.i l.states)
