use Rattle.std.proofs.Common.{◌≡◌, drop}
use Rattle.automata_base.specs.Nfas.Errors.{states_below}
use Rattle.automata_base.proofs.nfa.thompson.checks.are_below.Given as goal

abbrev pub invariant-loop-i : goal.invariant-loop-i
invariant-loop-i l = states_below l.n l.states ≡ states_below l.n (drop l.i l.states)
