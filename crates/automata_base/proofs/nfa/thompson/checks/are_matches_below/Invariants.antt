use Rattle.std.proofs.Common.{◌≡◌, drop}
use Rattle.automata_base.specs.Nfas.Errors.{matches_below}
use Rattle.automata_base.proofs.nfa.thompson.checks.are_matches_below.Given as goal

abbrev pub invariant-loop-i : goal.invariant-loop-i
invariant-loop-i l = matches_below l.n l.states ≡ matches_below l.n (drop l.i l.states)
