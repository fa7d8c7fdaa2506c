use Rattle.std.proofs.Common.{◌≡◌, drop}
use Rattle.automata_base.specs.Nfas.Errors.{transitions_below}
use Rattle.automata_base.proofs.nfa.thompson.checks.targets_below.Given as goal

abbrev pub invariant-loop-i : goal.invariant-loop-i
invariant-loop-i l = transitions_below l.n l.xs ≡ transitions_below l.n (drop l.i l.xs)
