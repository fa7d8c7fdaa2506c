use Rattle.std.proofs.Common.{◌≡◌, drop}
use Rattle.automata_base.specs.Nfas.Errors.{ordered_from}
use Rattle.automata_base.proofs.nfa.thompson.checks.is_ordered.Given as goal

abbrev pub invariant-loop-i : goal.invariant-loop-i
invariant-loop-i l = ordered_from 0 l.xs ≡ ordered_from l.low (drop l.i l.xs)
