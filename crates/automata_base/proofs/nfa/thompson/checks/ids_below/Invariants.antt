use Rattle.std.proofs.Common.{◌≡◌, drop}
use Rattle.automata_base.specs.Lists.{all_below}
use Rattle.automata_base.proofs.nfa.thompson.checks.ids_below.Given as goal

abbrev pub invariant-loop-i : goal.invariant-loop-i
invariant-loop-i l = all_below l.n l.xs ≡ all_below l.n (drop l.i l.xs)
