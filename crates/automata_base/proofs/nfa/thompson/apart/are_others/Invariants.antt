use Rattle.std.proofs.Common.{◌≡◌, drop}
use Rattle.automata_base.specs.Retraced.Apart.{are_others}
use Rattle.automata_base.proofs.nfa.thompson.apart.are_others.Given as goal

abbrev pub invariant-loop-i : goal.invariant-loop-i
invariant-loop-i l = are_others l.one l.two l.ids ≡ are_others l.one l.two (drop l.i l.ids)
