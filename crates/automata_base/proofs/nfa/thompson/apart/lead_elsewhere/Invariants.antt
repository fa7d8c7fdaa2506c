use Rattle.std.proofs.Common.{◌≡◌, drop}
use Rattle.automata_base.specs.Retraced.Apart.{lead_elsewhere}
use Rattle.automata_base.proofs.nfa.thompson.apart.lead_elsewhere.Given as goal

abbrev pub invariant-loop-i : goal.invariant-loop-i
invariant-loop-i l = lead_elsewhere l.one l.two l.transitions ≡ lead_elsewhere l.one l.two (drop l.i l.transitions)
