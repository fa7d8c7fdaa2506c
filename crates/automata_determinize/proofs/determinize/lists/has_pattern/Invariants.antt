use Rattle.std.proofs.Common.{◌≡◌, drop}
use Rattle.automata_base.specs.Retraced.Computed.{is_in}
use Rattle.automata_determinize.proofs.determinize.lists.has_pattern.Given as goal

abbrev pub invariant-loop-i : goal.invariant-loop-i
invariant-loop-i l = is_in l.p l.patterns ≡ is_in l.p (drop l.i l.patterns)
