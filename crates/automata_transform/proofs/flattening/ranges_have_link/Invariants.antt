use Rattle.automata_transform.proofs.Nfas.Flattens.Tests.{RangesFree}
use Rattle.automata_transform.proofs.flattening.ranges_have_link.Given as goal

abbrev pub invariant-loop-i : goal.invariant-loop-i
invariant-loop-i l = RangesFree l.links l.ranges l.i
