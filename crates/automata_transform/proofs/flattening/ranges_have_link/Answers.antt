use Rattle.automata_transform.proofs.Nfas.Flattens.Tests.{ranges_all, ranges_next}
use Rattle.automata_transform.proofs.flattening.ranges_have_link.Goals as goal

pub loop-i-preserved : goal.loop-i-preserved
loop-i-preserved c =
    ranges_next c.args.links.now c.args.ranges.now c.loop-i.i c.index-ranges-i.result c.loop-i-test.true
    (c.is_link.ensures.no c.if-is_link.false) c.loop-i.invariant

pub returns : goal.returns
returns c = λ _. ranges_all c.args.links.now c.args.ranges.now c.loop-i.i c.loop-i-test.false c.loop-i.invariant
