use Rattle.automata_transform.specs.Nfas.FlattenedNfas.{IsNoLink}
use Rattle.automata_base.proofs.Powersets.KeptClosures.{tested_next, tested_all}
use Rattle.automata_transform.proofs.flattening.has_link.Goals as goal

pub loop-i-preserved : goal.loop-i-preserved
loop-i-preserved c =
    tested_next (IsNoLink c.args.links.now) c.args.ids.now c.loop-i.i c.index-ids-i.result c.loop-i-test.true
    c.index-ids-i.is (c.is_link.ensures.no c.if-is_link.false) c.loop-i.invariant

pub returns : goal.returns
returns c = λ _.
    tested_all (IsNoLink c.args.links.now) c.args.ids.now c.loop-i.i c.loop-i-test.false c.loop-i.invariant
