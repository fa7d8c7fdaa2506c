use Rattle.std.proofs.Common.{map}
use Rattle.automata_transform.specs.Retraced.ReversedEdges.{copy_of}
use Rattle.automata_transform.proofs.Nfas.Mirrors.Copies.{in_slice, map_next, map_done}
use Rattle.automata_transform.proofs.copies.copy_ids.Goals as goal

pub copy_id-copy-requires-clause-member : goal.copy_id-copy-requires-clause-member
copy_id-copy-requires-clause-member c =
    c.requires.members c.id-item.result
    (in_slice c.args.ids.now c.loop-id.id-index c.id-item.result c.loop-id-test.true c.id-item.is)

pub loop-id-preserved : goal.loop-id-preserved
loop-id-preserved c =
    map_next (copy_of c.args.base c.args.set.now.items) c.args.ids.now c.loop-id.copies.items c.push_id.new.ids.items
    (map (copy_of c.args.base c.args.set.now.items) c.args.ids.now) c.loop-id.id-index c.id-item.result
    c.copy_id-copy.result
    c.loop-id-test.true c.id-item.is c.copy_id-copy.ensures c.in_ok-push_id.ensures c.loop-id.invariant

pub returns : goal.returns
returns c =
    map_done (copy_of c.args.base c.args.set.now.items) c.args.ids.now c.loop-id.copies.items
    (map (copy_of c.args.base c.args.set.now.items) c.args.ids.now) c.loop-id.id-index c.loop-id-test.false
    c.loop-id.invariant
