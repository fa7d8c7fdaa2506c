use Rattle.automata_transform.proofs.Nfas.Mirrors.Lists.{lists_same}
use Rattle.automata_transform.proofs.segments.make_room.Goals as goal

pub returns-in_ok-reserve-clause-same : goal.returns-in_ok-reserve-clause-same
returns-in_ok-reserve-clause-same c =
    lists_same c.args.lists.now.items c.args.node c.index_mut.result.now c.reserve.new.self c.requires
    c.index_mut.ensures.value
    c.reserve.ensures.items
