use Rattle.std.proofs.Common.{length}
use Rattle.automata_transform.proofs.Nfas.Folds.Led.{union_below}
use Rattle.automata_base.proofs.Nfas.Reach.Adding.{state_at_below}
use Rattle.automata_transform.proofs.folding.has_wide.Goals as goal

pub count_reads-requires : goal.count_reads-requires
count_reads-requires c =
    union_below (length c.args.states.now) c.state-item.result c.in-Some.alternates.now
    (state_at_below (length c.args.states.now) c.args.states.now c.loop-state.state-index c.state-item.result c.requires
    c.loop-state-test.true c.state-item.is) c.in-Some.ensures.some.0
