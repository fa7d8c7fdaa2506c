use Rattle.std.proofs.Common.{◌∙◌, ap}
use Rattle.automata_base.specs.Nfas.Nodes.{nodes_of}
use Rattle.automata_transform.proofs.Nfas.Anchored.{copied_next}
use Rattle.automata_transform.proofs.anchoring.copies_of.Goals as goal

pub loop-state-preserved : goal.loop-state-preserved
loop-state-preserved c =
    ap nodes_of c.in_ok-push.ensures.items
    ∙ copied_next c.args.states.now c.loop-state.copies.items c.loop-state.state-index c.state-item.result
    c.in_ok-copy.copy c.loop-state-test.true c.state-item.is c.in_ok-copy.ensures c.loop-state.invariant
