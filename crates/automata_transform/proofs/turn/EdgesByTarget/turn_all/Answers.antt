use Rattle.std.proofs.Common.{ap, ◌∙◌}
use Rattle.automata_base.specs.Lists.{all_below}
use Rattle.automata_base.proofs.Nfas.Reach.Adding.{id_below}
use Rattle.automata_transform.proofs.turn.EdgesByTarget.turn_all.Goals as goal

pub turn_free-requires : goal.turn_free-requires
turn_free-requires c =
    id_below _ c.args.alternates.now c.loop-to.to-index c.to-item.result
    (ap (λ z. all_below z c.args.alternates.now) c.loop-to.invariant.few ∙ c.requires) c.loop-to-test.true c.to-item.is
