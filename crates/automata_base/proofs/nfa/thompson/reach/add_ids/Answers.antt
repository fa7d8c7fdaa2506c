use Rattle.std.proofs.Common.{ap, ◌∙◌}
use Rattle.automata_base.specs.Lists.{all_below}
use Rattle.automata_base.proofs.Nfas.Reach.Adding.{id_below}
use Rattle.automata_base.proofs.nfa.thompson.reach.add_ids.Goals as goal

pub add-requires : goal.add-requires
add-requires c =
    id_below c.loop-id.set.capacity c.args.ids.now c.loop-id.id-index c.id-item.result
    (ap (λ z. all_below z c.args.ids.now) c.loop-id.invariant.capacity ∙ c.requires) c.loop-id-test.true c.id-item.is
