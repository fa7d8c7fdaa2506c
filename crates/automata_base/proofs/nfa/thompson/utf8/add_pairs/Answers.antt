use Rattle.std.proofs.Common.{◌/◌, ap, ◌∙◌}
use Rattle.automata_base.specs.Lists.{all_below}
use Rattle.automata_base.proofs.Nfas.Reach.Adding.{id_below}
use Rattle.automata_base.proofs.nfa.thompson.utf8.add_pairs.Goals as goal

pub add_pair-requires-clause-below : goal.add_pair-requires-clause-below
add_pair-requires-clause-below c =
    id_below (c.loop-id.set.capacity / 11) c.args.ids.now c.loop-id.id-index c.id-item.result
    (ap (λ z. all_below (z / 11) c.args.ids.now) c.loop-id.invariant.capacity ∙ c.requires.below) c.loop-id-test.true
    c.id-item.is
