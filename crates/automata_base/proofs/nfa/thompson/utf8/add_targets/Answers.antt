use Rattle.std.proofs.Common.{◌/◌, ◌<◌, get_or, length, arith, ap, ◌∙◌}
use Rattle.automata_base.specs.Retraced.Decoders.{ranges_pairs}
use Rattle.automata_base.specs.Lists.{all_below}
use Rattle.automata_base.specs.Nfas.Nodes.{dense_from}
use Rattle.automata_base.specs.Retraced.Once.{once_from}
use Rattle.automata_base.proofs.Nfas.Reach.Adding.{id_below}
use Rattle.automata_base.proofs.Nfas.Utf8.Adding.{target_next}
use Rattle.automata_base.proofs.nfa.thompson.utf8.add_targets.Goals as goal

pub add_target-requires-clause-below : goal.add_target-requires-clause-below
add_target-requires-clause-below c =
    let next = get_or c.args.targets.now c.loop-byte.byte c.index-targets-byte.result in
    let l : c.loop-byte.byte < length c.args.targets.now = omega (arith, c.type_inv.targets, c.loop-byte-test.true) in
    id_below (c.loop-byte.set.capacity / 11) c.args.targets.now c.loop-byte.byte next
    (ap (λ z. all_below (z / 11) c.args.targets.now) c.loop-byte.invariant.capacity ∙ c.requires.below) l
    (ap (get_or c.args.targets.now c.loop-byte.byte) c.index-targets-byte.is)

pub loop-byte-preserved : goal.loop-byte-preserved
loop-byte-preserved c =
    let next = get_or c.args.targets.now c.loop-byte.byte c.index-targets-byte.result in
    let l : c.loop-byte.byte < length c.args.targets.now = omega (arith, c.type_inv.targets, c.loop-byte-test.true) in
    record {
      rest =
          target_next c.args.classes.now c.args.decoder c.args.targets.now c.loop-byte.set.items
          c.add_target.new.set.items
          (once_from c.args.set.now.items
          (ranges_pairs c.args.classes.now c.args.decoder (dense_from 0 c.args.targets.now)))
          c.loop-byte.byte next l (ap (get_or c.args.targets.now c.loop-byte.byte) c.index-targets-byte.is)
          c.add_target.ensures.items c.loop-byte.invariant.rest;
      capacity = c.add_target.ensures.capacity ∙ c.loop-byte.invariant.capacity;
    }
