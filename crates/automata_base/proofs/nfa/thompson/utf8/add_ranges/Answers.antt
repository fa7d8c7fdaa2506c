use Rattle.std.proofs.Common.{◌/◌, ap, ◌∙◌}
use Rattle.automata_base.specs.Retraced.Decoders.{ranges_pairs}
use Rattle.automata_base.specs.Nfas.Nodes.{ranges_of}
use Rattle.automata_base.specs.Retraced.Once.{once_from}
use Rattle.automata_base.specs.Nfas.Errors.{transitions_below}
use Rattle.automata_base.proofs.Nfas.Reach.Adding.{next_below}
use Rattle.automata_base.proofs.Nfas.Utf8.Adding.{range_next}
use Rattle.automata_base.proofs.nfa.thompson.utf8.add_ranges.Goals as goal

pub add_range-requires-clause-below : goal.add_range-requires-clause-below
add_range-requires-clause-below c =
    next_below (c.loop-range.set.capacity / 11) c.args.ranges.now c.loop-range.range-index c.range-item.result
    (ap (λ z. transitions_below (z / 11) c.args.ranges.now) c.loop-range.invariant.capacity ∙ c.requires.below)
    c.loop-range-test.true c.range-item.is

pub loop-range-preserved : goal.loop-range-preserved
loop-range-preserved c = record {
  rest = range_next c.args.classes.now c.args.decoder c.args.ranges.now c.loop-range.set.items c.add_range.new.set.items
      (once_from c.args.set.now.items (ranges_pairs c.args.classes.now c.args.decoder (ranges_of c.args.ranges.now)))
      c.loop-range.range-index c.range-item.result c.loop-range-test.true c.range-item.is c.add_range.ensures.items
      c.loop-range.invariant.rest;
  capacity = c.add_range.ensures.capacity ∙ c.loop-range.invariant.capacity;
}
