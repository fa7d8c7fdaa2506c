use Rattle.std.proofs.Common.{[], ◌∙◌}
use Rattle.automata_base.specs.Retraced.Decoders.{range_pairs}
use Rattle.automata_base.specs.Nfas.Nodes.{range_of}
use Rattle.automata_base.specs.Retraced.Once.{once_from}
use Rattle.automata_base.proofs.Nfas.Utf8.Adding.{class_below, class_next}
use Rattle.automata_base.proofs.nfa.thompson.utf8.add_range.Goals as goal

pub add_class-requires-clause-class : goal.add_class-requires-clause-class
add_class-requires-clause-class c =
    class_below c.args.classes.now c.loop-class.class-index (record { first = 0; last = 0; to = [] }) c.requires.classes
    c.loop-class-test.true

pub loop-class-preserved : goal.loop-class-preserved
loop-class-preserved c = record {
  rest =
      class_next c.args.classes.now c.args.decoder (range_of c.args.range.now) c.loop-class.set.items
      c.add_class.new.set.items
      (once_from c.args.set.now.items (range_pairs c.args.classes.now c.args.decoder (range_of c.args.range.now)))
      c.loop-class.class-index (record { first = 0; last = 0; to = [] }) c.loop-class-test.true
      c.add_class.ensures.items c.loop-class.invariant.rest;
  capacity = c.add_class.ensures.capacity ∙ c.loop-class.invariant.capacity;
}
