use Rattle.std.proofs.Common.{◌≡◌, drop}
use Rattle.automata_base.specs.Retraced.Decoders.{range_pairs}
use Rattle.automata_base.specs.Nfas.Nodes.{range_of}
use Rattle.automata_base.specs.Retraced.Once.{once_from}
use Rattle.automata_base.proofs.nfa.thompson.utf8.add_range.Given as goal

abbrev pub invariant-loop-class : goal.invariant-loop-class
invariant-loop-class l = record {
  rest : once_from l.set.items (range_pairs (drop l.class-index l.classes) l.decoder (range_of l.range))
      ≡ once_from l.fn.set.items (range_pairs l.classes l.decoder (range_of l.range));
  capacity : l.set.capacity ≡ l.fn.set.capacity;
}
