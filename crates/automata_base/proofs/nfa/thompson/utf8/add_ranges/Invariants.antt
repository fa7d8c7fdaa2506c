use Rattle.std.proofs.Common.{◌≡◌, drop}
use Rattle.automata_base.specs.Retraced.Decoders.{ranges_pairs}
use Rattle.automata_base.specs.Nfas.Nodes.{ranges_of}
use Rattle.automata_base.specs.Retraced.Once.{once_from}
use Rattle.automata_base.proofs.nfa.thompson.utf8.add_ranges.Given as goal

abbrev pub invariant-loop-range : goal.invariant-loop-range
invariant-loop-range l = record {
  rest : once_from l.set.items (ranges_pairs l.classes l.decoder (ranges_of (drop l.range-index l.ranges)))
      ≡ once_from l.fn.set.items (ranges_pairs l.classes l.decoder (ranges_of l.ranges));
  capacity : l.set.capacity ≡ l.fn.set.capacity;
}
