use Rattle.std.proofs.Common.{◌≡◌, drop}
use Rattle.automata_base.specs.Retraced.Decoders.{ranges_pairs}
use Rattle.automata_base.specs.Nfas.Nodes.{dense_from}
use Rattle.automata_base.specs.Retraced.Once.{once_from}
use Rattle.automata_base.proofs.nfa.thompson.utf8.add_targets.Given as goal

abbrev pub invariant-loop-byte : goal.invariant-loop-byte
invariant-loop-byte l = record {
  rest : once_from l.set.items (ranges_pairs l.classes l.decoder (dense_from l.byte (drop l.byte l.targets)))
      ≡ once_from l.fn.set.items (ranges_pairs l.classes l.decoder (dense_from 0 l.targets));
  capacity : l.set.capacity ≡ l.fn.set.capacity;
}
