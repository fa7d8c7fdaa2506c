use Rattle.std.proofs.Common.{◌≡◌, drop}
use Rattle.automata_base.specs.Retraced.Decoders.{pairs_at}
use Rattle.automata_base.specs.Retraced.Once.{once_from}
use Rattle.automata_base.proofs.nfa.thompson.utf8.add_pairs.Given as goal

abbrev pub invariant-loop-id : goal.invariant-loop-id
invariant-loop-id l = record {
  rest :
      once_from l.set.items (pairs_at l.decoder (drop l.id-index l.ids))
      ≡ once_from l.fn.set.items (pairs_at l.decoder l.ids);
  capacity : l.set.capacity ≡ l.fn.set.capacity;
}
