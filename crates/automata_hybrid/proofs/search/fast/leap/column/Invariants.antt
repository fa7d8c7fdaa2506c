use Rattle.std.proofs.Common.{◌≡◌, ◌^◌, ◌<◌}
use Rattle.automata_hybrid.specs.Private.Fast.Leaps.{column_of}
use Rattle.automata_hybrid.proofs.search.fast.leap.column.Given as goal

abbrev pub invariant-loop-k : goal.invariant-loop-k
invariant-loop-k l = record {
  value : l.column ≡ column_of l.dfa.classes l.classes l.way l.bytes l.at l.k;
  below : l.column < l.classes ^ l.k;
}
