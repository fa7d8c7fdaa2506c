use Rattle.std.proofs.Common.{◌≡◌, length}
use Rattle.automata_hybrid.proofs.Words.{marked}
use Rattle.automata_hybrid.proofs.cache.table.new_row.Given as goal

abbrev pub invariant-loop-byte : goal.invariant-loop-byte
invariant-loop-byte l = record {
  marked : l.cells.items ≡ marked l.classes l.quits l.stride l.byte;
  whole : length l.cells.items ≡ l.stride;
}
