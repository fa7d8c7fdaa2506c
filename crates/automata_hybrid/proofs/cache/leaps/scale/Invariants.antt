use Rattle.std.proofs.Common.{ℕ, ◌≡◌, ◌<◌, ◌≤◌, length, slice_index}
use Rattle.automata_hybrid.specs.Private.Cache.Leaps.{first_cell}
use Rattle.automata_hybrid.proofs.cache.leaps.scale.Given as goal

abbrev pub invariant-loop-k : goal.invariant-loop-k
invariant-loop-k l = record {
  long : length l.cells.items ≡ length l.fn.cells.items;
  done : (j : ℕ) → j < l.k → slice_index l.cells.items j ≡ first_cell l.rows l.width (slice_index l.fn.cells.items j);
  left : (j : ℕ) → l.k ≤ j → slice_index l.cells.items j ≡ slice_index l.fn.cells.items j;
}
