use Rattle.std.proofs.Common.{ℕ, ◌≡◌, ◌<◌, ◌++◌, length, get_or, take}
use Rattle.automata_base.proofs.util.sparse_set.SparseSet.append.Given as goal

abbrev pub invariant-loop-i : goal.invariant-loop-i
invariant-loop-i l = record {
  taken : take l.end l.self-inside.dense.items ≡ l.fn.self.items ++ l.list;
  long : length l.self-inside.dense.items ≡ l.fn.self.capacity;
  same : length l.self-inside.sparse.items ≡ l.fn.self.capacity;
  back : (k : ℕ) → k < l.i → get_or l.self-inside.sparse.items (get_or l.self-inside.dense.items k 0) 0 ≡ k;
}
