use Rattle.std.proofs.Common.{ℕ, suc, ◌≡◌, ◌*◌, length}
use Rattle.automata_hybrid.specs.Private.Cache.Leaps.{IsLevel}
use Rattle.automata_hybrid.proofs.cache.leaps.next_level.Given as goal

abbrev pub invariant-loop-row : goal.invariant-loop-row
invariant-loop-row l = record {
  long : length l.next.items ≡ l.row-index * l.classes;
  level : (count : ℕ) → IsLevel l._table l.classes count l.level → IsLevel l._table l.classes (suc count) l.next.items;
}
