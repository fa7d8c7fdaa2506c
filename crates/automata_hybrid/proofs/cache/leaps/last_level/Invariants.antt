use Rattle.std.proofs.Common.{◌≡◌, ◌*◌, ◌^◌, length}
use Rattle.automata_hybrid.specs.Private.Cache.Leaps.{IsLevel}
use Rattle.automata_hybrid.proofs.cache.leaps.last_level.Given as goal

abbrev pub invariant-loop : goal.invariant-loop
invariant-loop l = record {
  long : length l.level.items ≡ l.shape.rows * l.shape.classes ^ l.counter;
  level : IsLevel l.table l.shape.classes l.counter l.level.items;
}
