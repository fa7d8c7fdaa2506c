use Rattle.std.proofs.Common.{◌<◌}
use Rattle.automata_hybrid.proofs.search.fast.loop_range.classes_upto.Given as goal

abbrev pub invariant-down : goal.invariant-down
invariant-down l = l.first < l.cache.store.table.of.stride
