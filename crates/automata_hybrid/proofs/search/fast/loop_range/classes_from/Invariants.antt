use Rattle.std.proofs.Common.{◌<◌}
use Rattle.automata_hybrid.proofs.search.fast.loop_range.classes_from.Given as goal

abbrev pub invariant-up : goal.invariant-up
invariant-up l = l.after < l.cache.store.table.of.stride
