use Rattle.std.proofs.Common.{◌-◌}
use Rattle.automata_hybrid.specs.Private.Fast.SelfLoops.{IsKnownLoop, IsLoopRun}
use Rattle.automata_hybrid.proofs.search.fast.self_loop.scan.Given as goal

abbrev pub invariant-lanes : goal.invariant-lanes
invariant-lanes l = record {
  found : IsKnownLoop l.dfa l.cache.store l.id l.found;
  run : IsLoopRun l.dfa l.cache.store l.id l.way l.bytes l.fn.start l.at;
}

abbrev pub decreases-lanes : goal.decreases-lanes
decreases-lanes l = l.end - l.at
