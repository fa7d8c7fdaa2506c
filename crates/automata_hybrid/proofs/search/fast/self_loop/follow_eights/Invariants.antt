use Rattle.std.proofs.Common.{◌≤◌, ◌-◌}
use Rattle.automata_hybrid.specs.Private.Fast.SelfLoops.{IsLoopRun}
use Rattle.automata_hybrid.proofs.search.fast.self_loop.follow_eights.Given as goal

abbrev pub invariant-eights : goal.invariant-eights
invariant-eights l = record {
  upto : l.at ≤ l.end;
  run : IsLoopRun l.dfa l.cache.store l.id l.way l.bytes l.fn.start l.at;
}

abbrev pub decreases-eights : goal.decreases-eights
decreases-eights l = l.end - l.at
