use Rattle.std.proofs.Common.{◌≤◌, ◌-◌}
use Rattle.automata_hybrid.specs.Private.Searches.PassState.{IsRun}
use Rattle.automata_hybrid.proofs.search.fast.leap.follow_leaps.Given as goal

abbrev pub invariant-turns : goal.invariant-turns
invariant-turns g l = record {
  within : l.at ≤ l.last;
  run : IsRun g.trace l.way l.dfa l.cache.store l.input 0 l.fn.start l.at l.id;
  some : 8 ≤ l.wait;
  most : l.wait ≤ 256;
}

abbrev pub decreases-turns : goal.decreases-turns
decreases-turns g l = l.last - l.at

abbrev pub ghost-follow : goal.ghost-follow
ghost-follow g a = g.trace

abbrev pub ghost-next_known : goal.ghost-next_known
ghost-next_known g a = g.trace
