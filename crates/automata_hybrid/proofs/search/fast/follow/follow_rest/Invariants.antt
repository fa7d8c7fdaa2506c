use Rattle.std.proofs.Common.{◌≤◌, ◌+◌, ◌-◌}
use Rattle.automata_hybrid.specs.Private.Searches.PassState.{IsRun}
use Rattle.automata_hybrid.proofs.search.fast.follow.follow_rest.Given as goal

abbrev pub invariant-rest : goal.invariant-rest
invariant-rest g l = record {
  within : l.at ≤ l.input.end - l.input.start;
  run : IsRun g.trace l.way l.dfa l.cache.store l.input l.tag l.fn.start l.at (l.row + l.tag);
}

abbrev pub decreases-rest : goal.decreases-rest
decreases-rest g l = l.end - l.at

abbrev pub ghost-follow_byte : goal.ghost-follow_byte
ghost-follow_byte g a = g.trace
