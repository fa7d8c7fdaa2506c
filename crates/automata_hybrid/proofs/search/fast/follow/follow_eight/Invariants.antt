use Rattle.std.proofs.Common.{◌+◌}
use Rattle.automata_hybrid.specs.Private.Searches.PassState.{IsRun}
use Rattle.automata_hybrid.proofs.search.fast.follow.follow_eight.Given as goal

abbrev pub invariant-loop-k : goal.invariant-loop-k
invariant-loop-k g l = record {
  run : IsRun g.trace l.way l.dfa l.cache.store l.input l.tag l.fn.start (l.fn.start + l.k) (l.row + l.tag);
}

abbrev pub ghost-follow_byte : goal.ghost-follow_byte
ghost-follow_byte g a = g.trace
