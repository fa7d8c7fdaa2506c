use Rattle.std.proofs.Common.{◌+◌}
use Rattle.automata_hybrid.specs.Private.Fast.SelfLoops.{LoopsOver}
use Rattle.automata_hybrid.proofs.search.fast.self_loop.loops_on_eight.Given as goal

abbrev pub invariant-loop-k : goal.invariant-loop-k
invariant-loop-k l = LoopsOver l.dfa l.cache.store l.id l.way l.bytes l.at (l.at + l.k)
