use Rattle.std.proofs.Common.{ℕ, ◌<◌, ◌≤◌}
use Rattle.automata_hybrid.proofs.Fast.SelfLoops.{LoopsIn}
use Rattle.automata_hybrid.proofs.search.fast.loop_range.loops_between.Given as goal

abbrev pub invariant-loop-class : goal.invariant-loop-class
invariant-loop-class l = (class : ℕ) → l.first ≤ class → class < l.class → LoopsIn l.cache.store l.id class
