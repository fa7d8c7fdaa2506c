use Rattle.std.proofs.Common.{◌+◌, ◌-◌, ◌≤◌}
use Rattle.prefilters.specs.Needles.{NoneOccurs}
use Rattle.prefilters.proofs.pairs.Pairs.find.Given as goal

abbrev pub invariant-loop-at : goal.invariant-loop-at
invariant-loop-at l = (l.start + l.misses ≤ l.at) × NoneOccurs l.hay l.self l.start l.at

abbrev pub decreases-loop-at : goal.decreases-loop-at
decreases-loop-at l = l.end + 1 - l.at
