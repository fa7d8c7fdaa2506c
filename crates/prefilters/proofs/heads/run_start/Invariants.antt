use Rattle.std.proofs.Common.{◌≤◌}
use Rattle.prefilters.specs.Bytes.{HasOnlyBytesOf}
use Rattle.prefilters.proofs.heads.run_start.Given as goal

abbrev pub invariant-loop-first : goal.invariant-loop-first
invariant-loop-first l =
    (l.start ≤ l.first) × (l.first ≤ l.at) × HasOnlyBytesOf l.hay l.table l.first l.at

abbrev pub decreases-loop-first : goal.decreases-loop-first
decreases-loop-first l = l.first
