use Rattle.std.proofs.Common.{ℕ, ◌<◌, get_or}
use Rattle.prefilters.specs.Bytes.{KeepsBytes}
use Rattle.prefilters.specs.Heads.{HasBytesInRange}
use Rattle.prefilters.proofs.heads.add_byte_class.Given as goal

abbrev pub invariant-loop-range : goal.invariant-loop-range
invariant-loop-range l =
    KeepsBytes l.initial.table l.table
    × ((n : ℕ) (d : ℕ × ℕ) → n < l.range-index → HasBytesInRange l.table (get_or l.ranges n d))
