use Rattle.std.proofs.Common.{ℕ, ◌≡◌, ◌<◌, ◌≤◌, true}
use Rattle.prefilters.specs.Bytes.{in_table}
use Rattle.prefilters.proofs.bytes.add_range.Given as goal

abbrev pub invariant-loop-byte : goal.invariant-loop-byte
invariant-loop-byte l =
    ((byte : ℕ) → in_table l.initial.table byte ≡ true → in_table l.table byte ≡ true)
    × ((byte : ℕ) → l.lo ≤ byte → byte < l.byte → in_table l.table byte ≡ true)
