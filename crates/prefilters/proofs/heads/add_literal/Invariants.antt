use Rattle.std.proofs.Common.{ℕ, ◌≡◌, ◌<◌, get_or, true}
use Rattle.prefilters.specs.Bytes.{KeepsBytes, in_table}
use Rattle.prefilters.proofs.heads.add_literal.Given as goal

abbrev pub invariant-loop-byte : goal.invariant-loop-byte
invariant-loop-byte l =
    KeepsBytes l.initial.table l.table
    × ((n d : ℕ) → n < l.byte-index → in_table l.table (get_or l.bytes n d) ≡ true)
