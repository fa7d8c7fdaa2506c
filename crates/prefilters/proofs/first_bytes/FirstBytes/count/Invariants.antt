use Rattle.std.proofs.Common.{◌≡◌, take}
use Rattle.prefilters.specs.FirstBytes.{count_first_bytes}
use Rattle.prefilters.proofs.first_bytes.FirstBytes.count.Given as goal

abbrev pub invariant-loop-byte : goal.invariant-loop-byte
invariant-loop-byte l = l.count ≡ count_first_bytes (take l.byte l.self-inside.table)
