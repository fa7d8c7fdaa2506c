use Rattle.std.proofs.Common.{◌≡◌}
use Rattle.lgrep.proofs.Ends.{so_far}
use Rattle.lgrep.proofs.blocks.end_lines.Given as goal

abbrev pub invariant-loop-byte : goal.invariant-loop-byte
invariant-loop-byte l = l.bytes ≡ so_far l.byte-index l.fn.bytes
