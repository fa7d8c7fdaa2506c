use Rattle.std.proofs.Common.{◌≡◌, ◌-◌}
use Rattle.automata_config.specs.Settling.{holds_non_ascii, are_quits}
use Rattle.automata_config.proofs.config.holds_non_ascii.Given as goal

abbrev pub invariant-loop-byte : goal.invariant-loop-byte
invariant-loop-byte l = holds_non_ascii l.quits ≡ are_quits l.quits l.byte (256 - l.byte)
