use Rattle.std.proofs.Common.{◌≡◌, drop}
use Rattle.lazydfa_c.specs.Builds.{with_quits}
use Rattle.lazydfa_c.proofs.settings.with_quits.Given as goal

abbrev pub invariant-loop-byte : goal.invariant-loop-byte
invariant-loop-byte l = with_quits l.config (drop l.byte-index l.quits) ≡ with_quits l.fn.config l.quits
