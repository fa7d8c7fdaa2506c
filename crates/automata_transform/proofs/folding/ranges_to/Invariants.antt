use Rattle.std.proofs.Common.{◌-◌}
use Rattle.automata_transform.proofs.Nfas.Folds.Ranges.{AreRanges}
use Rattle.automata_transform.proofs.folding.ranges_to.Given as goal

abbrev pub invariant-loop-byte : goal.invariant-loop-byte
invariant-loop-byte l = AreRanges l.heads l.ranges.items l.byte

abbrev pub decreases-loop-byte : goal.decreases-loop-byte
decreases-loop-byte l = 256 - l.byte
