use Rattle.std.proofs.Common.{sym}
use Rattle.automata_base.proofs.ByteClasses.ByteSets.{empty_truths}
use Rattle.automata_base.proofs.util.byte_set.ByteSet.empty.Goals as goal

pub returns : goal.returns
returns c = sym empty_truths
