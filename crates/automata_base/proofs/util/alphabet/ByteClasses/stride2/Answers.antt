use Rattle.std.proofs.Common.{ap, ◌∙◌}
use Rattle.automata_base.specs.ByteClasses.Classes.{stride_for}
use Rattle.automata_base.proofs.ByteClasses.Boundaries.{stride_for-is, log_few}
use Rattle.automata_base.proofs.util.alphabet.ByteClasses.stride2.Goals as goal

pub returns-clause-power : goal.returns-clause-power
returns-clause-power c =
    stride_for-is c.alphabet_len.result c.ilog2.result c.alphabet_len.ensures.few c.ilog2.ensures.power_le
    c.ilog2.ensures.next_power_gt
    ∙ ap stride_for c.alphabet_len.ensures.number

pub returns-clause-few : goal.returns-clause-few
returns-clause-few c = log_few c.alphabet_len.result c.ilog2.result c.alphabet_len.ensures.few c.ilog2.ensures.power_le
