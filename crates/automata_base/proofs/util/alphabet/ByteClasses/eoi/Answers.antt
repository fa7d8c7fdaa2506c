use Rattle.std.proofs.Common.{◌+◌, ◌<◌, arith}
use Rattle.automata_base.specs.ByteClasses.Classes.{alphabet_length, class_in}
use Rattle.automata_base.proofs.ByteClasses.Boundaries.{stride_for-enough}
use Rattle.automata_base.proofs.util.alphabet.ByteClasses.eoi.Goals as goal

pub returns-clause-below : goal.returns-clause-below
returns-clause-below c =
    let a = c.alphabet_len.ensures in
    let enough = stride_for-enough (alphabet_length c.args.self.now) (omega (arith, a.few, a.number)) in
    omega (arith, enough, a.number, a.many)

pub returns-clause-above : goal.returns-clause-above
returns-clause-above c = λ byte l.
    let above : class_in c.args.self.now byte + 1 < c.alphabet_len.result = c.alphabet_len.ensures.above byte l in
    omega (arith, above)
