use Rattle.std.proofs.Common.{arith}
use Rattle.automata_base.specs.ByteClasses.Classes.{alphabet_length}
use Rattle.automata_base.proofs.ByteClasses.Boundaries.{stride_for-few}
use Rattle.automata_base.proofs.util.alphabet.ByteClasses.stride.Goals as goal

pub returns-clause-few : goal.returns-clause-few
returns-clause-few c =
    let few = stride_for-few (alphabet_length c.args.self.now) in
    omega (arith, few, c.stride2.ensures.power)
