use Rattle.std.proofs.Common.{ap, arith, eqb}
use Rattle.std.proofs.lemmas.Nat.{and_le_r}
use Rattle.automata_base.specs.Haystacks.Looks.{look_index}
use Rattle.automata_base.proofs.Powersets.LookBits.{low_bits, code_below}
use Rattle.automata_base.proofs.util.look.LookSet.from_bits.Goals as goal

pub returns : goal.returns
returns c = λ look. ap (λ v. eqb v 1) (low_bits c.args.bits (look_index look) (code_below look))

pub invariant_of-result : goal.invariant_of-result
invariant_of-result c = omega (arith, and_le_r c.args.bits 262143)
