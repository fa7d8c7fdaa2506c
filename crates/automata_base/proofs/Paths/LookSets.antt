-- The empty set has no look.
use Rattle.std.proofs.Common.{◌≡◌, false, eqb}
use Rattle.std.proofs.Common.{ap}
use Rattle.std.proofs.lemmas.Nat.Bits.{bit_at-zero}
use Rattle.automata_base.specs.Haystacks.Looks.{Look}
use Rattle.automata_base.specs.Haystacks.Looks.{look_index}
use Rattle.automata_base.specs.Haystacks.LookSets.{truth_of}

-- The empty set contains no look.
pub truth_of_none : (look : Look) → truth_of 0 look ≡ false
truth_of_none look = ap (λ v. eqb v 1) (bit_at-zero (look_index look))
