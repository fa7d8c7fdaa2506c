use Rattle.std.proofs.Common.{ap, ◌∙◌, subst, ◌≡◌, ◌||◌, ◌*◌, ◌%◌, ◌^◌, eqb}
use Rattle.std.specs.Int.RustNames.{bit_or}
use Rattle.automata_base.specs.Haystacks.LookSets.{truth_of}
use Rattle.automata_base.specs.Haystacks.Looks.{look_index}
use Rattle.automata_base.proofs.Powersets.LookBits.{insert_bit, bit_small}
use Rattle.std.proofs.lemmas.Nat.{or_lt}
use Rattle.automata_base.proofs.util.look.LookSet.insert.Goals as goal

pub returns : goal.returns
returns c = λ other.
    subst (λ k. truth_of (bit_or c.self.inside.bits (1 * 2 ^ c.index.result % 4294967296)) other
    ≡ (eqb (look_index other) k || truth_of c.self.inside.bits other))
    c.index.ensures.number (insert_bit c.self.inside.bits c.index.result (look_index other) c.index.ensures.below)
    ∙ ap (λ b. eqb (look_index other) (look_index c.args.look) || truth_of b other) c.self.view_is

pub invariant_of-result : goal.invariant_of-result
invariant_of-result c =
    or_lt 18 c.self.inside.bits (1 * 2 ^ c.index.result % 4294967296) c.self.invariant
    (bit_small c.index.result c.index.ensures.below)
