use Rattle.std.proofs.Common.{eqb, sym, ap, ◌∙◌, w64}
use Rattle.std.proofs.lemmas.Nat.Bits.{bit_at_set_same, bit_at_set_other, bit_at_clear_same, bit_at_clear_other}
use Rattle.automata_base.proofs.util.byte_set.with_bit.Goals as goal

pub returns-then-yes-clause-same : goal.returns-then-yes-clause-same
returns-then-yes-clause-same c =
    ap (λ z. eqb z 1) (bit_at_set_same w64 c.args.word c.args.bit c.requires) ∙ sym c.if-yes.true

pub returns-then-yes-clause-others : goal.returns-then-yes-clause-others
returns-then-yes-clause-others c = λ i l apart. bit_at_set_other w64 c.args.word c.args.bit c.requires i apart

pub returns-else-yes-clause-same : goal.returns-else-yes-clause-same
returns-else-yes-clause-same c =
    ap (λ z. eqb z 1) (bit_at_clear_same w64 c.args.word c.args.bit c.requires) ∙ sym c.if-yes.false

pub returns-else-yes-clause-others : goal.returns-else-yes-clause-others
returns-else-yes-clause-others c = λ i l apart. bit_at_clear_other w64 c.args.word c.args.bit c.requires i l apart
