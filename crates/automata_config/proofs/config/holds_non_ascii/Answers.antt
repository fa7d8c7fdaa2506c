use Rattle.std.proofs.Common.{◌&&◌, ◌-◌, ◌+◌, refl, sym, ap, ◌∙◌}
use Rattle.automata_config.specs.Settling.{are_quits}
use Rattle.automata_config.proofs.NonAscii.{are_quits-more, are_quits-all}
use Rattle.automata_config.proofs.config.holds_non_ascii.Goals as goal

pub loop-byte-init : goal.loop-byte-init
loop-byte-init c = refl

pub loop-byte-preserved : goal.loop-byte-preserved
loop-byte-preserved c =
    let q = c.args.quits.now in
    let byte = c.loop-byte.byte in
    c.loop-byte.invariant
    ∙ (are_quits-more q byte c.loop-byte-test.true
    ∙ ap (λ z. z && are_quits q (byte + 1) (256 - (byte + 1))) (sym c.contains.ensures ∙ c.if-not-contains.false))

pub returns-then-not-contains : goal.returns-then-not-contains
returns-then-not-contains c =
    let q = c.args.quits.now in
    let byte = c.loop-byte.byte in
    sym (c.loop-byte.invariant
    ∙ (are_quits-more q byte c.loop-byte-test.true
    ∙ ap (λ z. z && are_quits q (byte + 1) (256 - (byte + 1))) (sym c.contains.ensures ∙ c.if-not-contains.true)))

pub returns : goal.returns
returns c = sym (c.loop-byte.invariant ∙ are_quits-all c.args.quits.now c.loop-byte.byte c.loop-byte-test.false)
