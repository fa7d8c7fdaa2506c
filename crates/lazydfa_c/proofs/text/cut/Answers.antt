use Rattle.std.proofs.Common.{◌≡◌, arith, length, refl, subst, sym}
use Rattle.core.specs.Str.{IsValidUpTo}
use Rattle.lazydfa_c.specs.Statuses.{plain}
use Rattle.lazydfa_c.specs.Texts.{IsCutError, LacksParts, NotText, WrongLengths}
use Rattle.lazydfa_c.specs.declared.code.Code.TheVariants as code
use Rattle.lazydfa_c.proofs.Cutting.{adds_less, adds_more, bytes_left, error_is, is_filled, not_text, one_more}
use Rattle.lazydfa_c.proofs.Cutting.{part_length}
use Rattle.lazydfa_c.proofs.text.cut.Goals as goal

pub returns-in_default-clause-err : goal.returns-in_default-clause-err
returns-in_default-clause-err c =
    let l = c.loop-length in
    WrongLengths
    (adds_less c.args.texts.now l.rest.now c.args.lengths.now l.length-index c.loop-length-test.true l.invariant.1
    c.in_default.ensures.cases)
    c.from.ensures l.invariant.3

pub returns-in_err-push-in-Ok-clause-err : goal.returns-in_err-push-in-Ok-clause-err
returns-in_err-push-in-Ok-clause-err c =
    error_is c.from_residual.result (plain code.Memory)
    (IsCutError c.args.texts.now c.args.lengths.now c.args.refusal.now c.loop-length.refusal)
    c.from_residual.ensures.1 (LacksParts refl c.loop-length.invariant.3)

pub returns-in-Err-clause-err : goal.returns-in-Err-clause-err
returns-in-Err-clause-err c =
    let l = c.loop-length in
    let count : c.len.result ≡ length l.parts.items = omega (arith, c.len.ensures, l.parts.ok.0) in
    NotText _ _
    (not_text c.args.texts.now c.args.lengths.now l.parts.items l.rest.now c.in-Some.part.now l.length-index
    c.loop-length-test.true l.invariant.0 l.invariant.2 c.in-Some.ensures.cases.1 c.len.result
    c.valid_up_to-offset.result count
    (subst (IsValidUpTo c.in-Some.part.now) (sym c.valid_up_to-offset.ensures) c.in-Err.ensures.cases.1))
    c.at-in-Err.ensures c.at.ensures

pub loop-length-preserved : goal.loop-length-preserved
loop-length-preserved c =
    let l = c.loop-length in
    let more =
    one_more c.args.texts.now c.args.lengths.now l.parts.items l.rest.now c.in-Some.part.now l.length-index
    c.loop-length-test.true l.invariant.0 l.invariant.2 c.in-Some.ensures.cases.1 c.push.new.self.items
    c.in-Some.more.now c.in-Ok.text c.in-Some.ensures.cases.2 c.in-Ok.ensures.cases.0 c.in-Ok.ensures.cases.1
    c.in_ok-push-in-Ok.ensures.items in (
      more.0,
      adds_more c.args.texts.now l.rest.now c.in-Some.more.now c.args.lengths.now l.length-index c.loop-length-test.true
          l.invariant.1 (part_length _ l.rest.now c.in-Some.part.now c.in-Some.more.now c.in-Some.ensures.cases),
      more.1,
      l.invariant.3,
    )

pub returns-then-not-is_empty-clause-err : goal.returns-then-not-is_empty-clause-err
returns-then-not-is_empty-clause-err c =
    let l = c.loop-length in
    WrongLengths
    (bytes_left c.args.texts.now l.rest.now c.args.lengths.now l.length-index (omega (arith, c.loop-length-test.false))
    l.invariant.1 (is_filled (length l.rest.now) c.is_empty.result c.is_empty.ensures c.if-not-is_empty.true))
    c.from-then-not-is_empty.ensures l.invariant.3
