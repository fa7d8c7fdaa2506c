use Rattle.std.proofs.Common.{◌∙◌, sym, true≢false}
use Rattle.std.proofs.lemmas.Result.{IfOk-weaker}
use Rattle.automata_transform.proofs.anchoring.may_begin_anchored.Goals as goal

pub returns-then-keeps_unions : goal.returns-then-keeps_unions
returns-then-keeps_unions c = (
  (λ f. absurd (true≢false (sym f))),
  (λ may. absurd (true≢false (sym c.if-keeps_unions.true ∙ c.keeps_unions.ensures ∙ may.unions))),
)

pub returns-then-skips_lazily : goal.returns-then-skips_lazily
returns-then-skips_lazily c =
    IfOk-weaker c.asserts_start.result _ _
    (λ may asserts. (
      (λ t. record {
        asserts = asserts.0 t;
        skips = c.skips_lazily.ensures.0 c.if-skips_lazily.true;
        unions = sym c.keeps_unions.ensures ∙ c.if-keeps_unions.false;
      }),
      (λ h. asserts.1 h.asserts),
    ))
    c.asserts_start.ensures

pub returns-else-skips_lazily : goal.returns-else-skips_lazily
returns-else-skips_lazily c = (
  (λ f. absurd (true≢false (sym f))),
  (λ may. absurd (true≢false (sym (c.skips_lazily.ensures.1 may.skips) ∙ c.if-skips_lazily.false))),
)
