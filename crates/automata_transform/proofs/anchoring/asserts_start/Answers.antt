use Rattle.std.proofs.Common.{◌∙◌, sym, true≢false}
use Rattle.std.proofs.lemmas.Result.{IfOk-weaker}
use Rattle.automata_base.specs.declared.util.look.Look.TheVariants.{Start}
use Rattle.automata_transform.proofs.anchoring.asserts_start.Goals as goal

pub returns-then-contains : goal.returns-then-contains
returns-then-contains c =
    IfOk-weaker c.needs_start.result _ _
    (λ asserts needs. (
      (λ t. ((c.look_set_any.ensures.occurs Start).0 (sym c.contains.ensures ∙ c.if-contains.true), needs.0 t)),
      (λ h. needs.1 h.1),
    ))
    c.needs_start.ensures

pub returns-else-contains : goal.returns-else-contains
returns-else-contains c = (
  (λ f. absurd (true≢false (sym f))),
  (λ h. absurd (true≢false (sym ((c.look_set_any.ensures.occurs Start).1 h.0) ∙ sym c.contains.ensures
      ∙ c.if-contains.false))),
)
