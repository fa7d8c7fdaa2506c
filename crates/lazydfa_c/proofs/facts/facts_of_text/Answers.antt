use Rattle.std.proofs.Common.{◌∙◌, ap, subst, sym}
use Rattle.core.specs.Str.{IsValidUpTo}
use Rattle.patterns.specs.Facts.{IsFactsError}
use Rattle.lazydfa_c.specs.Facts.{IsNoPattern, IsNotText, plain_reading}
use Rattle.lazydfa_c.specs.Texts.{reading_of}
use Rattle.lazydfa_c.proofs.facts.facts_of_text.Goals as goal

pub returns-in-Err-clause-err : goal.returns-in-Err-clause-err
returns-in-Err-clause-err c =
    IsNotText _ (subst (IsValidUpTo c.args.text.now) (sym c.valid_up_to.ensures) c.in-Err.ensures.cases.1) c.at.ensures

pub returns-in-Err-facts_of-clause-err : goal.returns-in-Err-facts_of-clause-err
returns-in-Err-facts_of-clause-err c =
    let error = c.in-Err-facts_of.error in
    IsNoPattern error
    (subst (λ text. IsFactsError (plain_reading c.args.options.now) text error) c.in-Ok.ensures.cases.0
    (subst (λ reading. IsFactsError reading c.in-Ok.text.now error)
    (c.options-options.ensures ∙ ap (reading_of c.args.options.now) c.default_settings.ensures)
    c.in-Err-facts_of.ensures.refused))
    c.status_of.ensures
