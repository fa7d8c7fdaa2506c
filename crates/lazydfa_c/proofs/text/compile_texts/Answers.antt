use Rattle.std.proofs.Common.{◌∙◌, ap, false, inl, map, refl, subst}
use Rattle.patterns.specs.Faults.{IsFirstFault}
use Rattle.lazydfa_c.specs.Texts.{CannotCut, HasFault, IsNfaFor, LacksNfaFor}
use Rattle.lazydfa_c.proofs.Cutting.{error_is}
use Rattle.lazydfa_c.proofs.text.compile_texts.Goals as goal

pub returns-in_err-parts-clause-err : goal.returns-in_err-parts-clause-err
returns-in_err-parts-clause-err c =
    error_is c.from_residual.result _ _ c.from_residual.ensures.1 (CannotCut c.in_err-parts.ensures.err refl)

pub returns-clause-err : goal.returns-clause-err
returns-clause-err c =
    HasFault c.in-Err.error
    (subst (λ texts. LacksNfaFor c.args.options.now texts c.in-Err.error)
    (ap (map (λ text. text.now)) c.as_slice.ensures.value ∙ c.in_ok-parts.ensures.parts) c.in-Err.ensures.refused)
    c.status_of.ensures c.of.ensures

pub returns-in-Ok-clause-err : goal.returns-in-Ok-clause-err
returns-in-Ok-clause-err c =
    let why = c.in-Err-programs_for.ensures.err in
    HasFault why.0 (
      false,
      tt,
      inl (subst (λ texts. IsFirstFault c.args.options.now texts why.0)
          (ap (map (λ text. text.now)) c.as_slice-in-Ok.ensures.value ∙ c.in_ok-parts.ensures.parts) why.1),
    )
    why.2 why.3

pub returns-in-Ok-programs_for-clause-meant : goal.returns-in-Ok-programs_for-clause-meant
returns-in-Ok-programs_for-clause-meant c =
    subst (λ texts. IsNfaFor c.args.options.now texts c.in-Ok.words c.in-Ok.nfa)
    (ap (map (λ text. text.now)) c.as_slice.ensures.value ∙ c.in_ok-parts.ensures.parts) c.in-Ok.ensures.meant
