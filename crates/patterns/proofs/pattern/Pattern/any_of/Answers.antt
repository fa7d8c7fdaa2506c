use Rattle.std.proofs.Common.{◌∙◌, inl, inr, refl, subst, sym}
use Rattle.regex_automata.specs.Regexes.Builds.{BuildsOne}
use Rattle.regex_automata.specs.declared.hybrid.regex.Regex.{Regex}
use Rattle.patterns.specs.Patterns.{IsRegexOf, settings_of}
use Rattle.patterns.proofs.Building.{of_error}
use Rattle.patterns.proofs.pattern.Pattern.any_of.Goals as goal

pub begin_at_needles-requires : goal.begin_at_needles-requires
begin_at_needles-requires c =
    let n = c.in_ok-nfa.ensures.meant in (n.0, n.1, (c.in-Ok.ensures.meant n.0 n.2).joined)

pub returns-in-Ok-clause-meant : goal.returns-in-Ok-clause-meant
returns-in-Ok-clause-meant c =
    let n = c.in_ok-nfa.ensures.meant in (
      n.0,
      n.1,
      subst (λ (r : Regex). IsRegexOf c.args.options.now n.0 r)
          (sym (c.try_first_bytes.ensures.regex ∙ c.begin_at_needles.ensures.regex))
          (c.in-Ok.ensures.meant n.0 n.2),
    )

pub returns-in-Ok-clause-built : goal.returns-in-Ok-clause-built
returns-in-Ok-clause-built c = record {
  nfa = c.in_ok-nfa.nfa;
  of = c.in_ok-nfa.ensures.meant;
  small = c.in_ok-nfa.ensures.small;
  built =
      subst (λ (r : Regex). BuildsOne (settings_of c.args.options.now) c.in_ok-nfa.nfa r)
      (sym (c.try_first_bytes.ensures.regex ∙ c.begin_at_needles.ensures.regex)) c.in-Ok.ensures.built;
}

pub returns-in-Err-clause-refused : goal.returns-in-Err-clause-refused
returns-in-Err-clause-refused c = inr (record {
  nfa = c.in_ok-nfa.nfa;
  of = c.in_ok-nfa.ensures.meant;
  cause = c.in-Err.error;
  is = c.in-Err.ensures.refused;
  fault = refl;
  number = refl;
})

pub returns-in_err-nfa-clause-refused : goal.returns-in_err-nfa-clause-refused
returns-in_err-nfa-clause-refused c =
    of_error c.from_residual.result _ _ c.from_residual.ensures.1 (inl c.in_err-nfa.ensures.refused)
