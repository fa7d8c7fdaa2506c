use Rattle.std.proofs.Common.{inl}
use Rattle.patterns.proofs.Building.{of_error}
use Rattle.patterns.proofs.Sets.{dfa_is}
use Rattle.patterns.proofs.set.RegexSet.new.Goals as goal

pub returns-in-Ok-clause-meant : goal.returns-in-Ok-clause-meant
returns-in-Ok-clause-meant c =
    let n = c.in_ok-nfa.ensures.meant in (
      n.0,
      n.1,
      dfa_is c.args.options.now n.0 c.in_ok-nfa.nfa c.in-Ok.dfa n.2 c.in-Ok.ensures.keeps
          c.in-Ok.ensures.built,
    )

pub returns-in_err-nfa-clause-refused : goal.returns-in_err-nfa-clause-refused
returns-in_err-nfa-clause-refused c =
    of_error c.from_residual.result _ _ c.from_residual.ensures.1 (inl c.in_err-nfa.ensures.refused)
