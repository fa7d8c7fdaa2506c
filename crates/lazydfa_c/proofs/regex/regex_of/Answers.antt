use Rattle.std.proofs.Common.{refl, subst}
use Rattle.automata_config.specs.Options.{Options, overwritten, unset}
use Rattle.regex_automata.specs.Regexes.Builds.{IsBuildError}
use Rattle.lazydfa_c.specs.Builds.{IsBuildErrorStatus}
use Rattle.lazydfa_c.specs.Statuses.{regex_status}
use Rattle.lazydfa_c.proofs.Cutting.{error_is}
use Rattle.lazydfa_c.proofs.regex.regex_of.Goals as goal

pub returns-in_err-build_from_nfa-clause-refused : goal.returns-in_err-build_from_nfa-clause-refused
returns-in_err-build_from_nfa-clause-refused c =
    let e = c.in_err-build_from_nfa.field-0.0 in
    error_is c.from_residual.result (regex_status e) (IsBuildErrorStatus (overwritten unset c.args.config) c.args.nfa)
    c.from_residual.ensures.1 (
      e,
      subst (λ (o : Options). IsBuildError o c.args.nfa e) c.builder_of.ensures c.in_err-build_from_nfa.ensures.refused,
      refl,
    )
