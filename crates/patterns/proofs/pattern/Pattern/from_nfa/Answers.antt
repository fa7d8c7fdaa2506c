use Rattle.std.proofs.Common.{subst, ap}
use Rattle.automata_config.specs.Options.{Options, match_kind_of, overwritten, unset}
use Rattle.regex_automata.specs.Regexes.Builds.{BuildsOne, IsBuildError}
use Rattle.patterns.specs.Patterns.{settings_of}
use Rattle.patterns.proofs.Building.{of_error, regex_is}
use Rattle.patterns.proofs.pattern.Pattern.from_nfa.Goals as goal

pub returns-clause-meant : goal.returns-clause-meant
returns-clause-meant c = λ res is.
    regex_is (overwritten unset c.dfa_config-config.result) c.args.options.now res c.args.nfa c.in_ok-regex.regex
    (ap (λ (o : Options). match_kind_of (overwritten unset o)) c.dfa_config-config.ensures)
    is c.in_ok-regex.ensures.built c.in_ok-regex.ensures.sound

pub returns-clause-built : goal.returns-clause-built
returns-clause-built c =
    subst (λ (o : Options). BuildsOne (overwritten unset o) c.args.nfa c.in_ok-regex.regex) c.dfa_config-config.ensures
    c.in_ok-regex.ensures.built

pub returns-in_err-regex-clause-refused : goal.returns-in_err-regex-clause-refused
returns-in_err-regex-clause-refused c =
    of_error c.from_residual.result c.in_err-regex.field-0.0 (IsBuildError (settings_of c.args.options.now) c.args.nfa)
    c.from_residual.ensures.1
    (subst (λ (o : Options). IsBuildError (overwritten unset o) c.args.nfa c.in_err-regex.field-0.0)
    c.dfa_config-config.ensures c.in_err-regex.ensures.refused)
