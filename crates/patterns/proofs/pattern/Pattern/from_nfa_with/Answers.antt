use Rattle.std.proofs.Common.{◌≡◌, subst, ◌∙◌, Some, ap}
use Rattle.automata_config.specs.Options.{Options, match_kind_of, overwritten, unset}
use Rattle.regex_automata.specs.Promises.{LeftmostFirst}
use Rattle.regex_automata.specs.Regexes.Builds.{BuildsOne, IsBuildError}
use Rattle.patterns.specs.Patterns.{settings_with}
use Rattle.patterns.specs.declared.compile.Options as options
use Rattle.patterns.proofs.Building.{of_error, regex_is}
use Rattle.patterns.proofs.pattern.Pattern.from_nfa_with.Goals as goal

-- the settings with which the regex is built
same :
    (config kept built : Options) (options : options.Options) → kept ≡ record config { match_kind = Some LeftmostFirst }
    → built ≡ record kept { unicode_word_boundary = Some options.ascii }
    → overwritten unset built ≡ settings_with config options
same config kept built options first second =
    ap (λ (o : Options). overwritten unset o) (second
    ∙ ap (λ (o : Options). record o { unicode_word_boundary = Some options.ascii }) first)

pub returns-clause-meant : goal.returns-clause-meant
returns-clause-meant c = λ res is.
    regex_is (overwritten unset c.unicode_word_boundary-config.result) c.args.options.now res c.args.nfa
    c.in_ok-regex.regex
    (ap match_kind_of (same c.args.config c.match_kind.result c.unicode_word_boundary-config.result c.args.options.now
    c.match_kind.ensures c.unicode_word_boundary-config.ensures)) is c.in_ok-regex.ensures.built
    c.in_ok-regex.ensures.sound

pub returns-clause-built : goal.returns-clause-built
returns-clause-built c =
    subst (λ (o : Options). BuildsOne o c.args.nfa c.in_ok-regex.regex)
    (same c.args.config c.match_kind.result c.unicode_word_boundary-config.result c.args.options.now
    c.match_kind.ensures c.unicode_word_boundary-config.ensures) c.in_ok-regex.ensures.built

pub returns-in_err-regex-clause-refused : goal.returns-in_err-regex-clause-refused
returns-in_err-regex-clause-refused c =
    of_error c.from_residual.result c.in_err-regex.field-0.0
    (IsBuildError (settings_with c.args.config c.args.options.now) c.args.nfa)
    c.from_residual.ensures.1
    (subst (λ (o : Options). IsBuildError o c.args.nfa c.in_err-regex.field-0.0)
    (ap (λ (o : Options). overwritten unset o) (c.unicode_word_boundary-config.ensures
    ∙ ap (λ (o : Options). record o { unicode_word_boundary = Some c.args.options.now.ascii }) c.match_kind.ensures))
    c.in_err-regex.ensures.refused)
