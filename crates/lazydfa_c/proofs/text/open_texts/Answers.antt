use Rattle.std.proofs.Common.{◌≡◌, ◌∙◌, ap, map, subst, sym}
use Rattle.automata_config.specs.Options.{overwritten, unset}
use Rattle.automata_config.specs.Options as config
use Rattle.patterns.specs.Patterns.{IsNfaOf, config_of}
use Rattle.patterns.specs.declared.compile.Options.{Options}
use Rattle.lazydfa_c.specs.Builds.{HoldsRegex, IsNotOpened}
use Rattle.lazydfa_c.specs.Programs.{HasPrograms, HasProgramsFor}
use Rattle.lazydfa_c.specs.Texts.{IsNfaFor, IsPatternFor, IsRegexErrorStatus, LacksNfa, OpensTexts, reading_for}
use Rattle.lazydfa_c.specs.Texts.{texts_in}
use Rattle.lazydfa_c.proofs.Cutting.{error_at}
use Rattle.lazydfa_c.proofs.Texts.{opens_texts, regex_lacks, texts_fail}
use Rattle.lazydfa_c.proofs.text.open_texts.Goals as goal

pub returns-in-Ok : goal.returns-in-Ok
returns-in-Ok c =
    let bytes = c.args.texts.now in
    let lengths = c.args.lengths.now in
    let nfa = c.in_ok-read.read.1 in let programs = c.in_ok-read.read.2 in let words = c.in_ok-read.read.3 in
    opens_texts (overwritten unset c.args.config) c.args.options.now c.args.settings.now bytes lengths
    words nfa programs
    c.open_nfa.new.regex c.args.report.now c.compile_texts.new.report c.in_ok-read.ensures.whole
    (subst (λ reading. IsNfaFor reading (texts_in bytes lengths) words nfa) c.options-reading.ensures
    c.in_ok-read.ensures.meant)
    (subst (λ (reading : Options). HasProgramsFor c.args.options.now.groups words (config_of reading)
    (texts_in bytes lengths) programs) c.options-reading.ensures c.in_ok-read.ensures.programs)
    c.in_ok-read.ensures.kept
    (subst (λ (o : config.Options). HoldsRegex (HasPrograms programs words
    (IsPatternFor c.args.options.now.forward_only o nfa)) c.open_nfa.new.regex) c.config_for.ensures c.in-Ok.ensures)

pub returns : goal.returns
returns c =
    let bytes = c.args.texts.now in
    let lengths = c.args.lengths.now in
    let nfa = c.in_ok-read.read.1 in let words = c.in_ok-read.read.3 in
    regex_lacks (overwritten unset c.args.config) c.args.options.now c.args.settings.now bytes lengths
    words nfa
    c.args.regex.now c.open_nfa.new.regex c.args.report.now c.of_all.result c.in-Err.status
    (subst (λ reading. IsNfaFor reading (texts_in bytes lengths) words nfa) c.options-reading.ensures
    c.in_ok-read.ensures.meant)
    c.of_all.ensures
    (subst (λ (o : config.Options). (c.open_nfa.new.regex ≡ c.args.regex.now)
    × IsNotOpened (IsRegexErrorStatus c.args.options.now.forward_only o nfa) c.in-Err.status) c.config_for.ensures
    c.in-Err.ensures)

pub returns-in_err-read : goal.returns-in_err-read
returns-in_err-read c =
    let o = overwritten unset c.args.config in
    let options = c.args.options.now in
    let settings = c.args.settings.now in
    let bytes = c.args.texts.now in
    let lengths = c.args.lengths.now in
    let e = c.in_err-read.field-0.0 in
    let to = c.compile_texts.new.report in
    error_at c.from_residual.result e
    (OpensTexts o options settings bytes lengths c.args.regex.now c.args.regex.now c.args.report.now to)
    c.from_residual.ensures.1
    (texts_fail o options settings bytes lengths c.args.regex.now c.args.report.now to e
    (subst (λ reading. LacksNfa reading bytes lengths c.args.report.now to e) c.options-reading.ensures
    c.in_err-read.ensures.err))

pub open_nfa-requires-clause-meant : goal.open_nfa-requires-clause-meant
open_nfa-requires-clause-meant c =
    let nfa = c.in_ok-read.read.1 in let words = c.in_ok-read.read.3 in
    subst (λ reading. IsNfaOf reading (map (λ text. text.now) c.as_slice.result.now) nfa) (sym c.for_words.ensures)
    (subst (λ texts. IsNfaOf (reading_for words c.options-reading.result) texts nfa)
    (sym (ap (map (λ text. text.now)) c.as_slice.ensures.value ∙ c.in_ok-read.ensures.parts))
    c.in_ok-read.ensures.meant.1)
