-- Opening a handle on the regex of texts, by the result of opening it on the regex of their NFA.
use Rattle.std.proofs.Common.{ℕ, zero, suc, ◌≡◌, ◌∙◌, ◌<◌, List, Result, Ok, Err, IfOk, ap}
use Rattle.std.proofs.Common.{arith, length, sym, subst, refl}
use Rattle.std.specs.Prelude.{Bool, IfErr, OnErr, OnOk, Option, sum}
use Rattle.automata_base.specs.Nfas.Nodes.{Automaton}
use Rattle.automata_base.specs.declared.nfa.thompson.state.NfaError.{NfaError}
use Rattle.automata_base.specs.declared.nfa.thompson.state.NfaError.TheVariants as nfa_error
use Rattle.automata_config.specs.Options.{Options}
use Rattle.automata_hybrid.specs.Machines.Machine.{Machine}
use Rattle.meta.specs.declared.program.Programs.{Programs}
use Rattle.patterns.specs.Patterns.{IsNfaOf, config_of}
use Rattle.patterns.specs.declared.compile.Options.{Options as Reading}
use Rattle.patterns.specs.declared.error.Fault.{Fault}
use Rattle.patterns.specs.declared.error.Fault.TheVariants.{Syntax, UnicodeWord, TooLarge, Malformed, Refused, Unbuilt}
use Rattle.patterns.specs.declared.error.Fault.TheVariants.{OutOfMemory}
use Rattle.regex_automata.specs.declared.hybrid.regex.Regex.{Regex}
use Rattle.regex_automata.specs.declared.hybrid.regex.build.RegexBuildError.{RegexBuildError}
use Rattle.lazydfa_c.specs.Builds.{IsBuildErrorStatus, IsBuiltRegex, IsNotOpened, IsPairOf, LacksObject}
use Rattle.lazydfa_c.specs.Builds.{HoldsRegex, RefusesRegex}
use Rattle.lazydfa_c.specs.Codes.{number_of}
use Rattle.lazydfa_c.specs.Facts.{ExceedsLimits, Fails, HasFacts, IsFactsFailure, IsNotText, IsNoPattern, LacksMemory}
use Rattle.lazydfa_c.specs.Facts.{Reports, ReportsFacts, no_facts}
use Rattle.lazydfa_c.specs.Programs.{HasPrograms, HasProgramsFor}
use Rattle.lazydfa_c.specs.Statuses.{done_status, fault_status, nfa_code, plain, regex_status, status_at}
use Rattle.lazydfa_c.specs.Texts.{CannotCut, HasFault, HoldsTexts, IsCutError, IsFailure, IsForwardOnly}
use Rattle.lazydfa_c.specs.Texts.{IsRegexErrorStatus, IsReportOfAll, LacksRegex}
use Rattle.lazydfa_c.specs.Texts.{IsPatternFor, IsRegexFor, LacksNfa, LacksParts, MatchesNothing, NotText, OpensTexts}
use Rattle.lazydfa_c.specs.Texts.{IsNfaFor, RegexFails, settings_for}
use Rattle.lazydfa_c.specs.Texts.{TextsFail, WrongLengths, reading_of, texts_in}
use Rattle.lazydfa_c.specs.declared.code.Code.TheVariants as code
use Rattle.lazydfa_c.specs.declared.facts.Facts.{Facts}
use Rattle.lazydfa_c.specs.declared.handle.Handle.{Handle}
use Rattle.lazydfa_c.specs.declared.settings.Settings.{Settings}
use Rattle.lazydfa_c.specs.declared.status.Status.{Status}
use Rattle.lazydfa_c.specs.declared.text.Refusal.{Refusal}
use Rattle.lazydfa_c.specs.declared.text.Report.{Report}
use Rattle.lazydfa_c.specs.declared.text.TextOptions.{TextOptions}
use Rattle.patterns.proofs.Building.{forward_is}
use Rattle.lazydfa_c.proofs.Errors as errors

-- a status of a failure
fails_as : {status other : Status} → status ≡ other → IsFailure other → IsFailure status
fails_as is fails = subst IsFailure (sym is) fails

-- out of memory is a failure
memory_fails : IsFailure (plain code.Memory)
memory_fails = omega arith

-- the errors of building a regex are failures
build_fails : (error : RegexBuildError) → IsFailure (regex_status error)
build_fails error = let fails : number_of code.Argument < (regex_status error).code = errors.regex_told.fails error in
    omega (arith, fails)

regex_fails : (forward_only : ℕ) (o : Options) (nfa : Automaton) (status : Status)
    → IsRegexErrorStatus forward_only o nfa status → IsFailure status
regex_fails zero o nfa status (error, _, is) = fails_as is (build_fails error)
regex_fails (suc n) o nfa status fails = fails

opening_fails : (forward_only : ℕ) (o : Options) (nfa : Automaton) (status : Status)
    → IsNotOpened (IsRegexErrorStatus forward_only o nfa) status → IsFailure status
opening_fails forward_only o nfa status (RefusesRegex why) = regex_fails forward_only o nfa status why
opening_fails forward_only o nfa status (LacksObject is) = fails_as is memory_fails

-- the errors of texts are failures
states_fail : (error : NfaError) → IsFailure (plain (nfa_code error))
states_fail nfa_error.StateRange = omega arith
states_fail nfa_error.StartRange = omega arith
states_fail nfa_error.PatternRange = omega arith
states_fail nfa_error.Ranges = omega arith
states_fail nfa_error.TooLarge = omega arith
states_fail nfa_error.OutOfMemory = omega arith

fault_fails : (fault : Fault) → IsFailure (fault_status fault)
fault_fails (Syntax error) = omega arith
fault_fails UnicodeWord = omega arith
fault_fails TooLarge = omega arith
fault_fails Malformed = omega arith
fault_fails (Refused error) = states_fail error
fault_fails (Unbuilt error) = build_fails error
fault_fails OutOfMemory = omega arith

cut_fails : (bytes lengths : List ℕ) (old new : Refusal) (status : Status) → IsCutError bytes lengths old new status
    → IsFailure status
cut_fails bytes lengths old new status (WrongLengths _ is _) = fails_as is (omega arith)
cut_fails bytes lengths old new status (NotText number offset _ is _) =
    let fails : IsFailure (status_at code.NotText offset) = omega arith in fails_as is fails
cut_fails bytes lengths old new status (LacksParts is _) = fails_as is memory_fails

text_fails : (reading : Reading) (bytes lengths : List ℕ) (old new : Report) (status : Status)
    → LacksNfa reading bytes lengths old new status → IsFailure status
text_fails reading bytes lengths old new status (CannotCut why _) =
    cut_fails bytes lengths old.refusal new.refusal status why
text_fails reading bytes lengths old new status (HasFault error _ is _) = fails_as is (fault_fails error.fault)

pub facts_fail : (options : TextOptions) (text : List ℕ) (status : Status) → IsFactsFailure options text status
    → IsFailure status
facts_fail options text status (ExceedsLimits _ is) = fails_as is (omega arith)
facts_fail options text status (IsNotText offset _ is) =
    let fails : IsFailure (status_at code.NotText offset) = omega arith in fails_as is fails
facts_fail options text status (IsNoPattern error _ is) = fails_as is (fault_fails error.fault)
facts_fail options text status (LacksMemory is) = fails_as is memory_fails

-- the facts of a text are reported, or why it has none
pub reports :
    (options : TextOptions) (text : List ℕ) (none facts : Facts) (old_bytes new_bytes old_lengths new_lengths : List ℕ)
    (done : Result (Unit {0}) Status) → none ≡ no_facts
    → OnOk done (HasFacts options text facts old_bytes new_bytes old_lengths new_lengths)
    → OnErr done ((facts ≡ none) × (new_bytes ≡ old_bytes) × (new_lengths ≡ old_lengths))
    → IfErr done (IsFactsFailure options text)
    → ReportsFacts options text facts old_bytes new_bytes old_lengths new_lengths (done_status done)
reports options text none facts old_bytes new_bytes old_lengths new_lengths (Ok u) zeros has kept why = Reports has refl
reports options text none facts old_bytes new_bytes old_lengths new_lengths (Err e) zeros has kept why =
    Fails (facts_fail options text e why) why (kept.0 ∙ zeros) kept.1 kept.2

module _ (o : Options) (nfa : Automaton) where
  -- the full regex of an NFA, if `forward_only` is 0
  pub is_full :
      (forward_only : ℕ) (done : Result Regex Status) → forward_only ≡ 0 → IfOk done (IsBuiltRegex o nfa)
      → IfOk done (IsRegexFor forward_only o nfa)
  is_full forward_only done is built = subst (λ n. IfOk done (IsRegexFor n o nfa)) (sym is) built

  pub is_not_full :
      (forward_only : ℕ) (done : Result Regex Status) → forward_only ≡ 0 → IfErr done (IsBuildErrorStatus o nfa)
      → IfErr done (IsRegexErrorStatus forward_only o nfa)
  is_not_full forward_only done is refused = subst (λ n. IfErr done (IsRegexErrorStatus n o nfa)) (sym is) refused

  -- the regex that only searches forward, if `forward_only` is not 0
  pub is_forward :
      (forward_only : ℕ) (done : Result Regex Status) → (forward_only ≡ 0 → ⊥) → IfOk done (IsForwardOnly o nfa)
      → IfOk done (IsRegexFor forward_only o nfa)
  is_forward zero done is_not built = absurd (is_not refl)
  is_forward (suc n) done is_not built = built

  pub is_not_forward :
      (forward_only : ℕ) (done : Result Regex Status) → (forward_only ≡ 0 → ⊥) → IfErr done IsFailure
      → IfErr done (IsRegexErrorStatus forward_only o nfa)
  is_not_forward zero done is_not refused = absurd (is_not refl)
  is_not_forward (suc n) done is_not refused = refused

  -- the forward DFA of either is a DFA of the NFA
  same_nfa :
      (forward_only : ℕ) (reading : Reading) (texts : List (List ℕ)) (regex : Regex) → IsNfaOf reading texts nfa
      → IsRegexFor forward_only o nfa regex → regex.forward.nfa ≡ nfa
  same_nfa zero reading texts regex meant built = forward_is o reading meant.0 nfa regex meant.2 built.0
  same_nfa (suc n) reading texts regex meant built = ap (λ (m : Machine). m.nfa) built.built.0.2

  pub searches_texts :
      (forward_only : ℕ) (reading : Reading) (texts : List (List ℕ)) (regex : Regex) → IsNfaOf reading texts nfa
      → IsRegexFor forward_only o nfa regex → IsNfaOf reading texts regex.forward.nfa
  searches_texts forward_only reading texts regex meant built =
      subst (IsNfaOf reading texts) (sym (same_nfa forward_only reading texts regex meant built)) meant

module _ (o : Options) (options : TextOptions) (settings : Settings) (bytes lengths : List ℕ) where
  -- a regex is built from the NFA of the texts
  pub opens_texts :
      (words : Bool) (nfa : Automaton) (programs : Option Programs) (new : Handle) (from to : Report)
      → sum lengths ≡ length bytes → IsNfaFor (reading_of options settings) (texts_in bytes lengths) words nfa
      → HasProgramsFor options.groups words (config_of (reading_of options settings)) (texts_in bytes lengths) programs
      → to ≡ from
      → HoldsRegex (HasPrograms programs words (IsPatternFor options.forward_only (settings_for words o) nfa)) new
      → HoldsTexts o options settings bytes lengths new × (to ≡ from)
  opens_texts words nfa programs new from to whole meant grouped same opened = (
    record {
      whole = whole;
      words = words;
      nfa = nfa;
      meant = meant;
      programs = programs;
      grouped = grouped;
      holds = opened;
    },
    same,
  )

  -- no regex is built from it
  pub regex_lacks :
      (words : Bool) (nfa : Automaton) (old new : Handle) (from to : Report) (e : Status)
      → IsNfaFor (reading_of options settings) (texts_in bytes lengths) words nfa → IsReportOfAll to
      → (new ≡ old) × IsNotOpened (IsRegexErrorStatus options.forward_only (settings_for words o) nfa) e
      → (new ≡ old) × IsFailure e × LacksRegex o options settings bytes lengths from to e
  regex_lacks words nfa old new from to e meant all (kept, why) =
      (kept, opening_fails options.forward_only (settings_for words o) nfa e why, RegexFails words nfa meant why all)

  -- the texts have no NFA
  pub texts_fail :
      (handle : Handle) (from to : Report) (status : Status)
      → LacksNfa (reading_of options settings) bytes lengths from to status
      → OpensTexts o options settings bytes lengths handle handle from to (Err status)
  texts_fail handle from to status why =
      (refl, text_fails (reading_of options settings) bytes lengths from to status why, TextsFail why)

-- the regex that is built from an NFA and from one without a match only searches forward
pub forward_only :
    (o : Options) (nfa none : Automaton) (result : Result Regex Status) → MatchesNothing none
    → IfOk result (IsPairOf o nfa none) → IfOk result (IsForwardOnly o nfa)
forward_only o nfa none (Ok regex) nothing built = record { none = none; nothing = nothing; built = built }
forward_only o nfa none (Err e) nothing built = built
