-- Contracts of the calls that build regexes of the texts of patterns.
use Rattle.std.specs.Prelude.{ℕ, zero, suc, ◌≡◌, ◌≢◌, ◌==◌, ◌<◌, ◌≤◌, Bool, true, false, not, List, [], ◌∷◌, ◌++◌, All}
use Rattle.std.specs.Prelude.{◌⊎◌}
use Rattle.std.specs.Prelude.{IsCharBoundary, IsUtf8, Option, Some, Result, Ok, Err, drop, if◌then◌else◌, length}
use Rattle.std.specs.Prelude.{slice_get, string_bytes, sum, take}
use Rattle.core.specs.Str.{IsValidUpTo}
use Rattle.automata_base.specs.Nfas.Nodes.{Automaton}
use Rattle.automata_base.specs.declared.nfa.thompson.state.State.TheVariants.{Fail}
use Rattle.automata_config.specs.Options.{Options}
use Rattle.meta.specs.declared.program.Programs.{Programs}
use Rattle.patterns.specs.Faults.{IsFirstFault, IsNfaFault}
use Rattle.patterns.specs.Patterns.{IsNfaOf, config_of}
use Rattle.patterns.specs.declared.compile.Options.{Options as Reading}
use Rattle.patterns.specs.declared.error.Fault.{Fault}
use Rattle.patterns.specs.declared.error.Fault.TheVariants.{Syntax, UnicodeWord, TooLarge, Malformed, Refused, Unbuilt}
use Rattle.patterns.specs.declared.error.Fault.TheVariants.{OutOfMemory}
use Rattle.patterns.specs.declared.error.PatternError.{PatternError}
use Rattle.patterns.specs.declared.pattern.Pattern.{Pattern}
use Rattle.regex_automata.specs.declared.hybrid.regex.Regex.{Regex}
use Rattle.lazydfa_c.specs.Builds.{HoldsRegex, IsBuildErrorStatus, IsBuiltRegex, IsNotOpened, IsPairOf, WithOptions}
use Rattle.lazydfa_c.specs.Builds.{capacity_of, kind_of, limit_of, options_of}
use Rattle.lazydfa_c.specs.Caches.{written_over}
use Rattle.lazydfa_c.specs.Codes.{number_of}
use Rattle.lazydfa_c.specs.Handles.{is_open}
use Rattle.lazydfa_c.specs.Limits.{admits}
use Rattle.lazydfa_c.specs.Programs.{HasPrograms, HasProgramsFor}
use Rattle.lazydfa_c.specs.Statuses.{done_status, fault_status, plain, status_at}
use Rattle.lazydfa_c.specs.declared.code.Code.TheVariants as code
use Rattle.lazydfa_c.specs.declared.handle.Handle.{Handle}
use Rattle.lazydfa_c.specs.declared.settings.Settings.{Settings}
use Rattle.lazydfa_c.specs.declared.status.Status.{Status}
use Rattle.lazydfa_c.specs.declared.text.Refusal.{Refusal}
use Rattle.lazydfa_c.specs.declared.text.Report.{Report}
use Rattle.lazydfa_c.specs.declared.text.TextOptions.{TextOptions}

-- the texts that are concatenated, split by their lengths
abbrev pub texts_in : (bytes : List ℕ) → (lengths : List ℕ) → List (List ℕ)
texts_in bytes [] = []
texts_in bytes (n ∷ ns) = take n bytes ∷ texts_in (drop n bytes) ns

-- the greatest size of the tables of the patterns, in bytes; the default is 10 MiB
abbrev pub size_limit_of : TextOptions → ℕ
size_limit_of options = if options.has_size_limit == 0 then 10485760 else options.size_limit

-- the greatest depth to which a pattern may nest; the default is 32
abbrev pub nest_limit_of : TextOptions → ℕ
nest_limit_of options = if options.nest_limit == 0 then 32 else options.nest_limit

-- the options for parsing texts: any number of C but 0 is true, `no_unicode` and `bytes` turn an option off, and the
-- DFAs alone search for a Unicode word boundary if the settings say so
abbrev pub reading_of : TextOptions → Settings → Reading
reading_of options settings = record {
  unicode = options.no_unicode == 0;
  case_insensitive = not (options.case_insensitive == 0);
  multi_line = not (options.multi_line == 0);
  dot_matches_new_line = not (options.dot_matches_new_line == 0);
  crlf = not (options.crlf == 0);
  swap_greed = not (options.swap_greed == 0);
  ignore_whitespace = not (options.ignore_whitespace == 0);
  octal = not (options.octal == 0);
  utf8 = options.bytes == 0;
  ascii = not (settings.unicode_word_boundary == 0);
  size_limit = size_limit_of options;
  nest_limit = nest_limit_of options;
  cache_capacity = capacity_of settings;
  cache_limit = limit_of settings;
}

-- the options for texts of which some has a Unicode word boundary are those for ASCII haystacks
abbrev pub reading_for : (words : Bool) → Reading → Reading
reading_for false reading = reading
reading_for true reading = record reading { ascii = true }

-- the settings for texts of which some has a Unicode word boundary allow it: other bytes than ASCII are quit bytes
abbrev pub settings_for : (words : Bool) → Options → Options
settings_for false o = o
settings_for true o = record o { unicode_word_boundary = Some true }

-- the fault is only that the DFAs do not support a look
abbrev pub IsLook : Fault → Type 0
IsLook fault = (fault ≡ UnicodeWord) ⊎ (fault ≡ Malformed)

-- the flag is true only if these texts have no NFA because of a Unicode word boundary
abbrev pub AreWords : Reading → (texts : List (List ℕ)) → (words : Bool) → Type 0
AreWords reading texts false = Unit {0}
AreWords reading texts true = (error : PatternError) × IsNfaFault reading texts error × IsLook error.fault

-- this is the NFA of texts: if some text has a Unicode word boundary, as the flag says, that for ASCII haystacks
abbrev pub IsNfaFor : Reading → (texts : List (List ℕ)) → (words : Bool) → Automaton → Type 0
IsNfaFor reading texts words nfa = AreWords reading texts words × IsNfaOf (reading_for words reading) texts nfa

-- why texts have no NFA, neither for every haystack nor, if that is only because of a Unicode word boundary, for ASCII
-- ones
abbrev pub LacksNfaFor : Reading → (texts : List (List ℕ)) → PatternError → Type 0
LacksNfaFor reading texts error =
    (words : Bool) × AreWords reading texts words × IsNfaFault (reading_for words reading) texts error

-- the status says that a call failed
abbrev pub IsFailure : Status → Type 0
IsFailure status = number_of code.Nothing < status.code

-- an NFA whose only state has no edges
abbrev pub MatchesNothing : Automaton → Type 0
MatchesNothing nfa = nfa.states ≡ Fail ∷ []

-- the forward DFA of the regex is an NFA's, and its reverse DFA matches nothing
pub record IsForwardOnly (o : Options) (nfa : Automaton) (regex : Regex) : Type 0 where
  -- the NFA of its reverse DFA
  pub none : Automaton
  -- nothing matches there
  pub nothing : MatchesNothing none
  -- the regex is built from both NFAs
  pub built : IsPairOf o nfa none regex

-- the regex that is built from an NFA: the full one, or, if that is requested, one that only searches forward
abbrev pub IsRegexFor : (forward_only : ℕ) → Options → Automaton → Regex → Type 0
IsRegexFor zero o nfa regex = IsBuiltRegex o nfa regex
IsRegexFor (suc n) o nfa regex = IsForwardOnly o nfa regex

-- the regex that is built from an NFA of texts; if it only searches forward, its iterations make no attempts to find
-- matches at once
abbrev pub IsPatternFor : (forward_only : ℕ) → Options → Automaton → Pattern → Type 0
IsPatternFor forward_only o nfa pattern =
    IsRegexFor forward_only o nfa pattern.regex × ((forward_only ≡ 0 → ⊥) → pattern.attempts ≡ false)

-- the status if no regex is built: that of an error of `build_from_nfa`; for a regex that only searches forward, that
-- of any error
abbrev pub IsRegexErrorStatus : (forward_only : ℕ) → Options → Automaton → Status → Type 0
IsRegexErrorStatus zero o nfa status = IsBuildErrorStatus o nfa status
IsRegexErrorStatus (suc n) o nfa status = IsFailure status

-- the refusal that is written if no text has an error
abbrev pub none_refused : Refusal
none_refused = record { pattern = 0; start = 0; end = 0; length = 0 }

-- the refusal of a text that is not UTF-8 from an offset on
abbrev pub refusal_at : (number offset : ℕ) → Refusal
refusal_at number offset = record { pattern = number; start = offset; end = offset; length = 0 }

-- a refusal without a span, which counts as an empty one at the start
abbrev pub refusal_alone : (number length : ℕ) → Refusal
refusal_alone number length = record { pattern = number; start = 0; end = 0; length = length }

-- the refusal of a fault: a syntax error has the span of the text that it is about
abbrev pub fault_refusal : (number length : ℕ) → Fault → Refusal
fault_refusal number length (Syntax error) =
    record { pattern = number; start = error.span.start; end = error.span.end; length = length }
fault_refusal number length UnicodeWord = refusal_alone number length
fault_refusal number length TooLarge = refusal_alone number length
fault_refusal number length Malformed = refusal_alone number length
fault_refusal number length (Refused error) = refusal_alone number length
fault_refusal number length (Unbuilt error) = refusal_alone number length
fault_refusal number length OutOfMemory = refusal_alone number length

-- the refusal of an error, with the length of its message
abbrev pub refusal_of : PatternError → (length : ℕ) → Refusal
refusal_of error length = fault_refusal error.number length error.fault

-- the first of these texts that is not UTF-8, and the offset up to which it is
pub record IsFirstNotText (texts : List (List ℕ)) (number offset : ℕ) : Type 0 where
  -- all texts before it are UTF-8
  pub before : All IsUtf8 (take number texts)
  -- the text
  pub text : List ℕ
  -- it is the text of this number, counted from 0
  pub is : slice_get texts number ≡ Some text
  -- it is UTF-8 up to this offset, and not up to a later one
  pub upto : IsValidUpTo text offset

-- why concatenated texts are not split by their lengths, and what is reported of it
pub data IsCutError (bytes lengths : List ℕ) (old new : Refusal) (status : Status) : Type 0 where
  -- the lengths do not add up to the length of all texts
  WrongLengths :
      sum lengths ≢ length bytes → status ≡ plain code.Argument → new ≡ old → IsCutError bytes lengths old new status
  -- a text is not UTF-8
  NotText :
      (number offset : ℕ) → IsFirstNotText (texts_in bytes lengths) number offset
      → status ≡ status_at code.NotText offset → new ≡ refusal_at number offset
      → IsCutError bytes lengths old new status
  -- the allocation of the parts fails
  LacksParts : status ≡ plain code.Memory → new ≡ old → IsCutError bytes lengths old new status

-- a text has no pattern, which is reported
abbrev pub HasFirstFault : Reading → (texts : List (List ℕ)) → (new : Report) → Status → Type 0
HasFirstFault reading texts new status =
    (error : PatternError) × IsFirstFault reading texts error × (status ≡ fault_status error.fault)
    × (new.refusal ≡ refusal_of error (length (string_bytes new.message)))

-- why texts have no NFA, or no programs, and what is reported of it
pub data LacksNfa (reading : Reading) (bytes lengths : List ℕ) (old new : Report) (status : Status) : Type 0 where
  -- they are not split; the message is empty
  CannotCut :
      IsCutError bytes lengths old.refusal new.refusal status → new.message ≡ old.message
      → LacksNfa reading bytes lengths old new status
  -- one of them is not a pattern, or the patterns cannot be joined
  HasFault :
      (error : PatternError) → LacksNfaFor reading (texts_in bytes lengths) error → status ≡ fault_status error.fault
      → new.refusal ≡ refusal_of error (length (string_bytes new.message))
      → LacksNfa reading bytes lengths old new status

-- the report is about all texts
abbrev pub IsReportOfAll : Report → Type 0
IsReportOfAll report = report.refusal ≡ refusal_alone 0 (length (string_bytes report.message))

-- why texts have no regex with these settings, and what is reported of it
pub data LacksRegex (o : Options) (options : TextOptions) (settings : Settings) (bytes lengths : List ℕ)
    (from to : Report) (status : Status) : Type 0 where
  -- they have no NFA
  TextsFail :
      LacksNfa (reading_of options settings) bytes lengths from to status
      → LacksRegex o options settings bytes lengths from to status
  -- no regex is built from their NFA; the message is about all texts
  RegexFails :
      (words : Bool) (nfa : Automaton) → IsNfaFor (reading_of options settings) (texts_in bytes lengths) words nfa
      → IsNotOpened (IsRegexErrorStatus options.forward_only (settings_for words o) nfa) status → IsReportOfAll to
      → LacksRegex o options settings bytes lengths from to status

-- the regex of texts is that of an NFA that matches what the texts mean
pub record HoldsTexts (o : Options) (options : TextOptions) (settings : Settings) (bytes lengths : List ℕ)
    (handle : Handle) : Type 0 where
  -- the lengths add up to the length of all texts
  pub whole : sum lengths ≡ length bytes
  -- whether some text has a Unicode word boundary, which the settings do not allow
  pub words : Bool
  -- the NFA
  pub nfa : Automaton
  -- it matches what the texts mean, in ASCII haystacks if some text has a Unicode word boundary
  pub meant : IsNfaFor (reading_of options settings) (texts_in bytes lengths) words nfa
  -- the programs
  pub programs : Option Programs
  -- if groups are asked for, or some text has a Unicode word boundary, they find the matches and groups of the texts
  pub grouped :
      HasProgramsFor options.groups words (config_of (reading_of options settings)) (texts_in bytes lengths) programs
  -- the handle is open on the regex of the NFA, with the programs
  pub holds :
      HoldsRegex (HasPrograms programs words (IsPatternFor options.forward_only (settings_for words o) nfa)) handle

-- the handle is opened on the regex of texts, or is unchanged, and the status says why there is no such regex
abbrev pub OpensTexts : Options → TextOptions → Settings → (bytes lengths : List ℕ) → (old new : Handle)
    → (from to : Report) → Result (Unit {0}) Status → Type 0
OpensTexts o options settings bytes lengths old new from to (Ok u) =
    HoldsTexts o options settings bytes lengths new × (to ≡ from)
OpensTexts o options settings bytes lengths old new from to (Err e) =
    (new ≡ old) × IsFailure e × LacksRegex o options settings bytes lengths from to e

-- the handle is opened if the texts are within the limits; otherwise nothing is parsed, and the texts are reported as
-- too large
abbrev pub OpensAdmitted : (is_within : Bool) → Options → TextOptions → Settings → (bytes lengths : List ℕ)
    → (old new : Handle) → (from to : Report) → Result (Unit {0}) Status → Type 0
OpensAdmitted true o options settings bytes lengths old new from to done =
    OpensTexts o options settings bytes lengths old new from to done
OpensAdmitted false o options settings bytes lengths old new from to done =
    (new ≡ old) × IsReportOfAll to × (done ≡ Err (plain code.TooLarge))

-- the handle is opened if the concatenated texts are within the limits
abbrev pub OpensWithin : Options → TextOptions → Settings → (bytes lengths : List ℕ) → (old new : Handle)
    → (from to : Report) → Result (Unit {0}) Status → Type 0
OpensWithin o options settings bytes lengths old new from to done =
    OpensAdmitted (admits options bytes) o options settings bytes lengths old new from to done

-- the handle is opened, unless it is already open, on the regex with these settings and quit bytes
abbrev pub BuildsTexts : Settings → (quits : List ℕ) → TextOptions → (bytes lengths : List ℕ) → (old new : Handle)
    → (from to : Report) → Result (Unit {0}) Status → Type 0
BuildsTexts settings quits options bytes lengths old new from to done =
    WithOptions (λ o d. OpensWithin o options settings bytes lengths old new from to d)
    ((new ≡ old) × (to ≡ from)) (is_open old.live) (options_of settings quits (kind_of settings.match_kind)) done

-- a message is written: as many whole characters as there is room for, and then a zero
pub record WritesMessage (message old new : List ℕ) : Type 0 where
  -- the number of bytes that there is room for
  pub end : ℕ
  -- they are whole characters
  pub whole : IsCharBoundary message end
  -- no further character has room
  pub most : (i : ℕ) → IsCharBoundary message i → i < length old → i ≤ end
  -- the zero has room, if anything has
  pub fits : 0 < length old → end < length old
  -- they are written, and the zero after them; the rest is unchanged
  pub written : new ≡ written_over (take end message ++ 0 ∷ []) old

-- `lazydfa_regex_new` and `lazydfa_regex_any_of`
pub record BuildsAnyOf (settings : Settings) (quits : List ℕ) (options : TextOptions) (bytes lengths : List ℕ)
    (old new : Handle) (refusal : Refusal) (before after : List ℕ) (status : Status) : Type 0 where
  -- nothing is to be reported before the call
  pub from : Report
  -- no text has an error yet
  pub none : from.refusal ≡ none_refused
  -- the message is empty so far
  pub empty : string_bytes from.message ≡ []
  -- what is reported after it
  pub to : Report
  -- whether the handle is opened, or why not
  pub done : Result (Unit {0}) Status
  -- it is opened on the regex of the texts, or is unchanged
  pub builds : BuildsTexts settings quits options bytes lengths old new from to done
  -- the refusal, the message and the status are written
  pub reported :
      (refusal ≡ to.refusal) × WritesMessage (string_bytes to.message) before after × (status ≡ done_status done)
