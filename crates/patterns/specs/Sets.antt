-- DFAs that find which of several patterns match: what they are, what their searches return, and the effect on the
-- cache.
use Rattle.std.specs.Prelude.{ℕ, ◌≡◌, ◌≤◌, ◌⊎◌, Bool, true, false, List, length, Some, Result, Err, IfErr, IfOk}
use Rattle.std.specs.Prelude.{is_some, slice_get}
use Rattle.std.specs.Result.{result_err}
use Rattle.regex_hir.specs.Matches.{Matches}
use Rattle.regex_hir.specs.Re.{Re}
use Rattle.automata_base.specs.Answers.TruePairs.{KeepsUtf8}
use Rattle.automata_base.specs.Haystacks.Input.{Input}
use Rattle.automata_base.specs.Haystacks.Tapes.{IsHaystack, is_split}
use Rattle.automata_determinize.specs.Laws.Walks.{InPairs}
use Rattle.automata_base.specs.Nfas.Nodes.{Automaton}
use Rattle.automata_base.specs.Paths.Selections.{Pair}
use Rattle.automata_config.specs.Options as settings
use Rattle.automata_config.specs.Settling.{settling_error}
use Rattle.automata_config.specs.declared.error.SearchError.{SearchError}
use Rattle.automata_config.specs.declared.error.SearchError.TheVariants as search
use Rattle.automata_hybrid.specs.Machines.Builds.{Builds}
use Rattle.automata_hybrid.specs.Known.Walks.{IsSetRun, IsWalkRun}
use Rattle.automata_hybrid.specs.Walks.State.{States, fresh_walk}
use Rattle.regex_automata.specs.Promises.{AreWalked, CacheView, Forward, IsMemory, IsUnhindered, JoinsReported, KindAll}
use Rattle.regex_automata.specs.Promises.{Machine, Walk, engine_of, half_nth, known_of, match_kind_of}
use Rattle.regex_automata.specs.Regexes.Builds.{IsUtf8}
use Rattle.regex_automata.specs.Spans.Contracts.{empty_set}
use Rattle.regex_automata.specs.declared.hybrid.regex.build.RegexBuildError.{RegexBuildError}
use Rattle.regex_automata.specs.declared.hybrid.regex.build.RegexBuildError.TheVariants as is
use Rattle.meaning.specs.Patterns.{span_input}
use Rattle.patterns.specs.Faults.{IsNfaFault, IsUnbuilt}
use Rattle.patterns.specs.Patterns.{AreMeanings, IsFor, IsJoinedNfa, IsNfaOf, IsWithinLimit, config_of}
use Rattle.patterns.specs.Patterns.{dfa_settings}
use Rattle.patterns.specs.declared.compile.Options.{Options}
use Rattle.patterns.specs.declared.error.PatternError.{PatternError}

-- the settings of the DFA: those of a pattern's DFAs, but with `MatchKind::All`
abbrev pub set_settings_of : Options → settings.Options
set_settings_of options =
    settings.overwritten settings.unset (record (dfa_settings options) { match_kind = Some KindAll })

-- the DFA searches for all matches of what the patterns mean
pub record IsDfaOf (options : Options) (res : List Re) (m : Machine) : Type 0 where
  -- its match kind is `MatchKind::All`
  pub kind : match_kind_of m.config ≡ KindAll
  -- its NFA answers as one that joins NFAs of what these patterns mean
  pub joined : IsJoinedNfa options res m.nfa
  -- the NFA keeps the UTF-8 promise
  pub utf8 : KeepsUtf8 Forward (engine_of m.nfa KindAll)

-- this is a DFA of the patterns of these texts
abbrev pub IsSetOf : Options → (texts : List (List ℕ)) → Machine → Type 0
IsSetOf options texts m = (res : List Re) × AreMeanings (config_of options) texts res × IsDfaOf options res m

-- the DFA is built from the NFA of these texts, which is within the size limit, with the settings of these options
pub record IsSetBuiltOf (options : Options) (texts : List (List ℕ)) (m : Machine) : Type 0 where
  -- the NFA from which the DFA is built
  pub nfa : Automaton
  -- it is the NFA of the patterns of these texts
  pub of : IsNfaOf options texts nfa
  -- it is within the size limit
  pub small : IsWithinLimit options texts nfa
  -- the DFA is what the library builds from it with the settings of these options
  pub built : Builds (set_settings_of options) nfa m

-- why no such DFA is built from an NFA: in text a match might split a character, or the DFA's builder fails, or memory
-- runs out
abbrev pub IsDfaError : Options → Automaton → RegexBuildError → Type 0
IsDfaError options nfa is.NotUtf8 = IsUtf8 nfa → ⊥
IsDfaError options nfa is.OutOfMemory = Unit {0}
IsDfaError options nfa (is.Build error) = settling_error (set_settings_of options) nfa ≡ Some error
IsDfaError options nfa error = ⊥

-- why texts have no set: they have no NFA, or no DFA is built from it with the settings of these options
abbrev pub IsSetFault : Options → (texts : List (List ℕ)) → PatternError → Type 0
IsSetFault options texts error = IsNfaFault options texts error ⊎ IsUnbuilt (IsDfaError options) options texts error

-- what a search for the patterns that match returns, as determined by its DFA and its input alone
pub record IsSetAnswer (m : Machine) (input : Input) (result : Result (List Bool) SearchError) : Type 0 where
  -- an empty set, with room for each pattern, joined with the patterns that the overlapping walk reports
  pub reported : IfOk result (JoinsReported m input (empty_set (length m.nfa.start_pattern)))
  -- if nothing else can prevent an answer, the only error is out of memory
  pub free : IsUnhindered m input → IfErr result IsMemory

-- the effect of a search for the patterns that match on its cache
pub data IsSetSearched (m : Machine) (input : Input) (old new : CacheView) (result : Result (List Bool) SearchError) :
    Type 0 where
  -- There is no memory for the set, and nothing changes.
  LacksSet : new ≡ old → result ≡ Err search.OutOfMemory → IsSetSearched m input old new result
  -- It has the effect of a search for an empty set, and returns its error, if any.
  SearchesSet :
      (joined : List Bool)
      → IsSetRun m input (empty_set (length m.nfa.start_pattern)) joined (known_of old) (known_of new)
      (result_err result)
      → IsSetSearched m input old new result

-- what a search for whether some pattern matches returns, as determined by its DFA and its input alone
pub record IsAnyAnswer (m : Machine) (input : Input) (result : Result Bool SearchError) : Type 0 where
  -- whether the overlapping walk reports a match
  pub reported :
      IfOk result (λ truth. (pairs : List Pair) → AreWalked Forward m input pairs → truth ≡ is_some (half_nth pairs 0))
  -- if nothing else can prevent an answer, the only error is out of memory
  pub free : IsUnhindered m input → IfErr result IsMemory

-- its effect on its cache: it makes the first call of an overlapping search, and returns its error, if any
abbrev pub IsAnySearched : Machine → Input → (old new : CacheView) → Result Bool SearchError → Type 0
IsAnySearched m input old new result =
    (walk : Walk) × IsWalkRun States Forward m input fresh_walk walk (known_of old) (known_of new) (result_err result)

-- these pairs of a pattern and an offset include all ends of matches in a haystack, and no pattern without a match
pub record AreEnds (options : Options) (res : List Re) (hay : List ℕ) (pairs : List Pair) : Type 0 where
  -- in whatever way a pattern matches a part of the haystack, in text one that begins where a character does, its end
  -- is one of them
  pub all :
      (p : ℕ) (re : Re) (i j : ℕ) → slice_get res p ≡ Some re → i ≤ length hay
      → (options.utf8 ≡ true → is_split hay i ≡ false) → Matches hay re i j
      → InPairs (record { pattern = p; place = j }) pairs
  -- the pattern of each pair matches some part, in some way, which does not begin after the offset
  pub own :
      (pair : Pair) → InPairs pair pairs
      → (re : Re) × (i j : ℕ) × (slice_get res pair.pattern ≡ Some re) × (i ≤ pair.place)
      × (options.utf8 ≡ true → is_split hay i ≡ false) × Matches hay re i j

-- what an overlapping search of a whole haystack reports, by each meaning that the DFA has
abbrev pub WalksReportEnds : Machine → Type 0
WalksReportEnds m =
    (options : Options) (res : List Re) (hay : List ℕ) (pairs : List Pair)
    → IsDfaOf options res m → IsFor options hay → IsHaystack hay
    → AreWalked Forward m (span_input hay 0 (length hay)) pairs → AreEnds options res hay pairs
