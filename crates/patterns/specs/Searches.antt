-- How patterns with needles are searched for: as without needles, but from a later offset before which no match begins,
-- or not at all.
use Rattle.std.specs.Prelude.{ℕ, ◌≡◌, ◌⊎◌, Bool, true, false, List, length, Option, Some, None, Result, Ok}
use Rattle.std.specs.Prelude.{◌≤◌, IfErr, IfSome}
use Rattle.std.specs.List.{Contains}
use Rattle.std.specs.Option.{unwrap_or}
use Rattle.std.specs.Result.{result_err}
use Rattle.regex_extract.specs.Needles.{StartsWithNeedle}
use Rattle.regex_hir.specs.Re.{Re}
use Rattle.automata_base.specs.Answers.Answers.{IsAnswer}
use Rattle.automata_base.specs.Answers.Spans.{IsMatch, IsNextItem, IsSpan, from}
use Rattle.automata_base.specs.Haystacks.Input.{Input}
use Rattle.automata_base.specs.Haystacks.Matches.{HalfMatch, Match}
use Rattle.automata_config.specs.declared.error.SearchError.{SearchError}
use Rattle.automata_hybrid.specs.Searches.Passes.{WithoutBase}
use Rattle.regex_automata.specs.Promises.{Forward, IsHalf, IsSearchRun, IsSpanOf, IsSpanRun, IsTruthOf, IsTruthRun}
use Rattle.regex_automata.specs.Promises.{forward_engine, known_of}
use Rattle.regex_automata.specs.Spans.Errors.{IsNextError}
use Rattle.regex_automata.specs.Spans.Runs.{IsNextRun, item_error}
use Rattle.regex_automata.specs.declared.hybrid.regex.caches.Cache.{Cache}
use Rattle.meaning.specs.Patterns.{span_input}
use Rattle.prefilters.specs.Needles.{AllHaveNeedleNear, AllStartWith, HasNeedleNear, NearNeedles}
use Rattle.prefilters.specs.Skipping.{MaySkipAll, MaySkipTo}
use Rattle.patterns.specs.Attempts.{AreLaterRuns, IsAnchoredRun}
use Rattle.patterns.specs.Patterns.{AreMeanings, config_of}
use Rattle.patterns.specs.declared.compile.Options.{Options}
use Rattle.patterns.specs.declared.pattern.Pattern.{Pattern}

-- every match of each of these texts begins with one of these needles
abbrev pub AreNeedlesOf : Options → (texts needles : List (List ℕ)) → Type 0
AreNeedlesOf options texts needles =
    (res : List Re) → AreMeanings (config_of options) texts res → AllStartWith res needles

-- the others are needles of every pattern that has these needles
abbrev pub MayReplace : (needles others : List (List ℕ)) → Type 0
MayReplace needles others = (re : Re) → StartsWithNeedle re needles → StartsWithNeedle re others

-- each needle that is in the first list is in the second
abbrev pub KeepsNeedles : (old new : List (List ℕ)) → Type 0
KeepsNeedles old new = (needle : List ℕ) → Contains old needle → Contains new needle

-- of every pattern whose matches begin with one of these needles, they are near the start of every match
abbrev pub AreNearFor : (needles : List (List ℕ)) → NearNeedles → Type 0
AreNearFor needles near = (re : Re) → StartsWithNeedle re needles → HasNeedleNear re near

-- every match of each of these texts has a needle near its start
abbrev pub HaveNeedlesNear : Options → (texts : List (List ℕ)) → NearNeedles → Type 0
HaveNeedlesNear options texts near =
    (res : List Re) → AreMeanings (config_of options) texts res → AllHaveNeedleNear res near

-- the pattern has needles
abbrev pub HasPrefilter : Pattern → Type 0
HasPrefilter pattern = pattern.prefilter ≡ None → ⊥

-- A search of an input may search this one instead: the input itself or, if there are needles, the input from a later
-- offset on, before which no match begins. There is none if no match begins in the span.
abbrev pub IsNarrowed : Pattern → Input → Option Input → Type 0
IsNarrowed pattern input None = HasPrefilter pattern × MaySkipAll (forward_engine pattern.regex) input
IsNarrowed pattern input (Some narrowed) =
    (narrowed ≡ input)
    ⊎ (HasPrefilter pattern × (at : ℕ) × MaySkipTo (forward_engine pattern.regex) input at
    × (narrowed ≡ from at input))

-- the rest of the haystack from an offset on
abbrev pub rest_from : List ℕ → (at : ℕ) → Input
rest_from hay at = span_input hay at (length hay)

-- what a search of the haystack from `start` on does: the patterns have needles or not, and `Searches at` says what a
-- search without needles does from offset `at` on
pub data IsSearchedFrom (pattern : Pattern) (hay : List ℕ) (start : ℕ) (Searches : (at : ℕ) → Type 0)
    (FindsNone : Type 0) : Type 0 where
  -- it is the search without needles
  SearchesAll : Searches start → IsSearchedFrom pattern hay start Searches FindsNone
  -- there are needles: it is the search from a later offset on, before which no match begins
  SearchesFrom :
      HasPrefilter pattern → (at : ℕ)
      → MaySkipTo (forward_engine pattern.regex) (rest_from hay start) at → Searches at
      → IsSearchedFrom pattern hay start Searches FindsNone
  -- there are needles, and no match begins in the rest of the haystack: it finds none
  SearchesNothing :
      HasPrefilter pattern → MaySkipAll (forward_engine pattern.regex) (rest_from hay start) → FindsNone
      → IsSearchedFrom pattern hay start Searches FindsNone

-- the pattern has needles, or bytes with which every match begins
abbrev pub HasBeginnings : Pattern → Type 0
HasBeginnings pattern = HasPrefilter pattern ⊎ (pattern.first_bytes ≡ None → ⊥)

-- where an anchored search is made, in an attempt to find the match of an input at once: no match begins before
abbrev pub IsCandidate : Pattern → Input → (at : ℕ) → Type 0
IsCandidate pattern input at = HasBeginnings pattern × MaySkipTo (forward_engine pattern.regex) input at

-- an attempt to find the match of an input at once: no search, or an anchored one and perhaps further ones if the
-- pattern has beginnings and makes attempts at them
abbrev pub IsAttempt : Pattern → Input → (old new : Cache) → Type 0
IsAttempt pattern input old new =
    (new ≡ old)
    ⊎ ((pattern.attempts ≡ true) × HasBeginnings pattern
    × (between : Cache) × IsAnchoredRun pattern.regex input old between
    × AreLaterRuns pattern.regex input between new)

-- an attempt to find the match of an input at once, and then a search of the input, unless the attempt has found it
pub data IsSearchedAfter (pattern : Pattern) (input : Input) (old new : Cache) (Finds : Type 0)
    (Searches : (between : Cache) → Type 0) : Type 0 where
  -- the attempt finds the match
  FindsAtOnce : IsAttempt pattern input old new → Finds → IsSearchedAfter pattern input old new Finds Searches
  -- it is searched, with the caches that the attempt has left
  SearchesOn :
      (between : Cache) → IsAttempt pattern input old between → Searches between
      → IsSearchedAfter pattern input old new Finds Searches

-- a search finds nothing, reads nothing, and changes nothing in its caches
abbrev pub ReadsNothing : {A : Type 0} → A → (old new : Cache) → Result A SearchError → Type 0
ReadsNothing nothing old new result = (result ≡ Ok nothing) × (new ≡ old)

-- a search for a span: what it returns, and what it does to the caches
abbrev pub IsSpanSearch :
    Pattern → List ℕ → (start : ℕ) → (old new : Cache) → Result (Option Match) SearchError → Type 0
IsSpanSearch pattern hay start old new result =
    IsSearchedFrom pattern hay start
    (λ at.
    IsSpanOf pattern.regex (rest_from hay at) result
    × IsSpanRun pattern.regex (rest_from hay at) old new (result_err result))
    (ReadsNothing None old new result)

-- a search for whether there is a match
abbrev pub IsTruthSearch :
    Pattern → List ℕ → (start : ℕ) → (old new : Cache) → Result Bool SearchError → Type 0
IsTruthSearch pattern hay start old new result =
    IsSearchedFrom pattern hay start
    (λ at.
    IsTruthOf pattern.regex (rest_from hay at) result
    × IsTruthRun pattern.regex (rest_from hay at) old new (result_err result))
    (ReadsNothing false old new result)

-- a search for the end of a match, with the forward DFA alone
abbrev pub IsEndSearch :
    Pattern → List ℕ → (start : ℕ) → (old new : Cache) → Result (Option HalfMatch) SearchError → Type 0
IsEndSearch pattern hay start old new result =
    IsSearchedFrom pattern hay start
    (λ at.
    IsHalf Forward pattern.regex.forward (rest_from hay at) result
    × IsSearchRun Forward pattern.regex.forward (rest_from hay at) (known_of old.forward) (known_of new.forward)
    (result_err result) × (new.reverse ≡ old.reverse))
    (ReadsNothing None old new result)

-- a search for the match after one that ended at `last`, and why it fails
abbrev pub IsNextSearch :
    Pattern → List ℕ → (last : Option ℕ) → (old new : Cache) → Result (Option Match) SearchError → Type 0
IsNextSearch pattern hay last old new result =
    IsSearchedFrom pattern hay (unwrap_or last 0)
    (λ at.
    IsSearchedAfter pattern (rest_from hay at) old new ((m : Match) × (result ≡ Ok (Some m)))
    (λ between.
    IsNextRun pattern.regex (rest_from hay at) last between new (result_err result)
    × IfErr result (IsNextError pattern.regex between new (rest_from hay at) last)))
    (ReadsNothing None old new result)

-- why a search for the match after one that ended at `last` fails
abbrev pub FailsNext : Pattern → (old new : Cache) → List ℕ → (last : Option ℕ) → SearchError → Type 0
FailsNext pattern old new hay last error =
    IsSearchedFrom pattern hay (unwrap_or last 0)
    (λ at.
    IsSearchedAfter pattern (rest_from hay at) old new ⊥
    (λ between. IsNextError pattern.regex between new (rest_from hay at) last error)) ⊥

-- the search for an item of an iteration; nothing changes once the iteration has ended
abbrev pub IsItemSearch :
    Pattern → List ℕ → (last : Option ℕ) → (ended : Bool) → (old new : Cache) → Option (Result Match SearchError)
    → Type 0
IsItemSearch pattern hay last true old new item = new ≡ old
IsItemSearch pattern hay last false old new item =
    IsSearchedFrom pattern hay (unwrap_or last 0)
    (λ at.
    IsSearchedAfter pattern (rest_from hay at) old new ((m : Match) × (item ≡ Some (Ok m)))
    (λ between. IsNextRun pattern.regex (rest_from hay at) last between new (item_error item)))
    ((item ≡ None) × (new ≡ old))

-- What a search finds in a narrowed input is what one finds in the given input, under either match kind, in earliest
-- searches too.
pub record NarrowingKeeps (pattern : Pattern) (input narrowed : Input) : Type 0 where
  -- a match with its start
  pub spans :
      (found : Option Match) → IsSpan (forward_engine pattern.regex) narrowed found
      → IsSpan (forward_engine pattern.regex) input found
  -- whether there is a match
  pub truths :
      (truth : Bool) → IsMatch (forward_engine pattern.regex) narrowed truth
      → IsMatch (forward_engine pattern.regex) input truth
  -- the end of a match
  pub ends :
      (found : Option HalfMatch) → WithoutBase (IsAnswer Forward (forward_engine pattern.regex) narrowed) found
      → WithoutBase (IsAnswer Forward (forward_engine pattern.regex) input) found
  -- the match after one that ended where the given span starts, or before
  pub nexts :
      (last : Option ℕ) (found : Option Match) → IfSome last (λ end. end ≤ input.start)
      → IsNextItem (IsSpan (forward_engine pattern.regex)) narrowed narrowed.start last found
      → IsNextItem (IsSpan (forward_engine pattern.regex)) input input.start last found

-- Every narrowed input keeps what is found.
abbrev pub NarrowedIsKept : Type 0
NarrowedIsKept =
    (pattern : Pattern) (input narrowed : Input) → IsNarrowed pattern input (Some narrowed)
    → NarrowingKeeps pattern input narrowed

-- Without a narrowed input there is no match.
abbrev pub WithoutNarrowedIsNone : Type 0
WithoutNarrowedIsNone =
    (pattern : Pattern) (input : Input) → IsNarrowed pattern input None
    → IsSpan (forward_engine pattern.regex) input None
