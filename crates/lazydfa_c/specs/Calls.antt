-- Contracts of the calls on a cache, each stated by the cache before and after the call and by the status.
use Rattle.std.specs.Prelude.{ℕ, ◌≡◌, ◌<◌, ◌⊎◌, ◌==◌, Bool, true, false, List}
use Rattle.std.specs.Prelude.{Option, Some, None, Result, Ok, Err, IfOk, IsSomeAnd, OnOk, if◌then◌else◌}
use Rattle.std.specs.Result.{result_err}
use Rattle.automata_base.specs.Answers.Spans.{IsNextItem, IsSpan}
use Rattle.automata_config.specs.declared.error.SearchError.{SearchError}
use Rattle.automata_hybrid.specs.Known.Walks.{IsSetRun}
use Rattle.regex_automata.specs.Promises.{Backward, FindsMatch, Forward, HalfMatch, Input, IsHalf, IsSearchRun}
use Rattle.regex_automata.specs.Promises.{IsSoundPair, forward_engine}
use Rattle.regex_automata.specs.Promises.{IsSpanOf, IsSpanRun, IsTruthOf, IsTruthReported, IsTruthRun, IsWhich}
use Rattle.regex_automata.specs.Promises.{JoinsReported, Match, known_of}
use Rattle.regex_automata.specs.Spans.Iteration.{IsNextMatch}
use Rattle.regex_automata.specs.Spans.Outcomes.{MatchLiesIn}
use Rattle.regex_automata.specs.Spans.Runs.{IsNextRun}
use Rattle.regex_automata.specs.Tokens.{GivesToken, IsTokenRun}
use Rattle.regex_automata.specs.Tokens.{match_of as token_match}
use Rattle.regex_automata.specs.declared.hybrid.regex.Regex.{Regex}
use Rattle.regex_automata.specs.declared.hybrid.regex.caches.Cache.{Cache}
use Rattle.regex_automata.specs.declared.tokens.error.TokenError.{TokenError}
use Rattle.regex_automata.specs.declared.tokens.token.Token.{Token}
use Rattle.patterns.specs.Searches.{IsAttempt, IsNarrowed}
use Rattle.lazydfa_c.specs.Codes.{number_of}
use Rattle.lazydfa_c.specs.Requests.{found_from, found_half}
use Rattle.lazydfa_c.specs.Statuses.{plain, search_status, token_status}
use Rattle.lazydfa_c.specs.declared.code.Code.TheVariants as code
use Rattle.lazydfa_c.specs.declared.handle.Handle.{Handle}
use Rattle.lazydfa_c.specs.declared.input.Found.{Found}
use Rattle.lazydfa_c.specs.declared.input.FoundHalf.{FoundHalf}
use Rattle.lazydfa_c.specs.declared.input.Request.{Request}
use Rattle.lazydfa_c.specs.declared.iterate.Iteration.{Iteration}
use Rattle.lazydfa_c.specs.declared.object.Object.{Object}
use Rattle.lazydfa_c.specs.declared.object.Object.TheVariants.{Builder, Regex as RegexObject, Searcher as CacheObject}
use Rattle.lazydfa_c.specs.declared.object.Searcher.{Searcher}
use Rattle.lazydfa_c.specs.declared.status.Status.{Status}

-- the regex of a cache
abbrev pub regex_of : Searcher → Regex
regex_of s = s.shared.pattern.value.regex

-- the result of a search is reported: a match is written as C reads it, and the status says whether there is one
abbrev pub IsTold : {A C : Type 0} → (as_read : A → C) → (written : C) → Result (Option A) SearchError → Status → Type 0
IsTold as_read written (Ok (Some found)) status = (written ≡ as_read found) × (status ≡ plain code.Done)
IsTold as_read written (Ok None) status = status ≡ plain code.Nothing
IsTold as_read written (Err e) status = status ≡ search_status e

-- the result of a search that writes nothing is reported
abbrev pub IsTruthTold : Result Bool SearchError → Status → Type 0
IsTruthTold (Ok true) status = status ≡ plain code.Done
IsTruthTold (Ok false) status = status ≡ plain code.Nothing
IsTruthTold (Err e) status = status ≡ search_status e

-- the result of a call that returns no value is reported
abbrev pub IsDoneTold : Result (Unit {0}) SearchError → Status → Type 0
IsDoneTold (Ok u) status = status ≡ plain code.Done
IsDoneTold (Err e) status = status ≡ search_status e

-- a result is written only if the status says that the call did what it was asked to do
abbrev pub WritesIfDone : {A : Type 0} → (was written : A) → Status → Type 0
WritesIfDone was written status = (status.code ≡ number_of code.Done → ⊥) → written ≡ was

-- a call that searches an input; if there is no valid input, nothing changes, and `Code::Argument` is reported
abbrev pub OfInput :
    (Does : Input → Searcher → Searcher → Status → Type 0)
    → Option Input → Searcher → Searcher → Status → Type 0
OfInput Does None s t status = (t ≡ s) × (status ≡ plain code.Argument)
OfInput Does (Some input) s t status = Does input s t status

-- a call on an object, which does this to a cache; any other object is unchanged, and its kind is reported
abbrev pub OfObject : (Does : Searcher → Searcher → Status → Type 0) → Object → Object → Status → Type 0
OfObject Does (CacheObject s) (CacheObject t) status = Does s t status
OfObject Does (CacheObject s) (Builder b) status = ⊥
OfObject Does (CacheObject s) (RegexObject r) status = ⊥
OfObject Does (Builder b) new status = (new ≡ Builder b) × (status ≡ plain code.Kind)
OfObject Does (RegexObject r) new status = (new ≡ RegexObject r) × (status ≡ plain code.Kind)

-- a call on a handle, which does this to the handle's object and puts it back; a closed handle is reported
pub record OnHandle {R : Type 0}
    (Does : Object → Object → R → Type 0) (is_closed : R) (old new : Handle) (result : R)
    : Type 0 where
  -- a handle that was open is open again, and this was done to its object
  pub opened :
      (o : Object) → old.live ≡ 1 → old.slot.value ≡ Some o
      → (new.live ≡ 1) × IsSomeAnd new.slot.value (λ p. Does o p result)
  -- a handle that was not open is closed, and the result reports that
  pub closed : (old.live ≡ 1 → ⊥) → (new.live ≡ 0) × (result ≡ is_closed)

-- a call on a cache's handle
abbrev pub OfHandle : (Does : Searcher → Searcher → Status → Type 0) → (old new : Handle) → Status → Type 0
OfHandle Does old new status = OnHandle (OfObject Does) (plain code.Closed) old new status

-- a search, which does this to the narrowed input: it finds there what it would find in the input, by the law
-- `narrowed_inputs_are_enough` of `patterns`. `Ends` holds if there is no narrowed input
pub data OfNarrowed (Does : Input → Searcher → Searcher → Status → Type 0) (Ends : Type 0) (input : Input)
    (s t : Searcher) (status : Status) : Type 0 where
  -- the narrowed input is searched
  SearchesNarrowed :
      (narrowed : Input) → IsNarrowed s.shared.pattern.value input (Some narrowed) → Does narrowed s t status
      → OfNarrowed Does Ends input s t status
  -- no match begins in the span: nothing changes, and the status is `LAZYDFA_NONE`
  FindsNoStart :
      IsNarrowed s.shared.pattern.value input None → t ≡ s → status ≡ plain code.Nothing → Ends
      → OfNarrowed Does Ends input s t status

-- a search, which does this to the narrowed input, if there is one
abbrev pub Narrowed : (Does : Input → Searcher → Searcher → Status → Type 0) → Input → Searcher → Searcher → Status
    → Type 0
Narrowed Does input s t status = OfNarrowed Does (Unit {0}) input s t status

-- what stays unchanged if the object is not a cache
abbrev pub KeepsUnlessCache : (Stays : Type 0) → Object → Type 0
KeepsUnlessCache Stays (CacheObject s) = Unit {0}
KeepsUnlessCache Stays (Builder b) = Stays
KeepsUnlessCache Stays (RegexObject r) = Stays

-- what stays unchanged if the handle is not open on a cache
pub record KeepsUnlessOpen (Stays : Type 0) (handle : Handle) : Type 0 where
  -- it is unchanged if the handle is open on another object
  pub opened :
      (o : Object) → handle.live ≡ 1 → handle.slot.value ≡ Some o → KeepsUnlessCache Stays o
  -- it is unchanged if the handle is not open
  pub closed : (handle.live ≡ 1 → ⊥) → Stays

-- a call that computes this from the handle's object, which is unchanged
abbrev pub ReadsHandle : {A : Type 0} → (Makes : Object → Result A Status → Type 0)
    → (old new : Handle) → Result A Status → Type 0
ReadsHandle Makes old new result = OnHandle (λ o p r. (p ≡ o) × Makes o r) (Err (plain code.Closed)) old new result

-- `lazydfa_find` by the DFAs: reports the result of `Regex::find`, and keeps its promises
pub record ReportsMatch (found : Found) (input : Input) (s t : Searcher) (status : Status) : Type 0 where
  -- what `Regex::find` returns
  pub result : Result (Option Match) SearchError
  -- the status reports the result, and a match is written
  pub told : IsTold found_from found result status
  -- what the search promises of its result, whatever the cache
  pub returned : IsSpanOf (regex_of s) input result
  -- the same by what the passes over the haystack report, for every NFA
  pub reported : IfOk result (FindsMatch (regex_of s) input)
  -- the effect of the search on the caches of both DFAs, also if it failed
  pub effect : IsSpanRun (regex_of s) input s.cache t.cache (result_err result)
  -- the cache keeps its regex
  pub same : t.shared ≡ s.shared
  -- its search and its walk in pieces are unchanged
  pub pieces : t.pieces ≡ s.pieces

-- `lazydfa_is_match` by the DFAs: the result of `Regex::is_match`
pub record Tests (input : Input) (s t : Searcher) (status : Status) : Type 0 where
  -- what `Regex::is_match` returns
  pub result : Result Bool SearchError
  -- the status reports it: `LAZYDFA_OK` for a match, `LAZYDFA_NONE` for no match
  pub told : IsTruthTold result status
  -- what the search promises of its result, whatever the cache
  pub returned : IsTruthOf (regex_of s) input result
  -- the same by what the passes over the haystack report, for every NFA
  pub reported : IfOk result (IsTruthReported (regex_of s).forward input)
  -- the effect of the search on the forward cache, also if it failed; the reverse cache is unchanged
  pub effect : IsTruthRun (regex_of s) input s.cache t.cache (result_err result)
  -- the cache keeps its regex
  pub same : t.shared ≡ s.shared
  -- its search and its walk in pieces are unchanged
  pub pieces : t.pieces ≡ s.pieces

-- `lazydfa_find_end` by the DFAs: the result of a search of the forward DFA; the reverse cache is unchanged
pub record FindsEnd (found : FoundHalf) (input : Input) (s t : Searcher) (status : Status) : Type 0 where
  -- the result of `DFA::try_search_fwd`: the pattern and the end of a match, or no match
  pub result : Result (Option HalfMatch) SearchError
  -- the status reports the result, and a match is written
  pub told : IsTold found_half found result status
  -- what the search promises of its result, whatever the cache
  pub returned : IsHalf Forward (regex_of s).forward input result
  -- the effect of the search on the forward cache, also if it failed
  pub effect :
      IsSearchRun Forward (regex_of s).forward input (known_of s.cache.forward) (known_of t.cache.forward)
      (result_err result)
  -- the reverse cache is unchanged
  pub reverse : t.cache.reverse ≡ s.cache.reverse
  -- the cache keeps its regex
  pub same : t.shared ≡ s.shared
  -- its search and its walk in pieces are unchanged
  pub pieces : t.pieces ≡ s.pieces

-- `lazydfa_find_start`: the result of a search of the reverse DFA; the forward cache is unchanged
pub record FindsStartBack (found : FoundHalf) (input : Input) (s t : Searcher) (status : Status) : Type 0 where
  -- the result of `DFA::try_search_rev`: the pattern and the start of a match, or no match
  pub result : Result (Option HalfMatch) SearchError
  -- the status reports the result, and a match is written
  pub told : IsTold found_half found result status
  -- what the search promises of its result, whatever the cache
  pub returned : IsHalf Backward (regex_of s).reverse input result
  -- the effect of the search on the reverse cache, also if it failed
  pub effect :
      IsSearchRun Backward (regex_of s).reverse input (known_of s.cache.reverse) (known_of t.cache.reverse)
      (result_err result)
  -- the forward cache is unchanged
  pub forward : t.cache.forward ≡ s.cache.forward
  -- the cache keeps its regex
  pub same : t.shared ≡ s.shared
  -- its search and its walk in pieces are unchanged
  pub pieces : t.pieces ≡ s.pieces

-- an iteration after a search: it is advanced past a match, and ends if there is no match or the search failed
abbrev pub iterated : Iteration → Result (Option Match) SearchError → Iteration
iterated at (Ok (Some m)) =
    record at { left = record at.left { start = m.end }; last = m.end; has_last = 1 }
iterated at (Ok None) = record at { ended = 1 }
iterated at (Err e) = record at { ended = 1 }

-- where the last match of an iteration ended, if there was one
abbrev pub last_of : Iteration → Option ℕ
last_of at = if at.has_last == 0 then None else Some at.last

-- an attempt of an iteration that has not ended found the match at once: the result of `Pattern::find_at_once`
pub record GivesAtOnce (found : Found) (old new : Iteration) (input : Input) (s t : Searcher) (status : Status)
    : Type 0 where
  -- the match
  pub item : Match
  -- it is written, and the status is `LAZYDFA_OK`
  pub told : IsTold found_from found (Ok (Some item)) status
  -- the regex makes attempts: one that only searches forward, or that was built from two NFAs, makes none
  pub allowed : s.shared.pattern.value.attempts ≡ true
  -- it is the match of the input by the paths
  pub span : IsSoundPair (regex_of s) → IsSpan (forward_engine (regex_of s)) input (Some item)
  -- and the next match of the iteration
  pub next :
      IsSoundPair (regex_of s)
      → IsNextItem (IsSpan (forward_engine (regex_of s))) input input.start (last_of old) (Some item)
  -- it lies in the span, and its pattern is one of the regex
  pub within : MatchLiesIn (regex_of s) input item
  -- it is not empty
  pub long : item.start < item.end
  -- the effect of the attempt on the forward cache; the reverse cache is unchanged
  pub effect : IsAttempt s.shared.pattern.value input s.cache t.cache
  -- the cache keeps its regex
  pub same : t.shared ≡ s.shared
  -- its search and its walk in pieces are unchanged
  pub pieces : t.pieces ≡ s.pieces
  -- the iteration is advanced past the match
  pub iterated : new ≡ iterated old (Ok (Some item))

-- a search of an iteration that has not ended: the result of `Regex::next_match`
pub record FindsNext (found : Found) (old new : Iteration) (input : Input) (s t : Searcher) (status : Status)
    : Type 0 where
  -- what `Regex::next_match` returns
  pub result : Result (Option Match) SearchError
  -- the status reports the result, and a match is written
  pub told : IsTold found_from found result status
  -- if the search did not fail, this is the next match, or none; an empty match where the last one ended does not count
  pub next : IfOk result (IsNextMatch (regex_of s) input (last_of old))
  -- the caches after an attempt to find the match at once, which found none
  pub between : Cache
  -- the effect of the attempt
  pub attempt : IsAttempt s.shared.pattern.value input s.cache between
  -- the effect of one or two searches on the caches of both DFAs, also if one failed
  pub effect : IsNextRun (regex_of s) input (last_of old) between t.cache (result_err result)
  -- the cache keeps its regex
  pub same : t.shared ≡ s.shared
  -- its search and its walk in pieces are unchanged
  pub pieces : t.pieces ≡ s.pieces
  -- the iteration is advanced past the match, or has ended
  pub iterated : new ≡ iterated old result

-- the match is found at once, or the input is searched
abbrev pub GivesOrFindsNext : Found → (old new : Iteration) → Input → Searcher → Searcher → Status → Type 0
GivesOrFindsNext found old new input s t status =
    GivesAtOnce found old new input s t status ⊎ FindsNext found old new input s t status

-- the same for a narrowed input; if there is none, the iteration ends
abbrev pub NarrowedNext : Found → (old new : Iteration) → Input → Searcher → Searcher → Status → Type 0
NarrowedNext found old new input s t status =
    OfNarrowed (GivesOrFindsNext found old new) (new ≡ iterated old (Ok None)) input s t status

-- the next token, or the reason why there is none, is reported
abbrev pub IsTokenTold : (written : Found) → Option (Result Token TokenError) → Status → Type 0
IsTokenTold written (Some (Ok t)) status = (written ≡ found_from (token_match t)) × (status ≡ plain code.Done)
IsTokenTold written None status = status ≡ plain code.Nothing
IsTokenTold written (Some (Err e)) status = status ≡ token_status e

-- the offset where the next token begins
abbrev pub offset_after : ℕ → Option (Result Token TokenError) → ℕ
offset_after offset (Some (Ok t)) = t.span.end
offset_after offset None = offset
offset_after offset (Some (Err e)) = offset

-- whether an item is an error, which is then the last item
abbrev pub has_failed : Option (Result Token TokenError) → Bool
has_failed (Some (Ok t)) = false
has_failed None = false
has_failed (Some (Err e)) = true

-- `lazydfa_token`: the next item of `Regex::tokens`
pub record TakesToken (found : Found) (old new : Request) (input : Input) (s t : Searcher) (status : Status)
    : Type 0 where
  -- the item: a token, an error, or `None` at the end of the span
  pub item : Option (Result Token TokenError)
  -- the status reports the item, and a token is written
  pub told : IsTokenTold found item status
  -- it is the item that `Regex::tokens` returns at the start of the input
  pub given :
      GivesToken (regex_of s).forward input.haystack input.end item
      input.start (offset_after input.start item) false (has_failed item)
  -- the effect of the search on the forward cache, also if it failed
  pub effect :
      IsTokenRun (regex_of s).forward input.haystack input.end input.start s.cache.forward t.cache.forward item
  -- the reverse cache is unchanged
  pub reverse : t.cache.reverse ≡ s.cache.reverse
  -- the cache keeps its regex
  pub same : t.shared ≡ s.shared
  -- its search and its walk in pieces are unchanged
  pub pieces : t.pieces ≡ s.pieces
  -- the remaining input begins where the token ends; if there is no token, it is unchanged
  pub left : new ≡ record old { start = offset_after old.start item }

-- the patterns that match are added to this set
pub record JoinsPatterns (set : List Bool) (input : Input) (s t : Searcher) (status : Status) : Type 0 where
  -- the result of `DFA::try_which_overlapping_matches`, apart from the set
  pub result : Result (Unit {0}) SearchError
  -- the status reports whether it failed, and why
  pub told : IsDoneTold result status
  -- what the call promises of its result and of the set
  pub returned : IsWhich (regex_of s).forward input set t.patterns result
  -- the same by what the overlapping walk reports, for every NFA
  pub reported : OnOk result (JoinsReported (regex_of s).forward input set t.patterns)
  -- the effect of the call on the forward cache, and on the set if it failed
  pub effect :
      IsSetRun (regex_of s).forward input set t.patterns (known_of s.cache.forward) (known_of t.cache.forward)
      (result_err result)
  -- the reverse cache is unchanged
  pub reverse : t.cache.reverse ≡ s.cache.reverse
  -- the cache keeps its regex
  pub same : t.shared ≡ s.shared
  -- its search and its walk in pieces are unchanged
  pub pieces : t.pieces ≡ s.pieces
