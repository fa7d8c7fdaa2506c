-- What the requests of a replay do to its caches, one after another, and so why calls with these caches fail.
use Rattle.std.specs.Prelude.{ℕ, ◌≡◌, ◌↔◌, ◌<◌, Bool, List, [], ◌∷◌, length, Option, Some, None}
use Rattle.std.specs.Prelude.{Result, Ok, Err, IfOk, OnOk, slice_get}
use Rattle.std.specs.Result.{result_err}
use Rattle.automata_base.specs.Haystacks.Input.{Input}
use Rattle.automata_base.specs.Haystacks.Matches.{HalfMatch, Match}
use Rattle.automata_base.specs.Haystacks.PatternSet.{members}
use Rattle.automata_base.specs.Answers.Spans.{from}
use Rattle.automata_base.specs.Paths.Selections.{Pair}
use Rattle.automata_base.specs.declared.util.search.Direction.{Direction}
use Rattle.automata_base.specs.declared.util.search.Direction.TheVariants.{Backward, Forward}
use Rattle.automata_config.specs.declared.error.SearchError.{SearchError}
use Rattle.automata_config.specs.declared.error.SearchError.TheVariants as search
use Rattle.automata_hybrid.specs.Cache.Caches.{CacheView}
use Rattle.automata_hybrid.specs.Machines.Machine.{Machine}
use Rattle.automata_hybrid.specs.Known.Passes.{IsSearchRun}
use Rattle.automata_hybrid.specs.Known.Stores.{known_of}
use Rattle.automata_hybrid.specs.Known.Walks.{IsSetRun, IsWalkRun}
use Rattle.automata_hybrid.specs.Searches.Passes.{IsFound, WithoutBase}
use Rattle.automata_hybrid.specs.Walks.Answers.{AreWalked, HasReported, ReportsNext}
use Rattle.automata_hybrid.specs.Walks.State.{Ended, States, Walk}
use Rattle.replay.specs.Histories.{Begun, History, after, start}
use Rattle.regex_automata.specs.Spans.Iteration.{AreCollected, IsNextMatch}
use Rattle.regex_automata.specs.Spans.Outcomes.{FindsMatch}
use Rattle.regex_automata.specs.Spans.Contracts.{ArePatternsReported, IsTruthReported, empty_set}
use Rattle.regex_automata.specs.Regexes.Caches.{AreCachesOf, AreFresh, AreKnown}
use Rattle.regex_automata.specs.Spans.Runs.{IsNextRun, IsSpanRun, IsTruthRun}
use Rattle.replay.specs.Replies.{OnHalf, OnPatterns, OnSpan, OnSpans, OnTokens, OnTruth, dfa_in}
use Rattle.regex_automata.specs.Tokens.{AreTokensReported, IsTokenRun, match_of}
use Rattle.regex_automata.specs.declared.hybrid.regex.Regex.{Regex}
use Rattle.regex_automata.specs.declared.hybrid.regex.caches.Cache.{Cache}
use Rattle.replay.specs.declared.requests.Reply.{Reply}
use Rattle.replay.specs.declared.requests.Reply.TheVariants as reply
use Rattle.replay.specs.declared.requests.Request.{Request}
use Rattle.replay.specs.declared.requests.Request.TheVariants as request
use Rattle.regex_automata.specs.declared.tokens.error.TokenError.{TokenError}
use Rattle.regex_automata.specs.declared.tokens.error.TokenError.TheVariants.{Search}
use Rattle.regex_automata.specs.declared.tokens.token.Token.{Token}

-- a search of one DFA over a cache: what its passes report, and its effect on the cache
abbrev pub IsSearched :
    Direction → Machine → Input → (old new : CacheView) → Result (Option HalfMatch) SearchError → Type 0
IsSearched way m input old new result =
    IfOk result (WithoutBase (IsFound way m input))
    × IsSearchRun way m input (known_of old) (known_of new) (result_err result)

-- a search for a span: what its passes report, and its effect on the caches
abbrev pub IsSpanSearched : Regex → Input → (old new : Cache) → Result (Option Match) SearchError → Type 0
IsSpanSearched p input old new result =
    IfOk result (FindsMatch p input) × IsSpanRun p input old new (result_err result)

-- a search for whether there is a match: what its passes report, and its effect on the caches
abbrev pub IsTruthSearched : Regex → Input → (old new : Cache) → Result Bool SearchError → Type 0
IsTruthSearched p input old new result =
    IfOk result (IsTruthReported p.forward input) × IsTruthRun p input old new (result_err result)

-- the search after the last match of a list, and why that match is the last
pub data AreSearchedLast (p : Regex) (old new : Cache) (input : Input) (last : Option ℕ) (error : Option SearchError) :
    Type 0 where
  -- there is no further match, or the search fails
  EndsList : IsNextRun p input last old new error → AreSearchedLast p old new input last error
  -- there is another match, but no memory for it in the list
  NoRoom :
      (m : Match) → IsNextMatch p input last (Some m) → IsNextRun p input last old new None
      → error ≡ Some search.OutOfMemory → AreSearchedLast p old new input last error

-- the searches for a list of matches, one after another, each over the caches that the previous one left
abbrev pub AreSearched : Regex → (old new : Cache) → Input → Option ℕ → List Match → Option SearchError → Type 0
AreSearched p old new input last [] error = AreSearchedLast p old new input last error
AreSearched p old new input last (m ∷ ms) error =
    (next : Cache) × IsNextRun p input last old next None
    × AreSearched p next new (from m.end input) (Some m.end) ms error

-- what the search for a token does to the caches: it leaves the reverse one unchanged
abbrev pub IsTokenMade :
    Machine → List ℕ → (end place : ℕ) → (old new : Cache) → Option (Result Token TokenError) → Type 0
IsTokenMade m h end place old new item =
    IsTokenRun m h end place old.forward new.forward item × (new.reverse ≡ old.reverse)

-- the search for a token after the last one of a list, and why that is the last
pub data IsTokenSearchedLast (m : Machine) (h : List ℕ) (end place : ℕ) (old new : Cache) (error : Option TokenError) :
    Type 0 where
  -- there is no further token
  EndsTokenList :
      error ≡ None → IsTokenMade m h end place old new None → IsTokenSearchedLast m h end place old new error
  -- the search fails
  FailsTokenList :
      (e : TokenError) → error ≡ Some e → IsTokenMade m h end place old new (Some (Err e))
      → IsTokenSearchedLast m h end place old new error
  -- there is another token, but no memory for it in the list
  LacksTokenRoom :
      (t : Token) → error ≡ Some (Search search.OutOfMemory) → IsTokenMade m h end place old new (Some (Ok t))
      → IsTokenSearchedLast m h end place old new error

-- the search for a token of a list, given by its pattern and its span
pub record IsTokenSearched (m : Machine) (h : List ℕ) (end place : ℕ) (old new : Cache) (t : Match) : Type 0 where
  -- the token that the search returns
  pub token : Token
  -- it has this pattern and this span
  pub is : match_of token ≡ t
  -- what the search for it does to the caches
  pub made : IsTokenMade m h end place old new (Some (Ok token))

-- the searches for a list of tokens, one after another, each over the caches that the previous one left
abbrev pub AreTokensSearched :
    Machine → List ℕ → (end place : ℕ) → (old new : Cache) → List Match → Option TokenError → Type 0
AreTokensSearched m h end place old new [] error = IsTokenSearchedLast m h end place old new error
AreTokensSearched m h end place old new (t ∷ ts) error =
    (next : Cache) × IsTokenSearched m h end place old next t × AreTokensSearched m h end t.end next new ts error

-- a walk has answered `k` calls: it has ended exactly if `k` is greater than the number of its pairs
pub record HasAnswered (way : Direction) (m : Machine) (input : Input) (w : Walk) (k : ℕ) : Type 0 where
  -- its calls have reported the first `k` pairs, or all of them if there are fewer
  pub reported : HasReported way m input w k
  -- it has ended exactly if there are fewer pairs than calls
  pub ended : (pairs : List Pair) → AreWalked way m input pairs → (w.stage ≡ Ended ↔ length pairs < k)

-- a call of a walk that has answered this many calls
pub record IsCalled (way : Direction) (m : Machine) (input : Input) (answered : ℕ) (old new : CacheView)
    (result : Result (Option HalfMatch) SearchError) : Type 0 where
  -- the walk before the call
  pub walk : Walk
  -- it has answered as many calls
  pub before : HasAnswered way m input walk answered
  -- the walk after the call
  pub next : Walk
  -- if the call returns Ok, the walk goes on to the next pair
  pub reports : OnOk result (ReportsNext way m input walk next)
  -- the effect of the call on the cache, also if it fails
  pub run : IsWalkRun States way m input walk next (known_of old) (known_of new) (result_err result)

-- the cache of the DFA of a direction
abbrev pub own_of : Direction → Cache → CacheView
own_of Forward c = c.forward
own_of Backward c = c.reverse

-- the cache of the DFA of the other direction
abbrev pub other_of : Direction → Cache → CacheView
other_of Forward c = c.reverse
other_of Backward c = c.forward

-- the step of a walk, which leaves the other cache unchanged
abbrev pub IsWalkStepped : Regex → Option Begun → (old new : Cache) → Result (Option HalfMatch) SearchError → Type 0
IsWalkStepped r None old new result = ⊥
IsWalkStepped r (Some w) old new result =
    IsCalled w.way (dfa_in w.way r) w.input w.reported
    (own_of w.way old) (own_of w.way new)
    result
    × (other_of w.way new ≡ other_of w.way old)

-- a search for the patterns below a capacity, and the list of them
pub data ArePatternsSearched (m : Machine) (input : Input) (capacity : ℕ) (old new : CacheView) (found : List ℕ)
    (error : Option SearchError) : Type 0 where
  -- there is no memory for the set, and nothing is searched
  NoSet :
      new ≡ old → found ≡ [] → error ≡ Some search.OutOfMemory
      → ArePatternsSearched m input capacity old new found error
  -- the walk of a fresh set ends, or fails with this error, and the patterns of the set are listed
  Listed :
      (set : List Bool) → IsSetRun m input (empty_set capacity) set (known_of old) (known_of new) error
      → found ≡ members set
      → ArePatternsSearched m input capacity old new found error
  -- it ends or fails, and there is no memory for the list
  NoList :
      (set : List Bool) (failed : Option SearchError)
      → IsSetRun m input (empty_set capacity) set (known_of old) (known_of new) failed
      → found ≡ [] → error ≡ Some search.OutOfMemory → ArePatternsSearched m input capacity old new found error

-- a list of matches: those that an iteration returns, and the effect of its searches on the caches
abbrev pub IsListSearched : Regex → Input → (old new : Cache) → List Match → Option SearchError → Type 0
IsListSearched r input old new ms error =
    AreCollected (FindsMatch r) input ms error × AreSearched r old new input None ms error

-- a list of tokens: what its searches report, and their effect on the caches
abbrev pub IsTokenListSearched : Regex → Input → (old new : Cache) → List Match → Option TokenError → Type 0
IsTokenListSearched r input old new ts error =
    AreTokensReported r.forward input ts error
    × AreTokensSearched r.forward input.haystack input.end input.start old new ts error

-- a list of patterns: what the passes report, and the effect of the search on the cache
abbrev pub IsPatternListSearched :
    Machine → (capacity : ℕ) → Input → (old new : CacheView) → List ℕ → Option SearchError → Type 0
IsPatternListSearched m capacity input old new found error =
    (error ≡ None → ArePatternsReported m input capacity found)
    × ArePatternsSearched m input capacity old new found error

-- what a request does to the caches of the current regex; one that uses one cache alone leaves the other unchanged
abbrev pub IsMadeBy : Regex → List Begun → Request → (old new : Cache) → Reply → Type 0
IsMadeBy r walks (request.SearchFwd input) old new answer =
    OnHalf (IsSearched Forward r.forward input old.forward new.forward) answer × (new.reverse ≡ old.reverse)
IsMadeBy r walks (request.SearchRev input) old new answer =
    OnHalf (IsSearched Backward r.reverse input old.reverse new.reverse) answer × (new.forward ≡ old.forward)
IsMadeBy r walks (request.Find input) old new answer = OnSpan (IsSpanSearched r input old new) answer
IsMadeBy r walks (request.IsMatch input) old new answer = OnTruth (IsTruthSearched r input old new) answer
IsMadeBy r walks (request.Iterate input) old new answer =
    OnSpans (IsListSearched r input old new) answer
IsMadeBy r walks (request.Tokenise input) old new answer = OnTokens (IsTokenListSearched r input old new) answer
IsMadeBy r walks (request.BeginWalk way input) old new answer = new ≡ old
IsMadeBy r walks (request.StepWalk k) old new answer = OnHalf (IsWalkStepped r (slice_get walks k) old new) answer
IsMadeBy r walks (request.Which capacity input) old new answer =
    OnPatterns (IsPatternListSearched r.forward capacity input old.forward new.forward) answer
    × (new.reverse ≡ old.reverse)
IsMadeBy r walks (request.Reset k) old new answer = new ≡ old

-- what a request does to the caches of the current regex, if there is one
abbrev pub IsMadeByOf : Option Regex → List Begun → Request → (old new : Cache) → Reply → Type 0
IsMadeByOf None walks q old new answer = ⊥
IsMadeByOf (Some r) walks q old new answer = IsMadeBy r walks q old new answer

-- after an Ok reset the caches are fresh ones of its regex
abbrev pub AreFreshOf : Option Regex → Cache → Type 0
AreFreshOf None c = ⊥
AreFreshOf (Some r) c = AreFresh r c

-- what a request and its reply do to the caches: a bad request and a reset that fails leave them unchanged
abbrev pub IsRequestEffect : List Regex → History → Request → Reply → (old new : Cache) → Type 0
IsRequestEffect regexes h q (reply.Bad why) old new = new ≡ old
IsRequestEffect regexes h (request.Reset k) (reply.Done (Ok done)) old new = AreFreshOf (slice_get regexes k) new
IsRequestEffect regexes h q answer old new = IsMadeByOf (slice_get regexes h.current) h.walks q old new answer

-- the caches belong to the current regex, and know only what such caches may know
abbrev pub AreOfCurrent : List Regex → History → Cache → Type 0
AreOfCurrent regexes h c = (r : Regex) → slice_get regexes h.current ≡ Some r → AreCachesOf c r × AreKnown r c

-- the requests are answered one after another over such caches; so the error of a reply comes from a call on these
-- caches
abbrev pub AreAnsweredAfter : List Regex → History → Cache → List Request → List Reply → Type 0
AreAnsweredAfter regexes h c [] replies = Unit {0}
AreAnsweredAfter regexes h c (q ∷ qs) [] = Unit {0}
AreAnsweredAfter regexes h c (q ∷ qs) (r ∷ rs) =
    (next : Cache) × AreOfCurrent regexes (after h q r) next × IsRequestEffect regexes h q r c next
    × AreAnsweredAfter regexes (after h q r) next qs rs

-- the requests are answered one after another, starting with fresh caches of regex 0, if there is one
abbrev pub AreAnswered : List Regex → List Request → List Reply → Type 0
AreAnswered [] script replies = Unit {0}
AreAnswered (r ∷ rs) script replies = (c : Cache) × AreFresh r c × AreAnsweredAfter (r ∷ rs) start c script replies
