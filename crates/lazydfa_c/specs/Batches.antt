-- Contracts of the calls that write as many matches as there is room for.
use Rattle.std.specs.Prelude.{ℕ, ◌≡◌, ◌⊎◌, ◌<◌, ◌-◌, ◌^◌, List, [], ◌∷◌, drop, length, map, take}
use Rattle.std.specs.Prelude.{Option, None, Some, Result, Ok, Err, OnOk}
use Rattle.std.specs.Result.{result_err}
use Rattle.automata_base.specs.declared.util.search.Direction.{Direction}
use Rattle.automata_base.specs.declared.util.search.Direction.TheVariants.{Backward, Forward}
use Rattle.automata_config.specs.declared.error.SearchError.{SearchError}
use Rattle.automata_hybrid.specs.Walks.Contracts.{IsWalkCall}
use Rattle.automata_hybrid.specs.Known.Walks.{IsWalkRun}
use Rattle.automata_hybrid.specs.Walks.State.{States, Walk, fresh_walk}
use Rattle.regex_automata.specs.Promises.{CacheView, HalfMatch, Input, Machine, known_of}
use Rattle.lazydfa_c.specs.Caches.{written_over}
use Rattle.lazydfa_c.specs.Calls.{OfInput, regex_of}
use Rattle.lazydfa_c.specs.Codes.{number_of}
use Rattle.lazydfa_c.specs.Requests.{found_half, input_of}
use Rattle.lazydfa_c.specs.Statuses.{plain, search_status}
use Rattle.lazydfa_c.specs.Tokens.{TakesTokenOf}
use Rattle.lazydfa_c.specs.declared.code.Code.TheVariants as code
use Rattle.lazydfa_c.specs.declared.input.Found.{Found}
use Rattle.lazydfa_c.specs.declared.input.FoundHalf.{FoundHalf}
use Rattle.lazydfa_c.specs.declared.input.Request.{Request}
use Rattle.lazydfa_c.specs.declared.object.Searcher.{Searcher}
use Rattle.lazydfa_c.specs.declared.status.Status.{Status}

-- a call wrote this match
pub record WritesOne {A : Type 0} (Call : Found → A → A → Searcher → Searcher → Status → Type 0) (f : Found)
    (old new : A) (s t : Searcher) : Type 0 where
  -- its status
  pub status : Status
  -- it is `LAZYDFA_OK`
  pub done : status.code ≡ number_of code.Done
  -- the call does what is promised of it
  pub call : Call f old new s t status

-- calls in sequence, each of which wrote one of these matches, in order
pub data AreCalls {A : Type 0} (Call : Found → A → A → Searcher → Searcher → Status → Type 0) :
    List Found → (old new : A) → (s t : Searcher) → Type 0 where
  -- no calls: nothing changes
  NoneCalled : (old new : A) (s t : Searcher) → new ≡ old → t ≡ s → AreCalls Call [] old new s t
  -- the first call wrote the first match, and the calls after it wrote the others
  CallsOn :
      (f : Found) (fs : List Found) (old at new : A) (s u t : Searcher) → WritesOne Call f old at s u
      → AreCalls Call fs at new u t → AreCalls Call (f ∷ fs) old new s t

-- a call that writes as many matches as there is room for: a sequence of calls, each of which writes the next match,
-- until one writes none
pub record InTurn {A : Type 0} (Call : Found → A → A → Searcher → Searcher → Status → Type 0)
    (was written : List Found) (count : ℕ) (old new : A) (s t : Searcher) (status : Status) : Type 0 where
  -- the iteration, or the remaining input for tokens, after the calls that wrote a match
  pub at : A
  -- the cache after those calls
  pub between : Searcher
  -- the counted matches are those that the calls wrote
  pub calls : AreCalls Call (take count written) old at s between
  -- there is no more room, or the next call writes no match, and its status is the status of the whole
  pub last :
      ((count ≡ length written) × (status ≡ plain code.Done) × (new ≡ at) × (t ≡ between))
      ⊎ ((count < length written) × (status.code ≡ number_of code.Done → ⊥)
      × ((f : Found) × Call f at new between t status))
  -- nothing else is written
  pub rest : drop count written ≡ drop count was

-- `lazydfa_token` on the remaining input: if that is not a valid input, it is unchanged
abbrev pub Takes : List ℕ → Found → (old new : Request) → (s t : Searcher) → Status → Type 0
Takes haystack found old new s t status =
    OfInput (TakesTokenOf found old new) (input_of haystack old) s t status
    × (input_of haystack old ≡ None → new ≡ old)

-- the result of a call of an overlapping search, without the match that it found
abbrev pub done_of : Result (Option HalfMatch) SearchError → Result (Unit {0}) SearchError
done_of (Ok half) = Ok tt
done_of (Err e) = Err e

-- a call of an overlapping search: the result of the library's call, and what it promises
pub record IsWalkStep (way : Direction) (m : Machine) (input : Input) (walk next : Walk) (old new : CacheView)
    (result : Result (Option HalfMatch) SearchError) : Type 0 where
  -- if the call does not fail, it returns the match that the walk then has, if any
  pub found : OnOk result (result ≡ Ok next.found)
  -- what a call of a walk promises of its result, and of the walk after it
  pub call : IsWalkCall way m input walk next (done_of result)
  -- the effect of the call on the cache, also if it failed
  pub effect : IsWalkRun States way m input walk next (known_of old) (known_of new) (result_err result)

-- steps in sequence, each of which found one of these matches, in order
pub data AreWalkSteps (way : Direction) (m : Machine) (input : Input) :
    List HalfMatch → (walk next : Walk) → (old new : CacheView) → Type 0 where
  -- no steps: nothing changes
  NoStep :
      (walk next : Walk) (old new : CacheView) → next ≡ walk → new ≡ old
      → AreWalkSteps way m input [] walk next old new
  -- the first step found the first match, and the steps after it found the others
  StepsFurther :
      (half : HalfMatch) (halves : List HalfMatch) (walk mid next : Walk) (old between new : CacheView)
      → IsWalkStep way m input walk mid old between (Ok (Some half))
      → AreWalkSteps way m input halves mid next between new
      → AreWalkSteps way m input (half ∷ halves) walk next old new

-- the status of the last step: none if it found a match, since another step follows
abbrev pub end_status : Result (Option HalfMatch) SearchError → Option Status
end_status (Ok (Some half)) = None
end_status (Ok None) = Some (plain code.Done)
end_status (Err e) = Some (search_status e)

-- a search for all overlapping matches of an input: the steps of a new walk until one finds no match
pub record AreAll (way : Direction) (m : Machine) (input : Input) (was written : List FoundHalf) (count : ℕ)
    (old new : CacheView) (status : Status) : Type 0 where
  -- the matches that the steps found, in order
  pub halves : List HalfMatch
  -- the walk after the step that found the last of them
  pub walk : Walk
  -- the cache after that step
  pub between : CacheView
  -- the first step is a new walk's, and each step found one of these matches
  pub steps : AreWalkSteps way m input halves fresh_walk walk old between
  -- the last step found no match, or failed; or the largest number of matches that can be counted was found
  pub last :
      ((next : Walk) × (result : Result (Option HalfMatch) SearchError)
      × IsWalkStep way m input walk next between new result × (end_status result ≡ Some status))
      ⊎ ((count ≡ 2 ^ 64 - 1) × (status ≡ plain code.Done) × (new ≡ between))
  -- as many of the matches as there is room for are written
  pub first : written ≡ written_over (map found_half halves) was
  -- the count includes the matches that there was no room for
  pub counted : count ≡ length halves

-- `lazydfa_all_ends`: all overlapping matches by the forward DFA; the reverse cache is unchanged
pub record FindsAllEnds (was written : List FoundHalf) (count : ℕ) (input : Input) (s t : Searcher) (status : Status)
    : Type 0 where
  -- the ends of all matches, by steps of the forward DFA over its cache
  pub all :
      AreAll Forward (regex_of s).forward input was written count s.cache.forward t.cache.forward status
  -- the reverse cache is unchanged
  pub reverse : t.cache.reverse ≡ s.cache.reverse
  -- the cache keeps its regex
  pub same : t.shared ≡ s.shared
  -- its search and its walk in pieces are unchanged
  pub pieces : t.pieces ≡ s.pieces

-- `lazydfa_all_starts`: all overlapping matches by the reverse DFA; the forward cache is unchanged
pub record FindsAllStarts (was written : List FoundHalf) (count : ℕ) (input : Input) (s t : Searcher) (status : Status)
    : Type 0 where
  -- the starts of all matches, by steps of the reverse DFA over its cache
  pub all :
      AreAll Backward (regex_of s).reverse input was written count s.cache.reverse t.cache.reverse status
  -- the forward cache is unchanged
  pub forward : t.cache.forward ≡ s.cache.forward
  -- the cache keeps its regex
  pub same : t.shared ≡ s.shared
  -- its search and its walk in pieces are unchanged
  pub pieces : t.pieces ≡ s.pieces

-- without a valid input nothing is written, and the count is 0
abbrev pub NoneListed : {A : Type 0} → Option Input → (was written : List A) → (count : ℕ) → Type 0
NoneListed None was written count = (written ≡ was) × (count ≡ 0)
NoneListed (Some input) was written count = Unit {0}
