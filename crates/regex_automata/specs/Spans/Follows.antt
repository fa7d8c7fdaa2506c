-- Consequences of searches over two lazy DFAs for their caches: how often they determinize, how the caches grow, and
-- what is cached.
use Rattle.std.specs.Prelude.{ℕ, suc, ◌≡◌, ◌<◌, Option, Some, None, IfSome}
use Rattle.automata_base.specs.Answers.Answers.{Half, IsInput}
use Rattle.automata_base.specs.Haystacks.Input.{Input}
use Rattle.automata_base.specs.Haystacks.Matches.{Match}
use Rattle.automata_base.specs.Answers.Spans.{IsEmptyAt, IsShort, back, from}
use Rattle.automata_base.specs.declared.util.search.Direction.TheVariants.{Backward, Forward}
use Rattle.automata_hybrid.specs.Cache.Caches.{CacheView}
use Rattle.automata_hybrid.specs.Known.Follows.{IsCostOfPass, IsCostOfPasses}
use Rattle.automata_hybrid.specs.Known.Stores.{known_of}
use Rattle.automata_hybrid.specs.Searches.Passes.{IsFound}
use Rattle.regex_automata.specs.Regexes.SoundPairs.{forward_engine}
use Rattle.regex_automata.specs.Spans.Iteration.{FindsEmptyAt}
use Rattle.regex_automata.specs.Spans.Outcomes.{FindsMatch}
use Rattle.regex_automata.specs.declared.hybrid.regex.Regex.{Regex}
use Rattle.regex_automata.specs.declared.hybrid.regex.caches.Cache.{Cache}
use Rattle.automata_config.specs.declared.error.SearchError.{SearchError}
use Rattle.regex_automata.specs.Regexes.Caches.{AreGrown, AreKnown, AreStill, KnowsBoth, NothingCleared}
use Rattle.regex_automata.specs.Spans.Errors.{IsNextError, IsOfGiven, IsRegexError}
use Rattle.regex_automata.specs.Spans.Runs.{IsNextRun, IsSpanRun}

-- what a search for a span costs the reverse cache
pub data IsCostBack (p : Regex) (input : Input) (old new : CacheView) : Type 0 where
  -- no reverse search is made, and nothing changes
  NoPass : new ≡ old → IsCostBack p input old new
  -- a reverse search is made from a forward answer: one pass from the answer's end to its base
  OnePass :
      (half : Half) → IsFound Forward p.forward input (Some half) → (IsShort (forward_engine p) input half → ⊥)
      → IsCostOfPass Backward p.reverse (back input half) (known_of old) (known_of new) → IsCostBack p input old new

-- what a search for a span costs the two caches of a regex
pub record AreCostsOf (p : Regex) (input : Input) (old new : Cache) : Type 0 where
  -- how many passes the forward search makes
  pub passes : ℕ
  -- what these passes cost the forward cache
  pub front : IsCostOfPasses Forward p.forward input passes (known_of old.forward) (known_of new.forward)
  -- what the reverse search costs the reverse cache: at most one pass
  pub back : IsCostBack p input old.reverse new.reverse

-- what the search for the match after another costs
pub data AreCostsTwice (p : Regex) (input : Input) (last : Option ℕ) (old new : Cache) : Type 0 where
  -- it is what one search costs
  OfOne : AreCostsOf p input old new → AreCostsTwice p input last old new
  -- if the first search finds an empty match at the last end, it is also what the search from one offset later costs
  OfTwo :
      FindsEmptyAt p input last → (between : Cache) → AreCostsOf p input old between
      → AreCostsOf p (from (suc input.start) input) between new → AreCostsTwice p input last old new

-- all that the next match uses is cached: what a search uses, and, if that finds an empty match at the last end, what
-- the search from one offset later uses
abbrev pub KnowsNext : Regex → Cache → Input → Option ℕ → Type 0
KnowsNext p c input last =
    KnowsBoth p c input
    × ((m : Match) → FindsMatch p input (Some m) → IsEmptyAt last m → KnowsBoth p c (from (suc input.start) input))

-- consequences of a search for a span that returns this error, or none
pub record SpanFollows (p : Regex) (input : Input) (old new : Cache) (error : Option SearchError) : Type 0 where
  -- how often it determinizes; and if there is room for as many states, nothing is cleared
  pub cost : AreCostsOf p input old new
  -- until the next clear nothing is lost
  pub grown : AreGrown p old new
  -- afterwards the caches still know only what such caches may know
  pub sound : AreKnown p new
  -- if it succeeds and nothing was cleared, all that it used is cached
  pub learned : NothingCleared old new → error ≡ None → KnowsBoth p new input
  -- if all of that was cached, it does not run out of memory, and only the progress changes
  pub known : KnowsBoth p old input → AreStill old new × IfSome error IsOfGiven
  -- if the span is done, it changes nothing that the caches know
  pub done : input.end < input.start → (known_of new.forward ≡ known_of old.forward) × (new.reverse ≡ old.reverse)

-- consequences of a search for the match after another
pub record NextFollows (p : Regex) (input : Input) (last : Option ℕ) (old new : Cache) (error : Option SearchError) :
    Type 0 where
  -- it costs what one search does, or what two do if the first finds an empty match at the last end
  pub cost : AreCostsTwice p input last old new
  -- until the next clear nothing is lost
  pub grown : AreGrown p old new
  -- afterwards the caches still know only what such caches may know
  pub sound : AreKnown p new
  -- if it succeeds and nothing was cleared, all that it used is cached
  pub learned : NothingCleared old new → error ≡ None → KnowsNext p new input last
  -- if all of that was cached, it does not run out of memory, and only the progress changes
  pub known : KnowsNext p old input last → AreStill old new × IfSome error IsOfGiven

-- Each search for a span over caches of the regex has these consequences.
abbrev pub SpansFollow : Regex → Type 0
SpansFollow p =
    (input : Input) (old new : Cache) (error : Option SearchError) → AreKnown p old
    → IsSpanRun p input old new error → SpanFollows p input old new error

-- Each search for the next match of an iteration has these consequences.
abbrev pub NextsFollow : Regex → Type 0
NextsFollow p =
    (input : Input) (last : Option ℕ) (old new : Cache) (error : Option SearchError) → AreKnown p old
    → IsNextRun p input last old new error → NextFollows p input last old new error

-- Why searches fail, and what that excludes.
pub record ErrorsFollow (p : Regex) : Type 0 where
  -- each error of a search for a span has such a reason
  pub spans :
      (input : Input) (old new : Cache) (error : Option SearchError) → IsInput input
      → IsSpanRun p input old new error → IfSome error (IsRegexError p old new input)
  -- each error of a search for the next match of an iteration has such a reason
  pub nexts :
      (input : Input) (last : Option ℕ) (old new : Cache) (error : Option SearchError) → IsInput input
      → IsNextRun p input last old new error → IfSome error (IsNextError p old new input last)
