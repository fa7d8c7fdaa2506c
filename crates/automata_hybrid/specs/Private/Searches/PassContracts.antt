-- What the functions of a search return: for a run over cached transitions, for a pass, and for the rest of one.
use Rattle.std.specs.Prelude.{ℕ, List, Bool, zero, suc, ◌≡◌, ◌-◌, ◌<◌, ◌≤◌, Option, Some, None}
use Rattle.std.specs.Prelude.{Result, Ok, Err}
use Rattle.automata_base.specs.Answers.Answers.{offset_in}
use Rattle.automata_base.specs.Haystacks.Input.{Input, IsAllowed}
use Rattle.automata_base.specs.Haystacks.Matches.{HalfMatch}
use Rattle.automata_base.specs.Powersets.Powerset.{Powerset}
use Rattle.automata_base.specs.declared.util.search.Direction.{Direction}
use Rattle.automata_base.specs.declared.util.search.Anchored.{Anchored}
use Rattle.automata_base.specs.declared.util.search.Span.{Span}
use Rattle.automata_config.specs.declared.error.SearchError.{SearchError}
use Rattle.automata_hybrid.specs.Cache.Caches.{CacheView}
use Rattle.automata_hybrid.specs.Cache.Table.{Names}
use Rattle.automata_hybrid.specs.Machines.Machine.{Machine}
use Rattle.automata_hybrid.specs.Searches.PassState.{IsAtAlong, half_at}
use Rattle.automata_hybrid.specs.Private.Cache.Sound.{IsSoundCacheOf}
use Rattle.automata_hybrid.specs.Private.Searches.PassState.{HasLearnedUnit, HasRun, IsFollowedAlong, IsPeekedAlong}
use Rattle.automata_hybrid.specs.Searches.Traces.{Trace, pass_trace}
use Rattle.automata_hybrid.specs.declared.search.fast.follow.Stop.{Stop}
use Rattle.automata_hybrid.specs.declared.search.pass.KnownStop.{KnownStop}
use Rattle.automata_hybrid.specs.declared.search.pass.KnownStop.TheVariants.{Ended, Left}
use Rattle.automata_hybrid.specs.declared.search.fast.run.Place.{Place}
use Rattle.automata_hybrid.specs.Cache.Stores.{Stored}
use Rattle.automata_hybrid.specs.Known.Known.{Known, ended}
use Rattle.automata_hybrid.specs.Known.Passes.{FailsAtUnit, PassEnds, PassFails, UnitFails, UnitsEnd, after_unit}
use Rattle.automata_hybrid.specs.Searches.Passes.{Reads, given_up_offset}
use Rattle.automata_hybrid.specs.Searches.PassContracts.{IsPassAnswer, IsUnderway}

-- the input of these parts
abbrev pub input_at : List ℕ → Span → Anchored → (earliest : Bool) → Input
input_at haystack span anchored earliest =
    record { haystack = haystack; start = span.start; end = span.end; anchored = anchored; earliest = earliest }

-- a search over an input that is rebuilt from its parts may begin with a cache
pub record MayBegin (m : Machine) (c : CacheView) (input : Input) : Type 0 where
  -- the cache belongs to the DFA, and both have their invariants
  pub sound : IsSoundCacheOf c m
  -- the span lies in the haystack
  pub allowed : IsAllowed input

-- a pass over the span of an input has read its first `k` units, all by cached transitions
pub record IsKnownUpto (way : Direction) (m : Machine) (c : Stored) (input : Input) (k id : ℕ)
    (found : Option HalfMatch) : Type 0 where
  -- these units are bytes of the span
  pub within : k ≤ input.end - input.start
  -- the pass has read them, is in the ID's state, and has found this
  pub at : IsUnderway way m c.table input k id found
  -- the transition on each of them is cached
  pub known : (j : ℕ) → j < k → HasLearnedUnit way m c input j

-- cached transitions led a run from a place to this stop, each to an ID whose only tag is this one
pub record FollowsAlong (s : Trace) (way : Direction) (m : Machine) (c : Stored) (input : Input) (tag from : ℕ)
    (to : Stop) : Type 0 where
  -- the stop is in the span
  pub within : to.at ≤ input.end - input.start
  -- cached transitions led the run there, each to an ID whose only tag is this one
  pub followed : IsFollowedAlong s way m c input tag from to.at to.id
  -- the next ID is the one that the next byte leads to, unless it is unknown
  pub peeked : IsPeekedAlong s way m c input to.at to.id to.next

-- cached transitions led a pass from a place to this stop, each to an ID whose only tag is this one
abbrev pub FollowsTo : Direction → Machine → Stored → Input → (tag from : ℕ) → Stop → Type 0
FollowsTo way m c input tag from to = FollowsAlong (pass_trace way m input) way m c input tag from to

-- cached transitions led a run from one place to another, where it has this ID, has found this, and has this next ID
pub record RunsAlong (s : Trace) (way : Direction) (m : Machine) (c : Stored) (input : Input) (from : ℕ)
    (to : Place) : Type 0 where
  -- cached transitions led the run there
  pub run : HasRun s way m c input from to.at
  -- it has this ID there, and has found this
  pub at : IsAtAlong s way m c.table input to.at to.id to.found
  -- the next ID is the one that the next byte leads to, unless it is unknown
  pub peeked : IsPeekedAlong s way m c input to.at to.id to.next

-- what a pass has found at place `k` if that is what its state there reports, which has these patterns
abbrev pub found_there : Direction → Input → (k : ℕ) → (patterns : List ℕ) → Option HalfMatch
found_there way input zero patterns = None
found_there way input (suc j) patterns = half_at patterns (offset_in way input j) None

-- a pass has read its first `k` units, all by cached transitions, and has found what its state there reports
pub record MayContinue (way : Direction) (m : Machine) (c : Stored) (input : Input) (k id : ℕ) : Type 0 where
  -- what the pass has found
  pub found : Option HalfMatch
  -- the pass has read its first `k` units by cached transitions
  pub upto : IsKnownUpto way m c input k id found
  -- it is what the state at the place reports
  pub there : (q : Powerset) → Names c.table id q → found ≡ found_there way input k q.patterns

-- cached transitions led a pass to its unit at place `k`, the last that it reads, from the state that this ID names,
-- also by a cached transition: this is what it answers
pub record IsKnownEnd (way : Direction) (m : Machine) (c : CacheView) (input : Input) (k id : ℕ)
    (half : Option HalfMatch) : Type 0 where
  -- this was found before
  pub before : Option HalfMatch
  -- cached transitions led the pass to the unit
  pub upto : IsKnownUpto way m c.store input k id before
  -- it is what the pass answers
  pub answer : IsPassAnswer way m input half
  -- the pass reads the unit
  pub reads : Reads way m input k
  -- it reads none after it
  pub stops : (j : ℕ) → suc k ≤ j → Reads way m input j → ⊥
  -- its transition is cached
  pub known : HasLearnedUnit way m c.store input k

-- cached transitions led a pass to where it stopped: it ended with the unit there, and answers this, or has to continue
-- there
abbrev pub IsKnownStop : Direction → Machine → CacheView → Input → KnownStop → Type 0
IsKnownStop way m c input (Ended k found) = (id : ℕ) × IsKnownEnd way m c input k id found
IsKnownStop way m c input (Left from) = MayContinue way m c.store input from.at from.id

-- a pass that has begun returns a half match
pub record HasReturned (way : Direction) (m : Machine) (input : Input) (begun new : Known) (half : Option HalfMatch) :
    Type 0 where
  -- it is what the pass answers
  pub answer : IsPassAnswer way m input half
  -- the pass has read its units, and ended at the last of them
  pub ended : UnitsEnd way m input begun new

-- what the rest of a pass that has begun returns: what it answers, or why it fails at a unit
abbrev pub IsRest :
    Direction → Machine → Input → (begun new : Known) → Result (Option HalfMatch) SearchError → Type 0
IsRest way m input begun new (Ok half) = HasReturned way m input begun new half
IsRest way m input begun new (Err e) = FailsAtUnit way m input begun new e

-- the unit after the span's bytes, the last one of a pass, is read, and the pass returns a half match
pub record HasReadLast (way : Direction) (m : Machine) (input : Input) (old new : Known) (half : Option HalfMatch) :
    Type 0 where
  -- it is what the pass answers
  pub answer : IsPassAnswer way m input half
  -- what the cache knows once the unit is read
  pub mid : Known
  -- this is the effect of reading it
  pub read : after_unit (pass_trace way m input) way m input (input.end - input.start) old ≡ Some mid
  -- then the search ends
  pub ended : new ≡ ended (given_up_offset way input (input.end - input.start)) mid

-- what reading the unit after the span's bytes returns: what the pass answers, or why the step on it fails
abbrev pub IsLastRead :
    Direction → Machine → Input → (old new : Known) → Result (Option HalfMatch) SearchError → Type 0
IsLastRead way m input old new (Ok half) = HasReadLast way m input old new half
IsLastRead way m input old new (Err e) = UnitFails way m input (input.end - input.start) old new e

-- a pass has returned a half match
pub record HasPassed (way : Direction) (m : Machine) (input : Input) (old new : Known) (half : Option HalfMatch) :
    Type 0 where
  -- it is what the pass answers
  pub answer : IsPassAnswer way m input half
  -- the pass has ended
  pub ends : PassEnds way m input old new

-- what a pass returns: what it answers, or why it failed
abbrev pub IsPassResult :
    Direction → Machine → Input → (old new : Known) → Result (Option HalfMatch) SearchError → Type 0
IsPassResult way m input old new (Ok half) = HasPassed way m input old new half
IsPassResult way m input old new (Err e) = PassFails way m input old new e
