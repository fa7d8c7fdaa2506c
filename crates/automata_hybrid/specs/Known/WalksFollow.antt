-- What follows from the effect of the calls of a walk, and of the search for a set of patterns, on what their cache
-- knows.
use Rattle.std.specs.Prelude.{ℕ, suc, ◌≡◌, ◌+◌, ◌-◌, ◌<◌, ◌≤◌, ◌⊎◌, Bool, true, false, List, Option, Some, IfNone}
use Rattle.std.specs.Prelude.{IfSome}
use Rattle.automata_base.specs.Answers.Answers.{AreUnsplit}
use Rattle.automata_base.specs.Haystacks.Input.{Input}
use Rattle.automata_base.specs.Paths.Selections.{Pair}
use Rattle.automata_base.specs.Powersets.Powerset.{Powerset}
use Rattle.automata_base.specs.declared.util.search.Direction.{Direction}
use Rattle.automata_base.specs.declared.util.search.Direction.TheVariants.{Forward}
use Rattle.automata_config.specs.declared.error.SearchError.{SearchError}
use Rattle.automata_hybrid.specs.Known.Bounds.{IsKnown}
use Rattle.automata_hybrid.specs.Known.Cached.{KnowsItsStart, KnowsUnit}
use Rattle.automata_hybrid.specs.Known.Growth.{ClearedNothing, HasRoom, IsGrown, IsStill}
use Rattle.automata_hybrid.specs.Known.Known.{Known, counted}
use Rattle.automata_hybrid.specs.Known.Walks.{IsSetRun, IsWalkRun, has_its_row, with_restored_row}
use Rattle.automata_hybrid.specs.Machines.Machine.{Machine}
use Rattle.automata_hybrid.specs.Searches.Contracts.{IsOfInput}
use Rattle.automata_hybrid.specs.Searches.Passes.{HasReadNoQuit, Skips, tape_in}
use Rattle.automata_hybrid.specs.Steps.Starts.{MayStart}
use Rattle.automata_hybrid.specs.Walks.Answers.{HasReported, HasReportedBy, IsWalkOf, ReportsNext, WalkReads}
use Rattle.automata_hybrid.specs.Walks.Answers.{pairs_reported_in, start_count, IsUnheld}
use Rattle.automata_hybrid.specs.Walks.Cached.{IsOpen, IsToRead}
use Rattle.automata_hybrid.specs.Walks.Progress.{ReadsNoUnit}
use Rattle.automata_hybrid.specs.Walks.State.{At, Ended, Fresh, Keeping, Stage, Walk, States}

-- why a call fails although everything that it uses is cached
pub data IsKnownError (keeping : Keeping) (way : Direction) (m : Machine) (input : Input) (walk : Walk)
    (e : SearchError) : Type 0 where
  -- because of its input
  IsInputError : IsOfInput e → IsKnownError keeping way m input walk e
  -- states are kept, and the one after the unit at this place, which reports the next pair, cannot be held
  IsHoldError :
      keeping ≡ States → (j : ℕ) → walk.units ≤ j → IsUnheld way m input j e → IsKnownError keeping way m input walk e

-- the state from which a walk continues is cached: its start state, or the row of its current state
abbrev pub KnowsItsState : Direction → Machine → Known → Input → Stage → Type 0
KnowsItsState way m c input Fresh = KnowsItsStart way m c input
KnowsItsState way m c input (At q) = has_its_row c (At q) ≡ true
KnowsItsState way m c input Ended = Unit {0}

-- the transition on each unit that a walk reads after its first `from` units is cached, up to the pair after the first
-- `k`, and before a quit byte
abbrev pub KnowsUnits : Direction → Machine → Known → Input → (from k : ℕ) → Type 0
KnowsUnits way m c input from k =
    (j : ℕ) → from ≤ j → WalkReads way m input j → HasReadNoQuit way m input (suc j) → HasReportedBy way m input j k
    → KnowsUnit way m c input j

-- everything that the next call of a walk uses is cached
abbrev pub KnowsWalk : Direction → Machine → Known → Input → Walk → Type 0
KnowsWalk way m c input w =
    (k : ℕ) → HasReported way m input w k → IsToRead input w.stage w.units w.reported
    → MayStart m input.anchored (tape_in way input).before
    → KnowsItsState way m c input w.stage × KnowsUnits way m c input w.units k

-- what follows from a call of a walk that returns this error, or none
pub record CallFollows (keeping : Keeping) (way : Direction) (m : Machine) (input : Input) (walk next : Walk)
    (old new : Known) (error : Option SearchError) : Type 0 where
  -- if it answers, the number of units read has not fallen
  pub rises : IfNone error (walk.units ≤ next.units)
  -- if it answers, it determinizes at most once for each unit by which that number rises, and once for a start state
  pub cost : IfNone error (new.count + walk.units ≤ old.count + next.units + start_count walk.stage)
  -- whether it answers or fails, it determinizes at most once for each unit left, and once for a start state
  pub most : new.count ≤ old.count + (input.end - input.start + 1 - walk.units) + start_count walk.stage
  -- a start state that is cached is not determinized again
  pub started :
      KnowsItsState way m old input walk.stage
      → (new.count ≤ old.count + (input.end - input.start + 1 - walk.units))
      × IfNone error (new.count + walk.units ≤ old.count + next.units)
  -- nothing is cleared if there is room for as many states, and for the walk's current state
  pub roomy : HasRoom m old (input.end - input.start + 1 - walk.units + 1) → new.clears ≡ old.clears
  -- the cache has grown as by one more determinization than were made
  pub grown : IsGrown m old (counted new)
  -- if it had the row of the walk's current state, it has grown as by those that were made
  pub there : has_its_row old walk.stage ≡ true → IsGrown m old new
  -- if the cache does not have the walk's current state, that is restored first, and the cache grows from there
  pub restored :
      (q : Powerset) → walk.stage ≡ At q → has_its_row old (At q) ≡ false
      → (new ≡ old) ⊎ ((between : Known) × (with_restored_row m q old ≡ Some between) × IsGrown m between new)
  -- what the cache knows then still satisfies `IsKnown`
  pub sound : IsKnown m new
  -- if nothing was cleared, what it used is cached
  pub learned : ClearedNothing old new → IfNone error (KnowsWalk way m new input walk)
  -- if all of that was cached before, it fails only because of its input or because its state cannot be held, and
  -- changes only the progress
  pub known :
      KnowsWalk way m old input walk → IsStill old new × IfSome error (IsKnownError keeping way m input walk)
  -- a call that reads no unit changes nothing
  pub ready : ReadsNoUnit input walk → new ≡ old

-- what follows from every call of a walk over an input, with a cache of the DFA
abbrev pub CallsFollow : Machine → Type 0
CallsFollow m =
    (keeping : Keeping) (way : Direction) (input : Input) (walk next : Walk) (old new : Known)
    (error : Option SearchError)
    → IsKnown m old → IsWalkOf way m input walk → IfNone error (ReportsNext way m input walk next)
    → IsWalkRun keeping way m input walk next old new error
    → CallFollows keeping way m input walk next old new error

-- everything that the search for a set of patterns uses is cached: the start state of its walk, and the transition on
-- each unit that is read before it stops, or before a quit byte
abbrev pub KnowsWhich : Machine → Known → Input → List Bool → Type 0
KnowsWhich m c input set =
    input.start ≤ input.end → MayStart m input.anchored (tape_in Forward input).before
    → KnowsItsStart Forward m c input
    × ((j : ℕ) (pairs : List Pair)
    → WalkReads Forward m input j → HasReadNoQuit Forward m input (suc j)
    → AreUnsplit (Skips m) Forward input (pairs_reported_in Forward m input j) pairs → IsOpen input set pairs
    → KnowsUnit Forward m c input j)

-- what follows from the search for a set that returns this error, or none
pub record SetFollows (m : Machine) (input : Input) (set : List Bool) (old new : Known) (error : Option SearchError) :
    Type 0 where
  -- over a span of n bytes it determinizes at most n + 2 times
  pub cost : new.count ≤ old.count + (input.end - input.start + 2)
  -- it clears nothing if there is room for as many states
  pub roomy : HasRoom m old (input.end - input.start + 2) → new.clears ≡ old.clears
  -- a start state that is cached is not determinized again
  pub started : KnowsItsStart Forward m old input → new.count ≤ old.count + (input.end - input.start + 1)
  -- nothing is lost until the next clear
  pub grown : IsGrown m old new
  -- what the cache knows then still satisfies `IsKnown`
  pub sound : IsKnown m new
  -- if it answers and nothing was cleared, everything that it used is cached
  pub learned : ClearedNothing old new → IfNone error (KnowsWhich m new input set)
  -- if all of that was cached before, it fails only because of its input, and changes only the progress
  pub known : KnowsWhich m old input set → IsStill old new × IfSome error IsOfInput
  -- if the span is done, it changes nothing
  pub done : input.end < input.start → new ≡ old

-- what follows from every search for a set with a cache of the DFA
abbrev pub SetsFollow : Machine → Type 0
SetsFollow m =
    (input : Input) (set joined : List Bool) (old new : Known) (error : Option SearchError)
    → IsKnown m old → IsSetRun m input set joined old new error → SetFollows m input set old new error
