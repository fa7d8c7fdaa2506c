-- The effect of the calls of a walk, and of the search for a set of patterns, on what their cache knows.
use Rattle.std.specs.Prelude.{ℕ, zero, suc, ◌≡◌, ◌<◌, ◌+◌, ◌-◌, ◌⊎◌, Bool, true, false, List, Option, None, Some}
use Rattle.std.specs.Prelude.{MatchOption, is_some, option_map}
use Rattle.automata_base.specs.Answers.Answers.{offset_in}
use Rattle.automata_base.specs.Haystacks.Input.{Input}
use Rattle.automata_base.specs.Paths.Paths.{next as unit_at}
use Rattle.automata_base.specs.Powersets.Powerset.{Powerset}
use Rattle.automata_base.specs.declared.util.search.Direction.{Direction}
use Rattle.automata_base.specs.declared.util.search.Direction.TheVariants.{Forward}
use Rattle.automata_base.specs.declared.util.search.MatchErrorKind.TheVariants.{GaveUp}
use Rattle.automata_config.specs.declared.error.SearchError.{SearchError}
use Rattle.automata_config.specs.declared.error.SearchError.TheVariants as search
use Rattle.automata_hybrid.specs.Known.Events.{after_event, with_state}
use Rattle.automata_hybrid.specs.Known.Known.{Known, begun, cleared, ended, row_in}
use Rattle.automata_hybrid.specs.Known.Passes.{UnitFails, after_unit, after_many}
use Rattle.automata_hybrid.specs.Known.Steps.{StartFailsAt}
use Rattle.automata_hybrid.specs.Machines.Machine.{Machine, quits_on}
use Rattle.automata_hybrid.specs.Searches.Passes.{HasReadNoQuit, behind_offset, given_up_offset, tape_in}
use Rattle.automata_hybrid.specs.Searches.Progress.{start_event}
use Rattle.automata_hybrid.specs.Searches.Traces.{pass_trace}
use Rattle.automata_hybrid.specs.Steps.Starts.{MayStart}
use Rattle.automata_hybrid.specs.Walks.Answers.{IsSilent, IsUnheld, ReportsNext, WalkReads}
use Rattle.automata_hybrid.specs.Walks.Progress.{IsClosedAfter, IsJoinedAfter, IsOpenAfter, ReadsItsUnits, ReadsNoUnit}
use Rattle.automata_hybrid.specs.Walks.State.{At, Ended, Fresh, Ids, Keeping, Stage, States, Walk, fresh_walk}

-- what is known with a row for the current state of a walk: it is there, or is restored without the start tag; none if
-- the call gives up
abbrev pub with_restored_row : Machine → Powerset → Known → Option Known
with_restored_row m q c = with_state m (cleared c) (record { state = q; started = false }) c

-- what is known with the state from which a walk continues: its start state, or its current state; none if the call
-- gives up, or if the walk has ended
abbrev pub after_resume : Direction → Machine → Input → Stage → Known → Option Known
after_resume way m input Fresh c = after_event m (start_event way input) c c
after_resume way m input (At q) c = with_restored_row m q c
after_resume way m input Ended c = None

-- what is known once a walk has the state from which it continues, and its call has begun at a place
abbrev pub after_going_on : Direction → Machine → Input → Stage → (from : ℕ) → Known → Option Known
after_going_on way m input stage from c =
    option_map (begun (given_up_offset way input from)) (after_resume way m input stage c)

-- none of the `units` units from a place on is a quit byte
abbrev pub ReadsNoQuit : Direction → Machine → Input → (from units : ℕ) → Type 0
ReadsNoQuit way m input from units =
    (k : ℕ) → k < units → quits_on m (unit_at (tape_in way input) (from + k)) ≡ false

-- a walk may continue: if it has not begun, a search may start
abbrev pub MayGoOn : Direction → Machine → Input → Stage → Type 0
MayGoOn way m input stage = stage ≡ Fresh → MayStart m input.anchored (tape_in way input).before

-- a call continues from where its walk is, and reads its units
pub record CallReads (way : Direction) (m : Machine) (input : Input) (walk next : Walk) (old new : Known) :
    Type 0 where
  -- there are units to read
  pub some : ReadsNoUnit input walk → ⊥
  -- it may continue
  pub may : MayGoOn way m input walk.stage
  -- what the cache knows once it has begun
  pub begun : Known
  -- this is the effect of the state from which it continues
  pub goes_on : after_going_on way m input walk.stage walk.units old ≡ Some begun
  -- how many units are read
  pub units : ℕ
  -- they are counted
  pub counted : next.units ≡ walk.units + units
  -- they go up to the next match, or up to the last that can be read
  pub its : ReadsItsUnits way m input walk next
  -- none of them is a quit byte
  pub clean : ReadsNoQuit way m input walk.units units
  -- what is known after them; the search ends at the last of them
  pub run :
      option_map (ended (given_up_offset way input (walk.units + (units - 1))))
      (after_many (pass_trace way m input) way m input walk.units units begun)
      ≡ Some new

-- the effect of a call that answers on its walk and its cache; a walk that has ended has no match
pub data CallEnds (way : Direction) (m : Machine) (input : Input) (walk next : Walk) (old new : Known) : Type 0 where
  -- it reads no unit, and changes nothing
  ReadsNone :
      (next.stage ≡ Ended → next.found ≡ None) → ReadsNoUnit input walk → next.units ≡ walk.units → new ≡ old
      → CallEnds way m input walk next old new
  -- it reads its units
  ReadsSome :
      (next.stage ≡ Ended → next.found ≡ None) → CallReads way m input walk next old new
      → CallEnds way m input walk next old new

-- why the current state of a walk is not restored; nothing changes
pub data IsNotRestored (m : Machine) (q : Powerset) (at : ℕ) (old new : Known) (e : SearchError) : Type 0 where
  -- the call gives up
  GivesUpOnIt :
      with_restored_row m q old ≡ None → e ≡ search.Match (GaveUp at) → new ≡ old → IsNotRestored m q at old new e
  -- it has no row, there is room for it, and memory runs out
  RunsOutOnIt :
      row_in old.rows q ≡ None → (with_restored_row m q old ≡ None → ⊥) → e ≡ search.OutOfMemory → new ≡ old
      → IsNotRestored m q at old new e

-- a walk does not get the state from which it continues: its start state fails, or its current state is not restored
abbrev pub IsNotResumed : Direction → Machine → Input → Stage → (units : ℕ) → (old new : Known) → SearchError → Type 0
IsNotResumed way m input Fresh units old new e =
    StartFailsAt m input.anchored (tape_in way input).before (behind_offset way input) (offset_in way input 0)
    old new e
IsNotResumed way m input (At q) units old new e = IsNotRestored m q (given_up_offset way input units) old new e
IsNotResumed way m input Ended units old new e = ⊥

-- how a call fails at the unit at place `k`
pub data CallFailsAt (keeping : Keeping) (way : Direction) (m : Machine) (input : Input) (k : ℕ) (old new : Known)
    (e : SearchError) : Type 0 where
  -- the step on it fails
  FailsAtIt : UnitFails way m input k old new e → CallFailsAt keeping way m input k old new e
  -- states are kept: the unit is read, and the state after it cannot be held
  FailsAfterIt :
      keeping ≡ States → IsUnheld way m input k e → after_unit (pass_trace way m input) way m input k old ≡ Some new
      → CallFailsAt keeping way m input k old new e

-- a call that has begun at a place reads some units from there on, which report nothing, and fails at the next one
pub record CallFailsAtUnit (keeping : Keeping) (way : Direction) (m : Machine) (input : Input) (from : ℕ)
    (begun new : Known) (e : SearchError) : Type 0 where
  -- how many units are read
  pub units : ℕ
  -- the walk reads the next one too
  pub reads : WalkReads way m input (from + units)
  -- none before it is a quit byte
  pub clean : HasReadNoQuit way m input (from + units)
  -- the units report nothing
  pub silent : IsSilent way m input from (from + units)
  -- what the cache knows after them
  pub mid : Known
  -- this is their effect
  pub run : after_many (pass_trace way m input) way m input from units begun ≡ Some mid
  -- it fails at the next one
  pub left : CallFailsAt keeping way m input (from + units) mid new e

-- the effect of a call that has units to read on its cache, if it fails
pub data CallFails (keeping : Keeping) (way : Direction) (m : Machine) (input : Input) (walk : Walk)
    (old new : Known) (e : SearchError) : Type 0 where
  -- the walk cannot continue from where it is
  FailsToGoOn :
      (ReadsNoUnit input walk → ⊥) → IsNotResumed way m input walk.stage walk.units old new e
      → CallFails keeping way m input walk old new e
  -- it continues, and fails at a unit
  FailsOnItsWay :
      (ReadsNoUnit input walk → ⊥) → MayGoOn way m input walk.stage → (begun : Known)
      → after_going_on way m input walk.stage walk.units old ≡ Some begun
      → CallFailsAtUnit keeping way m input walk.units begun new e → CallFails keeping way m input walk old new e

-- the effect of a call of a walk on what its cache knows, by the error that it returns, if any
abbrev pub IsWalkRun :
    Keeping → Direction → Machine → Input → (walk next : Walk) → (old new : Known) → Option SearchError → Type 0
IsWalkRun keeping way m input walk next old new error =
    MatchOption error (CallEnds way m input walk next old new) (CallFails keeping way m input walk old new)

-- the cache has the row of the state from which a walk continues
abbrev pub has_its_row : Known → Stage → Bool
has_its_row c Fresh = true
has_its_row c (At q) = is_some (row_in c.rows q)
has_its_row c Ended = true

-- `calls` calls of the walk of a set have ended, one after another
pub data HaveCalled (m : Machine) (input : Input) (set : List Bool) (old : Known) :
    (calls : ℕ) → Walk → Known → Type 0 where
  -- none: the walk has not begun, and nothing has changed
  NoCall : (walk : Walk) (new : Known) → walk ≡ fresh_walk → new ≡ old → HaveCalled m input set old zero walk new
  -- one more, while the set is open and the cache has the walk's current state
  OneMore :
      (calls : ℕ) (before walk : Walk) (mid new : Known) → HaveCalled m input set old calls before mid
      → IsOpenAfter m input set calls → has_its_row mid before.stage ≡ true → ReportsNext Forward m input before walk
      → CallEnds Forward m input before walk mid new → HaveCalled m input set old (suc calls) walk new

-- a search for a set that returns Ok makes calls of its walk, up to one that finds no match or leaves the set closed
pub record SetEnds (m : Machine) (input : Input) (set : List Bool) (old new : Known) : Type 0 where
  -- how many calls it makes
  pub calls : ℕ
  -- the walk after them
  pub walk : Walk
  -- they end
  pub called : HaveCalled m input set old calls walk new
  -- the last finds no match, or leaves the set closed
  pub last : (walk.stage ≡ Ended) ⊎ IsClosedAfter m input set calls

-- a search for a set that fails makes calls of its walk, and the next one fails
pub record SetFails (m : Machine) (input : Input) (set joined : List Bool) (old new : Known) (e : SearchError) :
    Type 0 where
  -- how many calls it makes before
  pub calls : ℕ
  -- the walk after them
  pub walk : Walk
  -- what the cache knows after them
  pub mid : Known
  -- they end
  pub called : HaveCalled m input set old calls walk mid
  -- the set is still open
  pub still_open : IsOpenAfter m input set calls
  -- it has what these calls reported
  pub joins : IsJoinedAfter m input set joined calls
  -- the cache has the walk's current state
  pub there : has_its_row mid walk.stage ≡ true
  -- the next call fails
  pub left : CallFails Ids Forward m input walk mid new e

-- the effect of the search for a set on what its cache knows, and on the set if it fails, by the error that it then
-- returns
abbrev pub IsSetRun :
    Machine → Input → (set joined : List Bool) → (old new : Known) → Option SearchError → Type 0
IsSetRun m input set joined old new error =
    MatchOption error (SetEnds m input set old new) (SetFails m input set joined old new)
