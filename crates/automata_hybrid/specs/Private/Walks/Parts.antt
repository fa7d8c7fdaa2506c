-- Advancing a walk: what the functions of its calls require, what they answer, and their effect on the cache.
use Rattle.std.specs.Prelude.{ℕ, suc, ◌≡◌, ◌+◌, ◌-◌, ◌≤◌, false, Some, Result, Ok, Err}
use Rattle.automata_base.specs.ByteClasses.Classes.{is_quit}
use Rattle.automata_base.specs.Haystacks.Input.{Input}
use Rattle.automata_base.specs.Paths.Paths.{next as unit_at}
use Rattle.automata_base.specs.Powersets.Powerset.{Powerset}
use Rattle.automata_base.specs.declared.util.search.Direction.{Direction}
use Rattle.automata_config.specs.declared.error.SearchError.{SearchError}
use Rattle.automata_config.specs.declared.error.StepError.{StepError}
use Rattle.automata_hybrid.specs.declared.search.walk.advance.Arrival.{Arrival}
use Rattle.automata_hybrid.specs.Cache.Caches.{CacheView}
use Rattle.automata_hybrid.specs.Known.Known.{Known}
use Rattle.automata_hybrid.specs.Known.Passes.{UnitFails, after_many, after_unit}
use Rattle.automata_hybrid.specs.Known.Stores.{known_of}
use Rattle.automata_hybrid.specs.Known.Walks.{CallEnds, CallFailsAtUnit, IsNotRestored, IsNotResumed, CallFails}
use Rattle.automata_hybrid.specs.Known.Walks.{after_resume, with_restored_row}
use Rattle.automata_hybrid.specs.Walks.Cached.{IsToRead}
use Rattle.automata_hybrid.specs.Machines.Machine.{Machine}
use Rattle.automata_hybrid.specs.Private.Searches.PassState.{step_error}
use Rattle.automata_hybrid.specs.Searches.Passes.{state_in, tape_in}
use Rattle.automata_hybrid.specs.Searches.Traces.{pass_trace}
use Rattle.automata_hybrid.specs.Steps.Starts.{MayStart}
use Rattle.automata_hybrid.specs.Cache.Table.{Leads, Names, Rows}
use Rattle.automata_hybrid.specs.Walks.Answers.{IsWalkOf, ReportsNext, WalkReads}
use Rattle.automata_hybrid.specs.Private.Walks.Answers.{CallGoesOn, IsArrival}
use Rattle.automata_hybrid.specs.Walks.State.{Ids, Keeping, Walk}
use Rattle.automata_hybrid.specs.Private.Walks.State.{IsHeldAt, IsHeldItself, keeping_of}
use Rattle.automata_hybrid.specs.declared.search.walk.Held.{Held}

-- this is a walk over this input, and its current state is held
pub record IsHeldWalk (way : Direction) (m : Machine) (input : Input) (t : Rows) (w : Walk) (held : Held) :
    Type 0 where
  -- it is a walk over this input
  pub reported : IsWalkOf way m input w
  -- its current state is held
  pub holds : IsHeldAt t w.stage held

-- this is a walk over this input, and its current state itself is held
pub record IsKeptWalk (way : Direction) (m : Machine) (input : Input) (w : Walk) (held : Held) : Type 0 where
  -- it is a walk over this input
  pub reported : IsWalkOf way m input w
  -- its current state itself is held
  pub itself : IsHeldItself w.stage held

-- this is a walk whose next call reads units
pub record ReadsNext (way : Direction) (m : Machine) (input : Input) (t : Rows) (w : Walk) (held : Held) :
    Type 0 where
  -- it is a walk over this input
  pub reported : IsWalkOf way m input w
  -- its current state is held
  pub holds : IsHeldAt t w.stage held
  -- its next call reads units
  pub reads : IsToRead input w.stage w.units w.reported

-- the effect of a call on what is held: it is the state that the walk then has, kept in the same form
pub record HoldsOn (t : Rows) (next : Walk) (old new : Held) : Type 0 where
  -- what is held is the state that the walk then has
  pub holds : IsHeldAt t next.stage new
  -- it is kept in the same form as before: the state itself, or its ID
  pub keeping : keeping_of new ≡ keeping_of old

-- what a call of a walk answers
pub record IsCallAnswer (way : Direction) (m : Machine) (input : Input) (walk next : Walk) : Type 0 where
  -- the walk has reported the next pair, or has ended
  pub reports : ReportsNext way m input walk next
  -- with a match it has read more units or reported one more pattern
  pub goes_on : CallGoesOn walk next

-- a call of a walk has answered, with this effect on what its cache knows
pub record AnswersCall (way : Direction) (m : Machine) (input : Input) (walk next : Walk) (old new : Known) :
    Type 0 where
  -- this is its answer
  pub answer : IsCallAnswer way m input walk next
  -- this is its effect on what its cache knows
  pub effect : CallEnds way m input walk next old new

-- what a call of a walk returns: its answer, or why it fails
abbrev pub IsCallResult :
    Keeping → Direction → Machine → Input → (walk next : Walk) → (old new : Known)
    → Result (Unit {0}) SearchError → Type 0
IsCallResult keeping way m input walk next old new (Ok unit) = AnswersCall way m input walk next old new
IsCallResult keeping way m input walk next old new (Err e) = CallFails keeping way m input walk old new e

-- a walk continues from this ID
pub record IsResumeAnswer (way : Direction) (m : Machine) (input : Input) (walk : Walk) (old new : CacheView) (id : ℕ) :
    Type 0 where
  -- it leads to the state after the units read
  pub leads : Leads new.store.table id (state_in way m input walk.units)
  -- the walk may start, or has started
  pub may : MayStart m input.anchored (tape_in way input).before
  -- this is the effect of its state on what the cache knows
  pub resumed : after_resume way m input walk.stage (known_of old) ≡ Some (known_of new)

-- what a walk that has to continue gets: the ID from which it continues, or why there is none
abbrev pub IsResumeResult :
    Direction → Machine → Input → Walk → (old new : CacheView) → Result ℕ SearchError → Type 0
IsResumeResult way m input walk old new (Ok id) = IsResumeAnswer way m input walk old new id
IsResumeResult way m input walk old new (Err e) =
    IsNotResumed way m input walk.stage walk.units (known_of old) (known_of new) e

-- a cache has the row of a state that a walk holds, with this ID
pub record HasRestored (m : Machine) (q : Powerset) (old new : CacheView) (id : ℕ) : Type 0 where
  -- the ID names the state
  pub named : Names new.store.table id q
  -- its row was there, or is restored
  pub back : with_restored_row m q (known_of old) ≡ Some (known_of new)

-- what putting back a state that a walk holds returns: its ID, or why it has no row, with an error at any offset
abbrev pub IsRestoreResult : Machine → Powerset → (old new : CacheView) → Result ℕ StepError → Type 0
IsRestoreResult m q old new (Ok id) = HasRestored m q old new id
IsRestoreResult m q old new (Err e) = (at : ℕ) → IsNotRestored m q at (known_of old) (known_of new) (step_error e at)

-- a walk has read `units` units, and at least one is left: the ID names its state there
pub record StandsAfterUnits (way : Direction) (m : Machine) (t : Rows) (input : Input) (units id : ℕ) : Type 0 where
  -- the span is not done
  pub undone : input.start ≤ input.end
  -- at least one unit is left
  pub left : units ≤ input.end - input.start
  -- the ID names the state after these units
  pub named : Names t id (state_in way m input units)

-- a walk has read the unit at a place, which returns this ID
pub record HasReadUnit (way : Direction) (m : Machine) (input : Input) (place : ℕ) (old new : CacheView) (id : ℕ) :
    Type 0 where
  -- it leads to the state after the unit
  pub leads : Leads new.store.table id (state_in way m input (suc place))
  -- the unit is not a quit byte
  pub clean : (byte : ℕ) → unit_at (tape_in way input) place ≡ Some byte → is_quit m.quits byte ≡ false
  -- this is the effect of that step on what the cache knows
  pub read : after_unit (pass_trace way m input) way m input place (known_of old) ≡ Some (known_of new)

-- what reading the unit at a place returns: the ID after it, or why the step on it fails
abbrev pub IsUnitResult :
    Direction → Machine → Input → (place : ℕ) → (old new : CacheView) → Result ℕ SearchError → Type 0
IsUnitResult way m input place old new (Ok id) = HasReadUnit way m input place old new id
IsUnitResult way m input place old new (Err e) = UnitFails way m input place (known_of old) (known_of new) e

-- a walk has advanced over units, and arrives where it reports patterns, or at its end
pub record HasAdvanced (way : Direction) (m : Machine) (input : Input) (units : ℕ) (old new : CacheView)
    (a : Arrival) : Type 0 where
  -- it arrives there
  pub arrives : IsArrival way m new.store.table input units a.id a.units
  -- how many units are read before the last
  pub before : ℕ
  -- they and the last one are counted
  pub counted : a.units ≡ suc (units + before)
  -- the walk reads the last one
  pub reads : WalkReads way m input (units + before)
  -- this is their effect on what the cache knows
  pub goes :
      after_many (pass_trace way m input) way m input units (suc before) (known_of old) ≡ Some (known_of new)

-- what advancing over the units of a walk returns: where it arrives, or why it fails at one
abbrev pub IsAdvanceResult :
    Direction → Machine → Input → (units : ℕ) → (old new : CacheView) → Result Arrival SearchError → Type 0
IsAdvanceResult way m input units old new (Ok a) = HasAdvanced way m input units old new a
IsAdvanceResult way m input units old new (Err e) =
    CallFailsAtUnit Ids way m input units (known_of old) (known_of new) e
