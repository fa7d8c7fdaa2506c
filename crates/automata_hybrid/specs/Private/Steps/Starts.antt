-- The slot of a start state, and the errors of a call for one.
use Rattle.std.specs.Prelude.{ℕ, ◌≡◌, ◌<◌, Option, Result, Ok, Err}
use Rattle.automata_base.specs.declared.util.search.Anchored.{Anchored}
use Rattle.automata_config.specs.declared.error.SearchError.{SearchError}
use Rattle.automata_config.specs.declared.error.StepError.{StepError}
use Rattle.automata_config.specs.declared.error.StartError.{StartError}
use Rattle.automata_config.specs.declared.error.StepError.TheVariants as step
use Rattle.automata_config.specs.declared.error.StartError.TheVariants as start
use Rattle.automata_hybrid.specs.Machines.Machine.{Machine}
use Rattle.automata_hybrid.specs.Machines.StartSlots.{slot_behind}
use Rattle.automata_hybrid.specs.Cache.Caches.{CacheView}
use Rattle.automata_hybrid.specs.Known.Steps.{IsStartRun, StartFailsAt}
use Rattle.automata_hybrid.specs.Known.Stores.{known_of}
use Rattle.automata_hybrid.specs.Steps.Starts.{IsStartAnswer, MayStart}

-- a search may start, and this is the slot of its start state
pub record IsStartSlot (m : Machine) (mode : Anchored) (behind : Option ℕ) (slot : ℕ) : Type 0 where
  -- the look-behind byte is not a quit byte, and the anchored mode is supported
  pub may : MayStart m mode behind
  -- the slot is the one of the anchored mode and the look-behind byte
  pub at : slot ≡ slot_behind m mode behind
  -- there is such a slot
  pub within : slot < m.slots

-- the error of a step, as a call for a start state reports it
abbrev pub start_error : StepError → StartError
start_error (step.Cache err) = start.Cache err
start_error step.OutOfMemory = start.OutOfMemory

-- a call for a start state returns this ID
pub record HasStarted (m : Machine) (mode : Anchored) (behind : Option ℕ) (old new : CacheView) (id : ℕ) :
    Type 0 where
  -- It is what the call answers.
  pub answer : IsStartAnswer m mode behind old new id
  -- This is its effect on what the cache knows.
  pub run : IsStartRun m mode behind (known_of old) (known_of new)

-- what a search's call for its start state returns: the ID, or why it fails, with an error that has the offset of the
-- look-behind byte or of the start
abbrev pub IsStartResult :
    Machine → Anchored → (behind : Option ℕ) → (behind_at start_at : ℕ) → (old new : CacheView)
    → Result ℕ SearchError → Type 0
IsStartResult m mode behind behind_at start_at old new (Ok id) = HasStarted m mode behind old new id
IsStartResult m mode behind behind_at start_at old new (Err e) =
    StartFailsAt m mode behind behind_at start_at (known_of old) (known_of new) e
