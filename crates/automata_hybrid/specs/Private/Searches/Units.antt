-- Units that a search reads from an ID: the ID that reading one returns, and its effect on what the cache knows.
use Rattle.std.specs.Prelude.{ℕ, ◌≡◌, false, true, Option, Some, Result, Ok, Err}
use Rattle.automata_base.specs.Powersets.Powerset.{Powerset, dead}
use Rattle.automata_config.specs.declared.error.SearchError.{SearchError}
use Rattle.automata_hybrid.specs.Machines.FullDfas.{full_dfa}
use Rattle.automata_hybrid.specs.Cache.Caches.{CacheView}
use Rattle.automata_hybrid.specs.Cache.Table.{Leads, Names}
use Rattle.automata_hybrid.specs.Steps.Events.{Step}
use Rattle.automata_hybrid.specs.Known.Events.{after_event}
use Rattle.automata_hybrid.specs.Known.Known.{moved}
use Rattle.automata_hybrid.specs.Known.Passes.{EventFails, ReadFails}
use Rattle.automata_hybrid.specs.Known.Stores.{known_of}
use Rattle.automata_hybrid.specs.Machines.Machine.{Machine, quits_on}
use Rattle.automata_hybrid.specs.Steps.Steps.{IsStepAnswer}

-- the effect on a cache of a step of a search on a unit that it has reached
abbrev pub StepMakes : Machine → Powerset → (unit : Option ℕ) → (at : ℕ) → (old new : CacheView) → Type 0
StepMakes m q unit at old new =
    after_event m (Step q unit) (moved at (known_of old)) (known_of old) ≡ Some (known_of new)

-- a step of a search from an ID has returned this ID
pub record HasStepped (m : Machine) (id : ℕ) (unit : Option ℕ) (at : ℕ) (old new : CacheView) (next : ℕ) : Type 0 where
  -- the ID is what the step answers
  pub answer : IsStepAnswer m id unit old new next
  -- at a quit byte nothing changes
  pub quit : quits_on m unit ≡ true → new ≡ old
  -- at any other unit the step is made from the state that the ID names
  pub taken :
      quits_on m unit ≡ false → (q : Powerset) → Names old.store.table id q → StepMakes m q unit at old new

-- a step of a search from an ID fails
pub record FailsToStep (m : Machine) (id : ℕ) (unit : Option ℕ) (at : ℕ) (old new : CacheView) (e : SearchError) :
    Type 0 where
  -- the unit is not a quit byte
  pub clean : quits_on m unit ≡ false
  -- it is the step from the state that the ID names, once the search has reached the unit
  pub fails :
      (q : Powerset) → Names old.store.table id q
      → EventFails m (Step q unit) at (moved at (known_of old)) (known_of new) e

-- what a step of a search from an ID returns: the next ID, or why it fails
abbrev pub IsStepResult :
    Machine → (id : ℕ) → (unit : Option ℕ) → (at : ℕ) → (old new : CacheView) → Result ℕ SearchError → Type 0
IsStepResult m id unit at old new (Ok next) = HasStepped m id unit at old new next
IsStepResult m id unit at old new (Err e) = FailsToStep m id unit at old new e

-- the ID that reading a unit from an ID returns
pub record IsReadAnswer (m : Machine) (id : ℕ) (unit : Option ℕ) (old new : CacheView) (next : ℕ) : Type 0 where
  -- the unit is not a quit byte
  pub clean : quits_on m unit ≡ false
  -- it leads from a state to its successor
  pub named :
      (q : Powerset) → Names old.store.table id q
      → Leads new.store.table next ((full_dfa m).step q unit)

-- a unit was read from an ID, which returns this ID
pub record HasRead (m : Machine) (id : ℕ) (unit : Option ℕ) (at : ℕ) (old new : CacheView) (next : ℕ) : Type 0 where
  -- the ID leads to the state after the unit
  pub answer : IsReadAnswer m id unit old new next
  -- the state that it begins from is not dead
  pub alive : (q : Powerset) → Names old.store.table id q → q ≡ dead → ⊥
  -- the step was made from that state
  pub taken : (q : Powerset) → Names old.store.table id q → StepMakes m q unit at old new

-- a unit was not read from an ID, which returns this error: a quit byte and the "gave up" error each have an offset
pub record FailsToRead (m : Machine) (id : ℕ) (unit : Option ℕ) (quit_at at : ℕ) (old new : CacheView)
    (e : SearchError) : Type 0 where
  -- the state that it begins from is not dead
  pub alive : (q : Powerset) → Names old.store.table id q → q ≡ dead → ⊥
  -- the reading fails from that state
  pub fails :
      (q : Powerset) → Names old.store.table id q → ReadFails m q unit quit_at at at (known_of old) (known_of new) e

-- what reading a unit from an ID returns: the ID that it leads to, or why the step fails
abbrev pub IsRead :
    Machine → (id : ℕ) → (unit : Option ℕ) → (quit_at at : ℕ) → (old new : CacheView) → Result ℕ SearchError → Type 0
IsRead m id unit quit_at at old new (Ok next) = HasRead m id unit at old new next
IsRead m id unit quit_at at old new (Err e) = FailsToRead m id unit quit_at at old new e
