-- Whether the transition on a unit is cached, and what was read in its cell.
use Rattle.std.specs.Prelude.{ℕ, ◌≡◌, ◌<◌, ◌≤◌, Option}
use Rattle.automata_hybrid.specs.Cache.Caches.{CacheView}
use Rattle.automata_hybrid.specs.Cache.Stores.{Stored}
use Rattle.automata_hybrid.specs.Cache.Ids.{unknown_id}
use Rattle.automata_hybrid.specs.Known.Steps.{IsStepRun}
use Rattle.automata_hybrid.specs.Known.Stores.{known_of}
use Rattle.automata_hybrid.specs.Machines.Machine.{Machine, unit_class}
use Rattle.automata_hybrid.specs.Steps.Steps.{IsStepAnswer, known_step}
use Rattle.automata_hybrid.specs.Private.Cache.Stores.{IsKnownTransition}

-- the transition from a state on a unit is cached
abbrev pub KnowsStep : Machine → Stored → (id : ℕ) → (unit : Option ℕ) → Type 0
KnowsStep m c id unit = IsKnownTransition c id (unit_class m unit)

-- this was read in the cell of a transition: the ID that it leads to, or the unknown ID if it is not cached
abbrev pub IsCellRead : Machine → Stored → (id : ℕ) → (unit : Option ℕ) → (cell : ℕ) → Type 0
IsCellRead m c id unit cell =
    (cell < unknown_id → cell ≡ known_step m c id unit) × (unknown_id ≤ cell → KnowsStep m c id unit → ⊥)

-- a step from an ID on a unit returns this ID
pub record HasTakenStep (m : Machine) (id : ℕ) (unit : Option ℕ) (old new : CacheView) (next : ℕ) : Type 0 where
  -- It is what the step answers.
  pub answer : IsStepAnswer m id unit old new next
  -- This is its effect on what the cache knows.
  pub run : IsStepRun m id unit (known_of old) (known_of new)
