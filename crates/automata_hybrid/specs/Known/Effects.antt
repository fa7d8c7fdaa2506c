-- What follows from the effect of an event on what a cache knows, and so of a step and of a call for a start state.
use Rattle.std.specs.Prelude.{ℕ, ◌≡◌, ◌+◌, ◌≤◌, ◌⊎◌, true, false, Option, Some}
use Rattle.automata_base.specs.Powersets.Powerset.{Powerset}
use Rattle.automata_base.specs.declared.util.search.Anchored.{Anchored}
use Rattle.automata_config.specs.declared.error.StartError.{StartError}
use Rattle.automata_config.specs.declared.error.StepError.{StepError}
use Rattle.automata_hybrid.specs.Machines.FullDfas.{full_dfa}
use Rattle.automata_hybrid.specs.Cache.Ids.{fixed_from}
use Rattle.automata_hybrid.specs.Cache.Progress.{progress_cleared, saturated}
use Rattle.automata_hybrid.specs.Cache.Table.{row_cost}
use Rattle.automata_hybrid.specs.Steps.Events.{Event, Start, Step}
use Rattle.automata_hybrid.specs.Known.Bounds.{IsKnown}
use Rattle.automata_hybrid.specs.Known.Events.{after_event, fits, is_cached, refuses_to_clear}
use Rattle.automata_hybrid.specs.Known.Growth.{HasRow, IsGrown}
use Rattle.automata_hybrid.specs.Known.Known.{Known, counted, has_state}
use Rattle.automata_hybrid.specs.Known.Steps.{IsStartRun, IsStepRun, StartFails, StepFails, id_in}
use Rattle.automata_hybrid.specs.Machines.Machine.{Machine, quits_on}
use Rattle.automata_hybrid.specs.Steps.Starts.{start_row}
use Rattle.automata_hybrid.specs.declared.cache.row.Row.{Row}

-- the row of the state that an event asks for; the row of a successor has no start tag
abbrev pub asked_row : Machine → Event → Row
asked_row m (Start mode behind) = start_row m mode behind
asked_row m (Step q unit) = record { state = (full_dfa m).step q unit; started = false }

-- whether the cache is cleared to make room for a row
pub data ClearsFor (m : Machine) (r : Row) (old new : Known) : Type 0 where
  -- nothing is cleared, and the progress of searches is unchanged
  ClearsNothing : new.clears ≡ old.clears → new.searched ≡ old.searched → ClearsFor m r old new
  -- its state was not there and did not fit, and the clear rule allowed a clear
  ClearsAll :
      has_state old r.state ≡ false → fits m old (row_cost r) ≡ false → refuses_to_clear m old ≡ false
      → new.clears ≡ saturated (old.clears + 1) → new.searched ≡ progress_cleared old.searched
      → ClearsFor m r old new

-- what follows from an event
pub record EventFollows (m : Machine) (e : Event) (old new : Known) : Type 0 where
  -- nothing is lost until a clear
  pub grown : IsGrown m old new
  -- what the cache knows then still satisfies `IsKnown`
  pub sound : IsKnown m new
  -- if what it asks for is cached, it changes nothing
  pub known : is_cached m e old ≡ true → new ≡ old
  -- if it is not cached, it is determinized once
  pub computed : is_cached m e old ≡ false → new.count ≡ old.count + 1
  -- it is cached afterwards, even if the cache was cleared
  pub learned : is_cached m e new ≡ true
  -- no row is added except for the state that it asks for, if that state had none
  pub rows : (r : Row) → HasRow new r → HasRow old r ⊎ ((r ≡ asked_row m e) × (has_state old r.state ≡ false))
  -- the cache is cleared only for that row, if it does not fit; otherwise the progress is unchanged
  pub clears : ClearsFor m (asked_row m e) old new

-- what follows from every event on a cache of the DFA
abbrev pub EventsFollow : Machine → Type 0
EventsFollow m =
    (e : Event) (old new : Known) → IsKnown m old → after_event m e old old ≡ Some new → EventFollows m e old new

-- an ID is known
pub data KnowsId (m : Machine) (c : Known) (id : ℕ) : Type 0 where
  -- it is a fixed ID
  KnowsFixed : fixed_from ≤ id → KnowsId m c id
  -- it is the ID of a row
  KnowsRow : (q : Powerset) → id_in m c q ≡ Some id → KnowsId m c id

-- what follows from a step that returns Ok
pub record StepFollows (m : Machine) (id : ℕ) (unit : Option ℕ) (old new : Known) : Type 0 where
  -- nothing is lost until a clear
  pub grown : IsGrown m old new
  -- what the cache knows then still satisfies `IsKnown`
  pub sound : IsKnown m new
  -- it determinizes at most once
  pub counted : new.count ≤ old.count + 1
  -- on a unit that is not a quit byte, it is the event of the state that the ID names
  pub event :
      quits_on m unit ≡ false → (q : Powerset) → id_in m old q ≡ Some id → EventFollows m (Step q unit) old new

-- what follows from a call that fails
pub record FailureFollows (m : Machine) (old new : Known) : Type 0 where
  -- nothing is lost
  pub grown : IsGrown m old new
  -- what the cache knows then still satisfies `IsKnown`
  pub sound : IsKnown m new
  -- nothing changes, except possibly the count of determinizations
  pub unchanged : (new ≡ old) ⊎ (new ≡ counted old)

-- what follows from every step on a cache of the DFA, from an ID that is known
pub record StepsFollow (m : Machine) : Type 0 where
  -- if it returns Ok
  pub answered :
      (id : ℕ) (unit : Option ℕ) (old new : Known) → IsKnown m old → KnowsId m old id
      → IsStepRun m id unit old new → StepFollows m id unit old new
  -- if it fails
  pub failed :
      (id : ℕ) (unit : Option ℕ) (old new : Known) (e : StepError) → IsKnown m old → KnowsId m old id
      → StepFails m id unit old new e → FailureFollows m old new

-- what follows from every call for a start state on a cache of the DFA
pub record StartsFollow (m : Machine) : Type 0 where
  -- if it returns Ok
  pub answered :
      (mode : Anchored) (behind : Option ℕ) (old new : Known) → IsKnown m old → IsStartRun m mode behind old new
      → EventFollows m (Start mode behind) old new
  -- if it fails
  pub failed :
      (mode : Anchored) (behind : Option ℕ) (old new : Known) (e : StartError) → IsKnown m old
      → StartFails m mode behind old new e → FailureFollows m old new
