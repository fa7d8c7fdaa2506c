-- The effect of a step, or of a call for a start state, on what its cache knows.
use Rattle.std.specs.Prelude.{ℕ, ◌≡◌, ◌*◌, ◌<◌, ◌≤◌, true, false, Option, None, Some}
use Rattle.automata_base.specs.Powersets.Powerset.{Powerset}
use Rattle.automata_base.specs.declared.util.search.Anchored.{Anchored}
use Rattle.automata_config.specs.declared.error.CacheError.{CacheError}
use Rattle.automata_config.specs.declared.error.SearchError.{SearchError}
use Rattle.automata_config.specs.declared.error.StartError.{StartError}
use Rattle.automata_config.specs.declared.error.StartError.TheVariants as start
use Rattle.automata_config.specs.declared.error.StepError.{StepError}
use Rattle.automata_hybrid.specs.Cache.Ids.{fixed_from}
use Rattle.automata_hybrid.specs.Cache.Stores.{IsCacheError}
use Rattle.automata_hybrid.specs.Cache.Table.{find_id}
use Rattle.automata_hybrid.specs.Steps.Events.{Start, Step}
use Rattle.automata_hybrid.specs.Known.Events.{after_event, is_cached, made}
use Rattle.automata_hybrid.specs.Known.Known.{Known, counted}
use Rattle.automata_hybrid.specs.Machines.Machine.{Machine, quits_on}
use Rattle.automata_hybrid.specs.Machines.StartSlots.{supports}
use Rattle.automata_hybrid.specs.Steps.Starts.{MayStart, quit_behind, start_search_error}

-- the ID of a state, if it has a row: the offset of that row, with its tags
abbrev pub id_in : Machine → Known → Powerset → Option ℕ
id_in m c q = find_id m.stride (3 * m.stride) q c.rows

-- the effect of a step from an ID on a unit on what the cache knows, if it returns Ok
pub record IsStepRun (m : Machine) (id : ℕ) (unit : Option ℕ) (old new : Known) : Type 0 where
  -- from dead and quit it changes nothing
  pub fixed : fixed_from ≤ id → new ≡ old
  -- on a quit byte it changes nothing
  pub quit : quits_on m unit ≡ true → new ≡ old
  -- on any other unit it is a step from the state that the ID names
  pub does :
      quits_on m unit ≡ false → (q : Powerset) → id_in m old q ≡ Some id
      → after_event m (Step q unit) old old ≡ Some new

-- what holds if a step from a state fails
pub record FailsFrom (m : Machine) (q : Powerset) (unit : Option ℕ) (old new : Known) (e : StepError) : Type 0 where
  -- the transition is not cached
  pub unknown : is_cached m (Step q unit) old ≡ false
  -- only the count of determinizations changes
  pub unchanged : new ≡ counted old
  -- with a cache error the call gives up
  pub gives_up : IsCacheError e → made m (Step q unit) old ≡ None

-- what holds if a step from an ID on a unit fails
pub record StepFails (m : Machine) (id : ℕ) (unit : Option ℕ) (old new : Known) (e : StepError) : Type 0 where
  -- a step from dead or quit never fails
  pub low : id < fixed_from
  -- a step on a quit byte never fails
  pub clean : quits_on m unit ≡ false
  -- it is the step from the state that the ID names
  pub fails : (q : Powerset) → id_in m old q ≡ Some id → FailsFrom m q unit old new e

-- the effect of a call for a start state on what the cache knows, if it returns Ok
pub record IsStartRun (m : Machine) (mode : Anchored) (behind : Option ℕ) (old new : Known) : Type 0 where
  -- a search may start in this mode after this byte
  pub may : MayStart m mode behind
  -- it asks for the start state
  pub does : after_event m (Start mode behind) old old ≡ Some new

-- why a call for a start state fails, and the effect on what the cache knows
pub data StartFails (m : Machine) (mode : Anchored) (behind : Option ℕ) (old new : Known) (e : StartError) :
    Type 0 where
  -- the look-behind byte is a quit byte
  IsQuitBehind :
      (byte : ℕ) → quit_behind m behind ≡ Some byte → e ≡ start.Quit byte → new ≡ old
      → StartFails m mode behind old new e
  -- it is not a quit byte, and the anchored mode is not supported
  IsNotSupported :
      quit_behind m behind ≡ None → supports m mode ≡ false → e ≡ start.UnsupportedAnchored mode → new ≡ old
      → StartFails m mode behind old new e
  -- the start state is not cached, and the call gives up
  GivesUpOnStart :
      MayStart m mode behind → is_cached m (Start mode behind) old ≡ false → made m (Start mode behind) old ≡ None
      → (err : CacheError) → e ≡ start.Cache err → new ≡ counted old → StartFails m mode behind old new e
  -- it is not cached, and memory runs out
  RunsOutOnStart :
      MayStart m mode behind → is_cached m (Start mode behind) old ≡ false → e ≡ start.OutOfMemory
      → new ≡ counted old → StartFails m mode behind old new e

-- a search fails at its start state, and reports this error with the offset of the look-behind byte or of the start
pub record StartFailsAt (m : Machine) (mode : Anchored) (behind : Option ℕ) (behind_at start_at : ℕ)
    (old new : Known) (e : SearchError) : Type 0 where
  -- why the call for the start state fails
  pub error : StartError
  -- it fails with this error
  pub fails : StartFails m mode behind old new error
  -- the error is reported at this offset
  pub reported : e ≡ start_search_error error behind_at start_at
