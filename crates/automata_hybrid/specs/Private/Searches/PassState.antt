-- Where a run is, which cached transitions led it there, and which ID comes next.
use Rattle.std.specs.Prelude.{ℕ, suc, ◌≡◌, ◌+◌, ◌-◌, ◌^◌, ◌<◌, ◌≤◌, false, Some}
use Rattle.automata_base.specs.ByteClasses.Classes.{is_quit}
use Rattle.automata_base.specs.Haystacks.Input.{Input}
use Rattle.automata_base.specs.Paths.Paths.{next}
use Rattle.automata_base.specs.declared.util.search.Direction.{Direction}
use Rattle.automata_base.specs.declared.util.search.MatchErrorKind.TheVariants.{GaveUp}
use Rattle.automata_config.specs.declared.error.StepError.{StepError}
use Rattle.automata_config.specs.declared.error.StepError.TheVariants as step
use Rattle.automata_config.specs.declared.error.SearchError.{SearchError}
use Rattle.automata_config.specs.declared.error.SearchError.TheVariants as search
use Rattle.automata_hybrid.specs.Machines.Machine.{Machine, unit_class}
use Rattle.automata_hybrid.specs.Cache.Table.{Rows, Names}
use Rattle.automata_hybrid.specs.Searches.Passes.{tape_in}
use Rattle.automata_hybrid.specs.Cache.Stores.{Stored}
use Rattle.automata_hybrid.specs.Searches.Traces.{Trace, pass_trace}
use Rattle.automata_hybrid.specs.Private.Searches.Traces.{IsTrace}
use Rattle.automata_hybrid.specs.Cache.Ids.{HasMatchTag, unknown_id}
use Rattle.automata_hybrid.specs.Private.Cache.Ids.{HasOnly, IsRunTag}
use Rattle.automata_hybrid.specs.Steps.Steps.{known_step}
use Rattle.automata_hybrid.specs.Private.Steps.Steps.{IsCellRead}
use Rattle.automata_hybrid.specs.Private.Cache.Stores.{IsKnownTransition}

-- the transition that a run along a trace takes on its unit at place `k` is cached
abbrev pub KnowsAlong : Trace → Direction → Machine → Stored → Input → ℕ → Type 0
KnowsAlong s way m c input k =
    (id : ℕ) × Names c.table id (s.state k) × IsKnownTransition c id (unit_class m (next (tape_in way input) k))

-- the error of a step, as a search reports it at an offset
abbrev pub step_error : StepError → (at : ℕ) → SearchError
step_error (step.Cache err) at = search.Match (GaveUp at)
step_error step.OutOfMemory at = search.OutOfMemory

-- the transition that a run along a trace takes on the unit at place `k` is cached, at a class that rows have
abbrev pub HasLearnedAlong : Trace → Direction → Machine → Stored → Input → ℕ → Type 0
HasLearnedAlong s way m c input k =
    KnowsAlong s way m c input k × (unit_class m (next (tape_in way input) k) < c.table.of.stride)

-- the transition that a pass takes on the unit at place `k` is cached, at a class that rows have
abbrev pub HasLearnedUnit : Direction → Machine → Stored → Input → ℕ → Type 0
HasLearnedUnit way m c input k = HasLearnedAlong (pass_trace way m input) way m c input k

-- the unit at place `k` is not a quit byte, and its cached transition leads to an ID whose only tag is this one
pub record IsTaken (s : Trace) (way : Direction) (m : Machine) (c : Stored) (input : Input) (tag k : ℕ) : Type 0 where
  -- the unit is not a quit byte
  pub clean : (byte : ℕ) → next (tape_in way input) k ≡ Some byte → is_quit m.quits byte ≡ false
  -- its transition is cached
  pub known : HasLearnedAlong s way m c input k
  -- it leads to an ID whose only tag is this one
  pub leads : (id : ℕ) × Names c.table id (s.state (suc k)) × HasOnly tag id

-- cached transitions led a run from its first `from` units to this ID after its first `to`, each of them to an ID whose
-- only tag is this one: if the tag is 0, none of them reported anything
pub record IsFollowedAlong (s : Trace) (way : Direction) (m : Machine) (c : Stored) (input : Input)
    (tag from to id : ℕ) : Type 0 where
  -- the run advanced, or stayed where it was
  pub more : from ≤ to
  -- the ID names the state that it reached
  pub named : Names c.table id (s.state to)
  -- the transition on each unit between is cached, and leads to an ID whose only tag is this one
  pub taken : (k : ℕ) → from ≤ k → k < to → IsTaken s way m c input tag k

-- cached transitions led a pass from its first `from` units to this ID after its first `to`, each to an ID whose only
-- tag is this one
abbrev pub IsFollowed : Direction → Machine → Stored → Input → (tag from to id : ℕ) → Type 0
IsFollowed way m c input tag from to id = IsFollowedAlong (pass_trace way m input) way m c input tag from to id

-- an ID names the state of a trace after `k` units
pub record IsOnTrace (s : Trace) (way : Direction) (m : Machine) (t : Rows) (input : Input) (k id : ℕ) : Type 0 where
  -- it is a trace of the units of the span
  pub trace : IsTrace way m input s
  -- the ID names the state after these units
  pub named : Names t id (s.state k)

-- a run along a trace may continue up to a place from the ID to which `at` units led it
pub record MayFollow (s : Trace) (way : Direction) (m : Machine) (t : Rows) (input : Input) (at end id : ℕ) : Type
    0 where
  -- the ID names the state after these units
  pub on : IsOnTrace s way m t input at id
  -- the span is not done
  pub undone : input.start ≤ input.end
  -- the units are bytes of the span
  pub within : at ≤ input.end - input.start
  -- the place is in the span
  pub upto : end ≤ input.end - input.start

-- an ID names the state of a trace after `k` units, and its only tag is this one: none, or the match tag
pub record IsTagAt (s : Trace) (way : Direction) (m : Machine) (t : Rows) (input : Input) (tag k id : ℕ) :
    Type 0 where
  -- the tag is none, or the match tag
  pub kind : IsRunTag tag
  -- it is the only tag of the ID
  pub only : HasOnly tag id
  -- it names the state of a trace after these units
  pub on : IsOnTrace s way m t input k id

-- cached transitions led a run to this ID, whose only tag is this one, as for the IDs before it
pub record IsRun (s : Trace) (way : Direction) (m : Machine) (c : Stored) (input : Input) (tag from to id : ℕ) :
    Type 0 where
  -- cached transitions led the run to this ID, each to an ID whose only tag is this one
  pub followed : IsFollowedAlong s way m c input tag from to id
  -- this is also the only tag of the last ID
  pub only : HasOnly tag id

-- this was read in the cell of the unit at place `k`, in the row of an ID
abbrev pub IsNextCell : Direction → Machine → Stored → Input → (k id cell : ℕ) → Type 0
IsNextCell way m c input k id cell = IsCellRead m c id (next (tape_in way input) k) cell

-- the cached transition on the byte at place `k` leads from one ID to another; a run follows it if that ID has no tag
-- or only the match tag
pub record IsNextId (s : Trace) (way : Direction) (m : Machine) (c : Stored) (input : Input) (k id to : ℕ) :
    Type 0 where
  -- the unit at place `k` is a byte of the span
  pub within : k < input.end - input.start
  -- the cached transition on it leads to this ID
  pub cached : to ≡ known_step m c id (next (tape_in way input) k)
  -- if this ID has no tag or only the match tag, the run follows the transition
  pub run : (tag : ℕ) → IsRunTag tag → HasOnly tag to → IsRun s way m c input tag k (k + 1) to

-- this is the next ID after another one: unless it is unknown, the transition on the byte at place `k` leads to it
abbrev pub IsPeekedAlong : Trace → Direction → Machine → Stored → Input → (k id peeked : ℕ) → Type 0
IsPeekedAlong s way m c input k id peeked = peeked < unknown_id → IsNextId s way m c input k id peeked

-- this is the next ID after another one in a pass
abbrev pub IsPeeked : Direction → Machine → Stored → Input → (k id peeked : ℕ) → Type 0
IsPeeked way m c input k id peeked = IsPeekedAlong (pass_trace way m input) way m c input k id peeked

-- the next ID of a run has only the match tag
pub record PeeksMatch (s : Trace) (way : Direction) (m : Machine) (c : Stored) (input : Input) (k id to : ℕ) :
    Type 0 where
  -- this is the next ID after the other one
  pub peeked : IsPeekedAlong s way m c input k id to
  -- its only tag is the match tag
  pub only : HasOnly (2 ^ 27) to

-- cached transitions led a run, over units of its span, to the ID of a state that has patterns
pub record IsMatchRun (s : Trace) (way : Direction) (m : Machine) (c : Stored) (input : Input) (from to id : ℕ) :
    Type 0 where
  -- the run has read at least one more unit
  pub further : from < to
  -- the units are bytes of the span
  pub within : to ≤ input.end - input.start
  -- cached transitions led the run there, each to an ID whose only tag is the match tag
  pub followed : IsFollowedAlong s way m c input (2 ^ 27) from to id
  -- the ID that it reached has the match tag
  pub reports : HasMatchTag id

-- cached transitions led a run from one place to another
pub record HasRun (s : Trace) (way : Direction) (m : Machine) (c : Stored) (input : Input) (from to : ℕ) : Type 0 where
  -- the run advanced, or stayed where it was
  pub more : from ≤ to
  -- the units are bytes of the span
  pub within : to ≤ input.end - input.start
  -- the transition on each unit between is cached
  pub known : (k : ℕ) → from ≤ k → k < to → HasLearnedAlong s way m c input k
