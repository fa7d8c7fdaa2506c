-- The effect of the passes of a search on what its cache knows: their events, unit by unit, up to one that fails.
use Rattle.std.specs.Prelude.{ℕ, zero, suc, ◌≡◌, ◌+◌, ◌-◌, true, false, Option, None, Some, MatchOption, option_map}
use Rattle.std.specs.Prelude.{option_and_then}
use Rattle.automata_base.specs.Answers.Answers.{later, offset_in}
use Rattle.automata_base.specs.Haystacks.Input.{Input}
use Rattle.automata_base.specs.Paths.Paths.{next}
use Rattle.automata_base.specs.Powersets.Powerset.{Powerset}
use Rattle.automata_base.specs.declared.util.search.Direction.{Direction}
use Rattle.automata_base.specs.declared.util.search.MatchErrorKind.TheVariants.{Quit as QuitAt, GaveUp}
use Rattle.automata_base.specs.declared.util.search.MatchErrorKind.TheVariants.{UnsupportedAnchored as UnsupportedMode}
use Rattle.automata_config.specs.declared.error.SearchError.{SearchError}
use Rattle.automata_config.specs.declared.error.SearchError.TheVariants as search
use Rattle.automata_hybrid.specs.Steps.Events.{Event, Step}
use Rattle.automata_hybrid.specs.Known.Events.{after_event, is_cached, made}
use Rattle.automata_hybrid.specs.Known.Known.{Known, begun, counted, ended, moved}
use Rattle.automata_hybrid.specs.Machines.Machine.{Machine, quits_on}
use Rattle.automata_hybrid.specs.Machines.StartSlots.{supports}
use Rattle.automata_hybrid.specs.Searches.Passes.{HasReadNoQuit, Reads, behind_offset, given_up_offset, tape_in}
use Rattle.automata_hybrid.specs.Searches.Passes.{state_in, unit_offset}
use Rattle.automata_hybrid.specs.Searches.Progress.{ReadsUnits, TriesSpan, TriesSpans, start_event, unit_event}
use Rattle.automata_hybrid.specs.Searches.Traces.{Trace, pass_trace}
use Rattle.automata_hybrid.specs.Steps.Starts.{MayStart, quit_behind}

-- what is known after a run along a trace reads the unit at place `k`; the progress moves there only if the step is not
-- cached
abbrev pub after_unit : Trace → Direction → Machine → Input → (k : ℕ) → Known → Option Known
after_unit s way m input k c = after_event m (unit_event s way input k) (moved (given_up_offset way input k) c) c

-- what is known after a run along a trace reads `units` units from a place on, one after another
unfoldable pub after_many : Trace → Direction → Machine → Input → (from units : ℕ) → Known → Option Known
after_many s way m input from zero c = Some c
after_many s way m input from (suc units) c =
    option_and_then (after_unit s way m input (from + units)) (after_many s way m input from units c)

-- what is known once a pass has its start state and has begun
abbrev pub after_start : Direction → Machine → Input → Known → Option Known
after_start way m input c =
    option_map (begun (given_up_offset way input 0)) (after_event m (start_event way input) c c)

-- a pass that has begun ends at the last of the units that it reads
pub record UnitsEnd (way : Direction) (m : Machine) (input : Input) (begun new : Known) : Type 0 where
  -- how many units it reads
  pub units : ℕ
  -- it reads these, and no more
  pub reads : ReadsUnits way m input units
  -- none of them is a quit byte
  pub clean : HasReadNoQuit way m input units
  -- what is known after them, once the search has ended
  pub run :
      option_map (ended (given_up_offset way input (units - 1)))
      (after_many (pass_trace way m input) way m input 0 units begun)
      ≡ Some new

-- a pass has ended
pub record PassEnds (way : Direction) (m : Machine) (input : Input) (old new : Known) : Type 0 where
  -- it may start
  pub may : MayStart m input.anchored (tape_in way input).before
  -- what the cache knows once it has begun
  pub begun : Known
  -- this is the effect of its start state
  pub starts : after_start way m input old ≡ Some begun
  -- it has ended
  pub ends : UnitsEnd way m input begun new

-- why an event fails at an offset
pub data FailsFor (m : Machine) (e : Event) (at : ℕ) (c : Known) (error : SearchError) : Type 0 where
  -- it gives up
  GivesUp : made m e c ≡ None → error ≡ search.Match (GaveUp at) → FailsFor m e at c error
  -- memory runs out
  LacksMemory : error ≡ search.OutOfMemory → FailsFor m e at c error

-- an event fails at an offset
pub record EventFails (m : Machine) (e : Event) (at : ℕ) (old new : Known) (error : SearchError) : Type 0 where
  -- what it asks for is not cached
  pub unknown : is_cached m e old ≡ false
  -- only the count of determinizations changes
  pub unchanged : new ≡ counted old
  -- it gives up, or memory runs out
  pub why : FailsFor m e at old error

-- how reading a unit from a state fails, once the search has reached the offset `come`: a quit byte is reported at
-- `quit_at`, and the "gave up" error at `given_up_at`
pub data ReadFails (m : Machine) (q : Powerset) (unit : Option ℕ) (quit_at given_up_at come : ℕ) (old new : Known)
    (error : SearchError) : Type 0 where
  -- the unit is a quit byte, and the search has ended there
  MeetsQuit :
      (byte : ℕ) → unit ≡ Some byte → quits_on m (Some byte) ≡ true → error ≡ search.Match (QuitAt byte quit_at)
      → new ≡ ended come old → ReadFails m q unit quit_at given_up_at come old new error
  -- the step on it fails
  CannotStep :
      quits_on m unit ≡ false → EventFails m (Step q unit) given_up_at (moved come old) new error
      → ReadFails m q unit quit_at given_up_at come old new error

-- how a pass fails at the unit at place `k`, which it has reached
abbrev pub UnitFails : Direction → Machine → Input → (k : ℕ) → (old new : Known) → SearchError → Type 0
UnitFails way m input k old new error =
    ReadFails m (state_in way m input k) (next (tape_in way input) k) (unit_offset way input k)
    (given_up_offset way input k) (given_up_offset way input k) old new error

-- a pass that has begun fails at a unit
pub record FailsAtUnit (way : Direction) (m : Machine) (input : Input) (begun new : Known) (error : SearchError) :
    Type 0 where
  -- the place of the unit
  pub place : ℕ
  -- it reads the unit
  pub reads : Reads way m input place
  -- none before it is a quit byte
  pub clean : HasReadNoQuit way m input place
  -- what the cache knows once the pass has reached it
  pub mid : Known
  -- this is the effect of the units before it
  pub run : after_many (pass_trace way m input) way m input 0 place begun ≡ Some mid
  -- it fails there
  pub fails : UnitFails way m input place mid new error

-- a pass has failed
pub data PassFails (way : Direction) (m : Machine) (input : Input) (old new : Known) (error : SearchError) :
    Type 0 where
  -- the byte before its first unit is a quit byte
  QuitsBehind :
      (byte : ℕ) → quit_behind m (tape_in way input).before ≡ Some byte
      → error ≡ search.Match (QuitAt byte (behind_offset way input)) → new ≡ old → PassFails way m input old new error
  -- its anchored mode is not supported
  LacksMode :
      quit_behind m (tape_in way input).before ≡ None → supports m input.anchored ≡ false
      → error ≡ search.Match (UnsupportedMode input.anchored) → new ≡ old → PassFails way m input old new error
  -- its start state fails
  CannotStart :
      MayStart m input.anchored (tape_in way input).before
      → EventFails m (start_event way input) (offset_in way input 0) old new error → PassFails way m input old new error
  -- it has its start state, and fails at a unit
  FailsLater :
      MayStart m input.anchored (tape_in way input).before → (begun : Known)
      → after_start way m input old ≡ Some begun → FailsAtUnit way m input begun new error
      → PassFails way m input old new error

-- `passes` passes have ended, one after another, each over the next span
abbrev pub PassesEnd : Direction → Machine → Input → (passes : ℕ) → (old new : Known) → Type 0
PassesEnd way m input zero old new = new ≡ old
PassesEnd way m input (suc passes) old new =
    (mid : Known) × PassesEnd way m input passes old mid × PassEnds way m (later way passes input) mid new

-- the passes over the first `passes` spans that a search tries have ended
pub record HaveTried (way : Direction) (m : Machine) (input : Input) (passes : ℕ) (old new : Known) : Type 0 where
  -- it tries these spans
  pub tried : TriesSpans way m input passes
  -- the passes over them have ended
  pub ends : PassesEnd way m input passes old new

-- a search that answers has ended the passes over all the spans that it tries
pub record SearchEnds (way : Direction) (m : Machine) (input : Input) (old new : Known) : Type 0 where
  -- how many spans it tries
  pub passes : ℕ
  -- it tries these
  pub tried : TriesSpans way m input passes
  -- and no more
  pub last : TriesSpan way m input passes → ⊥
  -- the passes over them have ended
  pub ends : PassesEnd way m input passes old new

-- a search that fails has ended some passes, and the next one failed
pub record SearchFails (way : Direction) (m : Machine) (input : Input) (old new : Known) (error : SearchError) :
    Type 0 where
  -- how many passes have ended
  pub passes : ℕ
  -- it tries the spans of these and of the next one
  pub tried : TriesSpans way m input (suc passes)
  -- what the cache knows after them
  pub mid : Known
  -- they have ended
  pub ends : PassesEnd way m input passes old mid
  -- the next one failed
  pub fails : PassFails way m (later way passes input) mid new error

-- the effect of a search on what its cache knows, by the error that it returns, if any
abbrev pub IsSearchRun : Direction → Machine → Input → (old new : Known) → Option SearchError → Type 0
IsSearchRun way m input old new error =
    MatchOption error (SearchEnds way m input old new) (SearchFails way m input old new)
