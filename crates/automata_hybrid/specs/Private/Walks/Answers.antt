-- Where a walk arrives from its first units on, and how a call has advanced it.
use Rattle.std.specs.Prelude.{ℕ, suc, ◌≡◌, ◌<◌, ◌≤◌, false, length, Option, None, Some}
use Rattle.automata_base.specs.Answers.Answers.{offset_in}
use Rattle.automata_base.specs.Haystacks.Input.{Input}
use Rattle.automata_base.specs.Powersets.Powerset.{Powerset}
use Rattle.automata_base.specs.Haystacks.Tapes.{is_split}
use Rattle.automata_base.specs.declared.util.search.Direction.{Direction}
use Rattle.automata_hybrid.specs.Machines.Machine.{Machine}
use Rattle.automata_hybrid.specs.Searches.Passes.{HasReadNoQuit, Skips, state_in, tape_in}
use Rattle.automata_hybrid.specs.Cache.Table.{Names, Rows}
use Rattle.automata_hybrid.specs.Walks.State.{Ended, Walk}
use Rattle.automata_hybrid.specs.Walks.Answers.{IsSilent, WalkMeetsNoQuit, WalkReads}

-- from its first `from` units a walk advanced, without a quit byte, to a state that reports patterns at a place that is
-- not skipped, and the ID names this state
pub record Arrives (way : Direction) (m : Machine) (t : Rows) (input : Input) (from id units : ℕ) : Type 0 where
  -- the place of the last unit read
  pub place : ℕ
  -- the walk is after this unit
  pub one_after : units ≡ suc place
  -- it has read at least one more unit
  pub more : from ≤ place
  -- the unit is a byte of the span, or the one after it
  pub within : place ≤ length (tape_in way input).bytes
  -- the ID names the state after these units
  pub named : Names t id (state_in way m input units)
  -- none of these units is a quit byte
  pub clean : HasReadNoQuit way m input units
  -- the state has patterns
  pub reports : (q : Powerset) → Names t id q → 0 < length q.patterns
  -- the place is not skipped
  pub unskipped : Skips m → is_split input.haystack (offset_in way input place) ≡ false
  -- the units before the last one report nothing more
  pub silent : IsSilent way m input from place

-- from its first `from` units a walk advanced, without a quit byte, to its end after `units` units
pub record Finishes (way : Direction) (m : Machine) (input : Input) (from units : ℕ) : Type 0 where
  -- it has read at least as many units as before
  pub more : from ≤ units
  -- it meets no quit byte
  pub clean : WalkMeetsNoQuit way m input
  -- the units after the first `from` report nothing
  pub silent : IsSilent way m input from (suc (length (tape_in way input).bytes))
  -- it reads no unit after these
  pub stops : (j : ℕ) → units ≤ j → WalkReads way m input j → ⊥

-- a walk advanced to a state that reports patterns, if there is an ID, or to its end, if there is none
abbrev pub IsArrival : Direction → Machine → Rows → Input → (from : ℕ) → Option ℕ → (units : ℕ) → Type 0
IsArrival way m t input from None units = Finishes way m input from units
IsArrival way m t input from (Some id) units = Arrives way m t input from id units

-- how a call has advanced its walk
pub data CallGoesOn (old new : Walk) : Type 0 where
  -- it found no match
  FindsNone : new.found ≡ None → CallGoesOn old new
  -- the walk has read more units
  ReadsMore : (new.stage ≡ Ended → ⊥) → old.units < new.units → CallGoesOn old new
  -- it has read no more units, and has reported one more pattern
  ReportsOneMore :
      (new.stage ≡ Ended → ⊥) → new.units ≡ old.units → new.reported ≡ suc old.reported → CallGoesOn old new
