-- When a call of a walk reads units, and when a set is open.
use Rattle.std.specs.Prelude.{ℕ, ◌≡◌, ◌<◌, ◌≤◌, ◌-◌, List, [], length, Bool, false}
use Rattle.automata_base.specs.Answers.Answers.{HasPattern}
use Rattle.automata_base.specs.Haystacks.Input.{Input}
use Rattle.automata_base.specs.Lists.{In}
use Rattle.automata_base.specs.Haystacks.PatternSet.{members}
use Rattle.automata_base.specs.Powersets.Powerset.{Powerset}
use Rattle.automata_base.specs.Paths.Selections.{Pair}
use Rattle.automata_hybrid.specs.Walks.State.{At, Ended, Stage}

-- the next call of a walk reads units: it has not ended, has reported all patterns of its current state, and units are
-- left
pub record IsToRead (input : Input) (stage : Stage) (units reported : ℕ) : Type 0 where
  -- the span is not done
  pub undone : input.start ≤ input.end
  -- the walk has not ended
  pub on : stage ≡ Ended → ⊥
  -- all patterns of its current state are reported
  pub all_reported : (q : Powerset) → stage ≡ At q → length q.patterns ≤ reported
  -- at least one unit is left
  pub left : units ≤ input.end - input.start

-- why a set is still open once its walk has reported these pairs
pub data IsOpen (input : Input) (set : List Bool) (pairs : List Pair) : Type 0 where
  -- there are none
  NoPair : pairs ≡ [] → IsOpen input set pairs
  -- the input is not earliest, and some pattern below the set's capacity is neither in it nor among them
  LacksOne :
      input.earliest ≡ false → (p : ℕ) → p < length set → (In p (members set) → ⊥) → (HasPattern p pairs → ⊥)
      → IsOpen input set pairs
