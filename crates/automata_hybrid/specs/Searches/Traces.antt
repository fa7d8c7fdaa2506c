-- The powerset states that units lead through, one after another, from any state. The loops that follow cached
-- transitions state by them what they do: a pass begins at its start state, and a run over a piece of a haystack begins
-- at the state that a search has reached.
use Rattle.std.specs.Prelude.{ℕ, Option}
use Rattle.automata_base.specs.Haystacks.Input.{Input}
use Rattle.automata_base.specs.Paths.Selections.{Pair}
use Rattle.automata_base.specs.Powersets.Powerset.{Powerset}
use Rattle.automata_base.specs.declared.util.search.Direction.{Direction}
use Rattle.automata_hybrid.specs.Machines.Machine.{Machine}
use Rattle.automata_hybrid.specs.Searches.Passes.{reported_in, state_in}

-- where units lead from a powerset state, and what they report on the way
pub record Trace : Type 0 where
  -- the state after the first `k` units
  pub state : ℕ → Powerset
  -- what these units report
  pub reported : ℕ → Option Pair

-- the trace of a pass, which begins at its start state
abbrev pub pass_trace : Direction → Machine → Input → Trace
pass_trace way m input = record { state = λ k. state_in way m input k; reported = λ k. reported_in way m input k }
