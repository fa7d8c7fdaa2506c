-- When a trace is a trace of the units of a span.
use Rattle.std.specs.Prelude.{ℕ, suc, ◌≡◌}
use Rattle.automata_base.specs.Haystacks.Input.{Input}
use Rattle.automata_base.specs.Paths.Paths.{next}
use Rattle.automata_base.specs.declared.util.search.Direction.{Direction}
use Rattle.automata_hybrid.specs.Machines.FullDfas.{full_dfa}
use Rattle.automata_hybrid.specs.Machines.Machine.{Machine}
use Rattle.automata_hybrid.specs.Searches.Passes.{tape_in}
use Rattle.automata_hybrid.specs.Searches.Passes.{reported_along}
use Rattle.automata_hybrid.specs.Searches.Traces.{Trace}

-- a trace of the units of a span: it may begin at any state
pub record IsTrace (way : Direction) (m : Machine) (input : Input) (s : Trace) : Type 0 where
  -- each unit leads from a state to its successor
  pub steps :
      (k : ℕ)
      → s.state (suc k) ≡ (full_dfa m).step (s.state k) (next (tape_in way input) k)
  -- units report what the states after them report
  pub reports : (k : ℕ) → s.reported k ≡ reported_along input.earliest s.state k
