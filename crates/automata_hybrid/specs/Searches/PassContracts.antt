-- What a pass answers, and where it is after its first units.
use Rattle.std.specs.Prelude.{ℕ, ◌≡◌, ◌≤◌, true, Option}
use Rattle.automata_base.specs.Haystacks.Input.{Input}
use Rattle.automata_base.specs.Haystacks.Matches.{HalfMatch}
use Rattle.automata_base.specs.declared.util.search.Direction.{Direction}
use Rattle.automata_hybrid.specs.Machines.Machine.{Machine}
use Rattle.automata_hybrid.specs.Searches.PassState.{IsAt, found_over}
use Rattle.automata_hybrid.specs.Searches.Passes.{MeetsNoQuit, tape_in}
use Rattle.automata_hybrid.specs.Machines.StartSlots.{supports}
use Rattle.automata_hybrid.specs.Steps.Starts.{MayStart}
use Rattle.automata_hybrid.specs.Cache.Table.{Rows}

-- what a pass over the span of an input answers
pub record IsPassAnswer (way : Direction) (m : Machine) (input : Input) (half : Option HalfMatch) : Type 0 where
  -- it is what the pass finds
  pub found : half ≡ found_over way m input
  -- the pass met no quit byte
  pub clean : MeetsNoQuit way m input
  -- the anchored mode is supported
  pub supported : supports m input.anchored ≡ true

-- a pass over the span of an input has read its first `k` units
pub record IsUnderway (way : Direction) (m : Machine) (t : Rows) (input : Input) (k id : ℕ)
    (found : Option HalfMatch) : Type 0 where
  -- the span is not done
  pub undone : input.start ≤ input.end
  -- the search may start
  pub may : MayStart m input.anchored (tape_in way input).before
  -- the ID names the state after those units, and what they report was found
  pub at : IsAt way m t input k id found
