-- A run along any trace, and a pass: what the functions of a search maintain from unit to unit.
use Rattle.std.specs.Prelude.{ℕ, ◌≡◌, List, [], ◌∷◌, true, Option, Some, None}
use Rattle.automata_base.specs.Answers.Answers.{offset_in}
use Rattle.automata_base.specs.Haystacks.Input.{Input}
use Rattle.automata_base.specs.Haystacks.Matches.{HalfMatch}
use Rattle.automata_base.specs.Paths.Selections.{Pair}
use Rattle.automata_base.specs.declared.util.search.Direction.{Direction}
use Rattle.automata_hybrid.specs.Machines.Machine.{Machine}
use Rattle.automata_hybrid.specs.Cache.Table.{Rows, Names}
use Rattle.automata_hybrid.specs.Searches.Passes.{HasReadNoQuit, report_in}
use Rattle.automata_hybrid.specs.Searches.Traces.{Trace, pass_trace}

-- a pair of a pass as a half match: its place is an offset
abbrev pub half_of : Direction → Input → Option Pair → Option HalfMatch
half_of way input None = None
half_of way input (Some pair) = Some (record { pattern = pair.pattern; offset = offset_in way input pair.place })

-- the last match found, once these patterns are reported at an offset
abbrev pub half_at : List ℕ → ℕ → Option HalfMatch → Option HalfMatch
half_at [] at found = found
half_at (pattern ∷ patterns) at found = Some (record { pattern = pattern; offset = at })

-- what a pass over the span of an input finds
abbrev pub found_over : Direction → Machine → Input → Option HalfMatch
found_over way m input = half_of way input (report_in way m input)

-- a run along a trace has read `k` units, none of them a quit byte: the ID names its state there, and this was found
pub record IsAtAlong (s : Trace) (way : Direction) (m : Machine) (t : Rows) (input : Input) (k id : ℕ)
    (found : Option HalfMatch) : Type 0 where
  -- the ID names the state after these units
  pub named : Names t id (s.state k)
  -- what was found is what these units report
  pub reported : found ≡ half_of way input (s.reported k)
  -- an earliest search has found nothing yet
  pub nothing : input.earliest ≡ true → found ≡ None
  -- none of these units is a quit byte
  pub clean : HasReadNoQuit way m input k

-- a pass has read `k` units, none of them a quit byte: the ID names its state there, and this was found
abbrev pub IsAt : Direction → Machine → Rows → Input → (k id : ℕ) → Option HalfMatch → Type 0
IsAt way m t input k id found = IsAtAlong (pass_trace way m input) way m t input k id found
