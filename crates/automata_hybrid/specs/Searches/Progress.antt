-- What a pass asks for, which units it reads, and which spans a search tries.
use Rattle.std.specs.Prelude.{ℕ, ◌<◌, ◌≤◌, ◌+◌}
use Rattle.automata_base.specs.Answers.Answers.{Tries}
use Rattle.automata_base.specs.Haystacks.Input.{Input}
use Rattle.automata_base.specs.Paths.Paths.{next}
use Rattle.automata_base.specs.declared.util.search.Direction.{Direction}
use Rattle.automata_hybrid.specs.Steps.Events.{Event, Start, Step}
use Rattle.automata_hybrid.specs.Machines.Machine.{Machine}
use Rattle.automata_hybrid.specs.Searches.Passes.{Finds, Reads, Skips, tape_in}
use Rattle.automata_hybrid.specs.Searches.Traces.{Trace}

-- a pass asks for its start state
abbrev pub start_event : Direction → Input → Event
start_event way input = Start input.anchored (tape_in way input).before

-- a run along a trace takes the step on the unit at place `k`
abbrev pub unit_event : Trace → Direction → Input → (k : ℕ) → Event
unit_event s way input k = Step (s.state k) (next (tape_in way input) k)

-- a pass reads exactly its first `units` units: none if its start state is dead
abbrev pub ReadsUnits : Direction → Machine → Input → (units : ℕ) → Type 0
ReadsUnits way m input units =
    ((k : ℕ) → k < units → Reads way m input k) × (Reads way m input units → ⊥)

-- a search tries the span that begins `k` places later, and that span is not done
abbrev pub TriesSpan : Direction → Machine → Input → (k : ℕ) → Type 0
TriesSpan way m input k = Tries (Finds way m) (Skips m) way input k × (input.start + k ≤ input.end)

-- a search tries `passes` spans, none of which is done
abbrev pub TriesSpans : Direction → Machine → Input → (passes : ℕ) → Type 0
TriesSpans way m input passes = (k : ℕ) → k < passes → TriesSpan way m input k
