-- Searches whose start states and transitions are all cached.
use Rattle.std.specs.Prelude.{ℕ, suc, ◌≡◌, true}
use Rattle.automata_base.specs.Answers.Answers.{later}
use Rattle.automata_base.specs.Haystacks.Input.{Input}
use Rattle.automata_base.specs.declared.util.search.Direction.{Direction}
use Rattle.automata_hybrid.specs.Known.Events.{is_cached}
use Rattle.automata_hybrid.specs.Known.Growth.{ClearedNothing, IsGrown}
use Rattle.automata_hybrid.specs.Known.Known.{Known}
use Rattle.automata_hybrid.specs.Machines.Machine.{Machine}
use Rattle.automata_hybrid.specs.Searches.Passes.{HasReadNoQuit, Reads, tape_in}
use Rattle.automata_hybrid.specs.Searches.Progress.{TriesSpan, start_event, unit_event}
use Rattle.automata_hybrid.specs.Searches.Traces.{pass_trace}
use Rattle.automata_hybrid.specs.Steps.Starts.{MayStart}

-- the start state of a pass is cached
abbrev pub KnowsItsStart : Direction → Machine → Known → Input → Type 0
KnowsItsStart way m c input = is_cached m (start_event way input) c ≡ true

-- the transition that a pass takes on its unit at place `k` is cached
abbrev pub KnowsUnit : Direction → Machine → Known → Input → (k : ℕ) → Type 0
KnowsUnit way m c input k = is_cached m (unit_event (pass_trace way m input) way input k) c ≡ true

-- everything that a pass uses is cached: its start state, and the transition on each unit that it reads before a quit
-- byte
abbrev pub KnowsPass : Direction → Machine → Known → Input → Type 0
KnowsPass way m c input =
    MayStart m input.anchored (tape_in way input).before
    → KnowsItsStart way m c input
    × ((k : ℕ) → Reads way m input k → HasReadNoQuit way m input (suc k) → KnowsUnit way m c input k)

-- everything that a search uses is cached: what each of its passes uses
abbrev pub Knows : Direction → Machine → Known → Input → Type 0
Knows way m c input = (k : ℕ) → TriesSpan way m input k → KnowsPass way m c (later way k input)

-- until a clear, everything that a search uses stays cached
abbrev pub KnownStays : Machine → Type 0
KnownStays m =
    (way : Direction) (input : Input) (old new : Known) → IsGrown m old new → ClearedNothing old new
    → Knows way m old input → Knows way m new input
