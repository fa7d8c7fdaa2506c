-- Whose patterns are reported, and where answers lie, for every NFA.
use Rattle.std.specs.Prelude.{ℕ, ◌<◌, ◌≤◌, length, Option, Some, List}
use Rattle.automata_base.specs.Answers.Answers.{Half}
use Rattle.automata_base.specs.declared.util.search.MatchKind.{MatchKind}
use Rattle.automata_base.specs.declared.util.search.Anchored.{Anchored}
use Rattle.automata_base.specs.Haystacks.Input.{Input}
use Rattle.automata_base.specs.Lists.{In}
use Rattle.automata_base.specs.Nfas.Nodes.{Automaton}
use Rattle.automata_base.specs.Powersets.Powerset.{Powerset}
use Rattle.automata_base.specs.Paths.Selections.{Pair}
use Rattle.automata_determinize.specs.Retraced.Steps.{start_state_of, successor}
use Rattle.automata_base.specs.declared.util.search.Direction.{Direction}
use Rattle.automata_determinize.specs.Answers.OfPasses.{IsReported}
use Rattle.automata_determinize.specs.Laws.Walks.{AreReported, InPairs}

-- a pattern of the NFA
abbrev pub IsPatternOf : Automaton → ℕ → Type 0
IsPatternOf a pattern = pattern < length a.start_pattern

-- the patterns of a powerset state are the NFA's
abbrev pub ReportsOwn : Automaton → Powerset → Type 0
ReportsOwn a q = (pattern : ℕ) → In pattern q.patterns → IsPatternOf a pattern

-- the patterns of each start state, and of each state that a step leads to, are the NFA's
abbrev pub StatesReportOwn : Automaton → Type 0
StatesReportOwn a =
    ((mode : Anchored) (prev : Option ℕ) → ReportsOwn a (start_state_of a mode prev))
    × ((kind : MatchKind) (q : Powerset) (unit : Option ℕ) → ReportsOwn a (successor a kind q unit))

-- an offset in the span of an input
abbrev pub IsInSpan : Input → ℕ → Type 0
IsInSpan input offset = (input.start ≤ offset) × (offset ≤ input.end)

-- the answer that passes report lies in the span, not before the start of the span that gave it, and its pattern is the
-- NFA's
abbrev pub ReportedLiesWithin : Automaton → Type 0
ReportedLiesWithin a =
    (way : Direction) (kind : MatchKind) (input : Input) (half : Half)
    → input.end ≤ length input.haystack → IsReported way a kind input (Some half)
    → IsPatternOf a half.pattern × IsInSpan input half.offset × (input.start ≤ half.base) × (half.base ≤ half.offset)

-- each pair of a walk lies in the span, and its pattern is the NFA's
abbrev pub WalkLiesWithin : Automaton → Type 0
WalkLiesWithin a =
    (way : Direction) (kind : MatchKind) (input : Input) (found : List Pair) (pair : Pair)
    → input.end ≤ length input.haystack → AreReported way a kind input found → InPairs pair found
    → IsPatternOf a pair.pattern × IsInSpan input pair.place
