-- The answers of searches by what their passes report, for every NFA.
use Rattle.std.specs.Prelude.{◌≡◌, true, false, Option}
use Rattle.automata_base.specs.Answers.Answers.{Answers, Half, IsAnswer, IsInput}
use Rattle.automata_base.specs.declared.util.search.MatchKind.{MatchKind}
use Rattle.automata_base.specs.declared.util.search.MatchKind.TheVariants.{All}
use Rattle.automata_base.specs.Nfas.Engines.{IsSkipping, engine_of}
use Rattle.automata_base.specs.Haystacks.Input.{Input}
use Rattle.automata_base.specs.Nfas.Nodes.{Automaton, nfa_of}
use Rattle.automata_base.specs.Paths.Paths.{KeepsCycles}
use Rattle.automata_base.specs.Paths.Selections.{Pair}
use Rattle.automata_base.specs.declared.util.search.Direction.{Direction}
use Rattle.automata_base.specs.Haystacks.Tapes.{tape_of}
use Rattle.automata_determinize.specs.Retraced.Passes.{reported_by}
use Rattle.automata_base.specs.Answers.OfPasses.{IsNearestAnswer, IsFarthestAnswer}

-- what the pass over the span of an input that is not done reports; the place is counted from where the search begins
abbrev pub reported_over : Direction → Automaton → MatchKind → Input → Option Pair
reported_over way a kind input =
    reported_by kind input.earliest a input.anchored (tape_of way input.haystack input.start input.end)

-- the pass over the span of an input reports this
abbrev pub ReportsOver : Direction → Automaton → MatchKind → Input → Option Pair → Type 0
ReportsOver way a kind input reported = reported ≡ reported_over way a kind input

-- the answer of a search: what the pass reports over the first span for which this is nothing or not split
abbrev pub IsReported : Direction → Automaton → MatchKind → Input → Option Half → Type 0
IsReported way a kind input answer = Answers (ReportsOver way a kind) (IsSkipping (engine_of a kind)) way input answer

-- if the NFA keeps its cycles, the answer that passes report is the answer of the ordered paths
abbrev pub ReportedIsRight : Automaton → Type 0
ReportedIsRight a =
    (way : Direction) (kind : MatchKind) (input : Input) (answer : Option Half)
    → KeepsCycles (nfa_of a) → IsInput input → IsReported way a kind input answer
    → IsAnswer way (engine_of a kind) input answer

-- passes report at most one answer
abbrev pub ReportedIsOne : Type 0
ReportedIsOne =
    (way : Direction) (a : Automaton) (kind : MatchKind) (input : Input) (first second : Option Half)
    → IsReported way a kind input first → IsReported way a kind input second → first ≡ second

-- for every NFA, the answer that passes report is the nearest end in an earliest search, and under `MatchKind::All` the
-- farthest end in any other one
abbrev pub ReportedEndsAreRight : Automaton → Type 0
ReportedEndsAreRight a =
    (way : Direction) (kind : MatchKind) (input : Input) (answer : Option Half)
    → IsInput input → IsReported way a kind input answer
    → (input.earliest ≡ true → IsNearestAnswer way (engine_of a kind) input answer)
    × (input.earliest ≡ false → kind ≡ All → IsFarthestAnswer way (engine_of a kind) input answer)
