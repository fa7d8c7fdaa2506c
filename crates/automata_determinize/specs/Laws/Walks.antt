-- What the pass of an overlapping walk reports, for every NFA, and the statements that the ordered paths report the
-- same.
use Rattle.std.specs.Prelude.{ℕ, ◌≡◌, ◌≤◌, ◌⊎◌, ◌↔◌, suc, List, [], ◌∷◌, length, Some}
use Rattle.automata_base.specs.Answers.Answers.{IsInput, IsOverlapping, Walks}
use Rattle.automata_base.specs.declared.util.search.MatchKind.{MatchKind}
use Rattle.automata_base.specs.declared.util.search.MatchKind.TheVariants.{All}
use Rattle.automata_base.specs.Nfas.Engines.{IsSkipping, engine_of}
use Rattle.automata_base.specs.Haystacks.Input.{Input}
use Rattle.automata_base.specs.Nfas.Nodes.{Automaton, nfa_of}
use Rattle.automata_base.specs.Paths.Paths.{KeepsCycles}
use Rattle.automata_base.specs.Paths.Selections.{Pair}
use Rattle.automata_base.specs.Paths.Starts.{mode_start}
use Rattle.automata_base.specs.declared.util.search.Direction.{Direction}
use Rattle.automata_base.specs.Haystacks.Tapes.{tape_of}
use Rattle.automata_determinize.specs.Retraced.Passes.{pairs_reported}
use Rattle.automata_base.specs.Laws.Walks.{IsAccepted}

-- what the pass over the span of an input that is not done reports; places are counted from where the search begins
abbrev pub SpanReports : Direction → Automaton → MatchKind → Input → List Pair → Type 0
SpanReports way a kind input pairs =
    pairs ≡ pairs_reported a kind input.anchored (tape_of way input.haystack input.start input.end)
    (suc (length (tape_of way input.haystack input.start input.end).bytes))

-- the whole list of a walk: what its pass reports, by offsets, without the split places if they are skipped
abbrev pub AreReported : Direction → Automaton → MatchKind → Input → List Pair → Type 0
AreReported way a kind input found = Walks (SpanReports way a kind) (IsSkipping (engine_of a kind)) way input found

-- each walk has such a list
abbrev pub WalksAreReported : Automaton → Type 0
WalksAreReported a =
    (way : Direction) (kind : MatchKind) (input : Input) → (found : List Pair) × AreReported way a kind input found

-- a walk has at most one such list
abbrev pub WalksAreOne : Type 0
WalksAreOne =
    (way : Direction) (a : Automaton) (kind : MatchKind) (input : Input) (first second : List Pair)
    → AreReported way a kind input first → AreReported way a kind input second → first ≡ second

-- if the NFA keeps its cycles, the list of a walk is the list of the ordered paths
abbrev pub WalkIsRight : Automaton → Type 0
WalkIsRight a =
    (way : Direction) (kind : MatchKind) (input : Input) (found : List Pair)
    → KeepsCycles (nfa_of a) → IsInput input → AreReported way a kind input found
    → IsOverlapping way (engine_of a kind) input found

-- if the NFA keeps its cycles, each list of the ordered paths is the list of a walk
abbrev pub OverlappingIsReported : Automaton → Type 0
OverlappingIsReported a =
    (way : Direction) (kind : MatchKind) (input : Input) (found : List Pair)
    → KeepsCycles (nfa_of a) → IsInput input → IsOverlapping way (engine_of a kind) input found
    → AreReported way a kind input found

-- the pair is in the list
abbrev pub InPairs : Pair → List Pair → Type 0
InPairs pair [] = ⊥
InPairs pair (x ∷ xs) = (pair ≡ x) ⊎ InPairs pair xs

-- for every NFA a walk under `MatchKind::All` reports the pairs of all accepting paths
abbrev pub AllPairsAreReported : Automaton → Type 0
AllPairsAreReported a =
    (way : Direction) (input : Input) (found : List Pair) (start : ℕ)
    → IsInput input → input.start ≤ input.end → mode_start a input.anchored ≡ Some start
    → AreReported way a All input found
    → (pair : Pair) → InPairs pair found ↔ IsAccepted way a input start pair
