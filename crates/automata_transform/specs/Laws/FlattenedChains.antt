-- The statements that flattening chains of unions changes no answer.
use Rattle.std.specs.Prelude.{◌↔◌}
use Rattle.automata_base.specs.Answers.TruePairs.{KeepsUtf8}
use Rattle.automata_base.specs.Haystacks.Input.{Input}
use Rattle.automata_base.specs.Haystacks.Tapes.{IsHaystack}
use Rattle.automata_base.specs.Laws.Walks.{IsAccepted}
use Rattle.automata_base.specs.Nfas.Engines.{engine_of}
use Rattle.automata_base.specs.Nfas.Nodes.{Automaton}
use Rattle.automata_base.specs.Paths.Selections.{Pair}
use Rattle.automata_base.specs.declared.util.search.Direction.{Direction}
use Rattle.automata_base.specs.declared.util.search.MatchKind.{MatchKind}
use Rattle.automata_transform.specs.Answers.Alike.{AnswerAlike}
use Rattle.automata_transform.specs.Nfas.FlattenedNfas.{IsFlattenedNfa}

-- An NFA whose chains are flattened gives the same answers as before.
abbrev pub FlattenedAnswerAlike : Type 0
FlattenedAnswerAlike =
    (a b : Automaton) (kind : MatchKind) → IsFlattenedNfa a b → AnswerAlike (engine_of a kind) (engine_of b kind)

-- The accepting paths from its unanchored start end at the same offsets as before, by the same patterns.
abbrev pub FlattenedPairsAlike : Type 0
FlattenedPairsAlike =
    (way : Direction) (a b : Automaton) (input : Input) (pair : Pair) → IsFlattenedNfa a b → IsHaystack input.haystack
    → IsAccepted way a input a.start_unanchored pair ↔ IsAccepted way b input b.start_unanchored pair

-- It keeps the UTF-8 promise exactly if it did before.
abbrev pub FlattenedKeepUtf8 : Type 0
FlattenedKeepUtf8 =
    (a b : Automaton) (way : Direction) (kind : MatchKind) → IsFlattenedNfa a b
    → KeepsUtf8 way (engine_of a kind) ↔ KeepsUtf8 way (engine_of b kind)
