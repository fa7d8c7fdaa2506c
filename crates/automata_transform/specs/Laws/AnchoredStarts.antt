-- The statements that an NFA whose matches begin only at the start of a haystack answers the same without its lazy
-- loop.
use Rattle.std.specs.Prelude.{◌↔◌}
use Rattle.automata_base.specs.Answers.TruePairs.{KeepsUtf8}
use Rattle.automata_base.specs.Haystacks.Input.{Input}
use Rattle.automata_base.specs.Haystacks.Tapes.{IsHaystack}
use Rattle.automata_base.specs.Laws.Walks.{IsAccepted}
use Rattle.automata_base.specs.Nfas.Engines.{engine_of}
use Rattle.automata_base.specs.Nfas.Nodes.{Automaton}
use Rattle.automata_base.specs.Paths.Selections.{Pair}
use Rattle.automata_base.specs.declared.util.search.Direction.{Direction}
use Rattle.automata_base.specs.declared.util.search.MatchKind.{MatchKind}
use Rattle.automata_transform.specs.Answers.Alike.{AnswerAlike}
use Rattle.automata_transform.specs.Nfas.AnchoredNfas.{IsAnchoredNfa}

-- An NFA gives the same answers without its lazy loop, if that is of no use.
abbrev pub AnchoredAnswerAlike : Type 0
AnchoredAnswerAlike =
    (a b : Automaton) (kind : MatchKind) → IsAnchoredNfa a b → AnswerAlike (engine_of a kind) (engine_of b kind)

-- The accepting paths from its unanchored start end at the same offsets as before, by the same patterns.
abbrev pub AnchoredPairsAlike : Type 0
AnchoredPairsAlike =
    (way : Direction) (a b : Automaton) (input : Input) (pair : Pair) → IsAnchoredNfa a b → IsHaystack input.haystack
    → IsAccepted way a input a.start_unanchored pair ↔ IsAccepted way b input b.start_unanchored pair

-- It keeps the UTF-8 promise exactly if it did before.
abbrev pub AnchoredKeepUtf8 : Type 0
AnchoredKeepUtf8 =
    (a b : Automaton) (way : Direction) (kind : MatchKind) → IsAnchoredNfa a b
    → KeepsUtf8 way (engine_of a kind) ↔ KeepsUtf8 way (engine_of b kind)
