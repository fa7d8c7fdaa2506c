-- The statements that merging unions changes no answer.
use Rattle.std.specs.Prelude.{ℕ, ◌<◌, ◌↔◌, List, length}
use Rattle.automata_transform.specs.Answers.Alike.{AnswerAlike}
use Rattle.automata_base.specs.Answers.TruePairs.{IsTruePair, KeepsUtf8}
use Rattle.automata_base.specs.Haystacks.Input.{Input}
use Rattle.automata_base.specs.declared.util.search.Direction.{Direction}
use Rattle.automata_base.specs.Haystacks.Tapes.{IsHaystack}
use Rattle.automata_base.specs.Laws.Walks.{IsAccepted}
use Rattle.automata_base.specs.Nfas.Accepted.{IsChecked}
use Rattle.automata_base.specs.Nfas.Engines.{Engine, engine_of}
use Rattle.automata_transform.specs.Nfas.MergedNfas.{IsMergedNfa}
use Rattle.automata_transform.specs.Nfas.Mirrors.{BeginsAlike}
use Rattle.automata_base.specs.Nfas.Nodes.{Automaton, nfa_of}
use Rattle.automata_base.specs.Nfas.Utf8.{ReadsUtf8}
use Rattle.automata_base.specs.Paths.Paths.{IsLookAcyclic, Tape}
use Rattle.automata_base.specs.Paths.Selections.{Accepts, Pair}
use Rattle.automata_base.specs.declared.util.search.MatchKind.TheVariants.{All}
use Rattle.automata_base.specs.declared.util.search.MatchKind.{MatchKind}

-- An NFA whose unions are merged gives the same answers as before.
abbrev pub MergedAnswerAlike : Type 0
MergedAnswerAlike =
    (a b : Automaton) (kind : MatchKind) → IsChecked a → IsMergedNfa a b
    → AnswerAlike (engine_of a kind) (engine_of b kind)

-- From each state of an NFA whose unions are merged, paths accept the same as before, by the same patterns.
abbrev pub MergedAcceptAlike : Type 0
MergedAcceptAlike =
    (a b : Automaton) (t : Tape) (start i pattern : ℕ)
    → IsChecked a → IsMergedNfa a b → IsHaystack t.bytes → start < length (nfa_of a).nodes
    → ((path : List ℕ) × Accepts (nfa_of a) t start i pattern path)
    ↔ ((path : List ℕ) × Accepts (nfa_of b) t start i pattern path)

-- From each start, the accepting paths of an NFA whose unions are merged end at the same offsets as before, by the same
-- patterns.
abbrev pub MergedPairsAlike : Type 0
MergedPairsAlike =
    (way : Direction) (a b : Automaton) (input : Input) (start : ℕ) (pair : Pair)
    → IsChecked a → IsMergedNfa a b → IsHaystack input.haystack → start < length (nfa_of a).nodes
    → IsAccepted way a input start pair ↔ IsAccepted way b input start pair

-- If no cycle of epsilon edges passes a look, none does after unions are merged.
abbrev pub MergedStayAcyclic : Type 0
MergedStayAcyclic =
    (a b : Automaton) → IsChecked a → IsMergedNfa a b → IsLookAcyclic (nfa_of a) → IsLookAcyclic (nfa_of b)

-- An NFA whose unions are merged keeps the UTF-8 promise exactly if it did before.
abbrev pub MergedKeepUtf8 : Type 0
MergedKeepUtf8 =
    (a b : Automaton) (way : Direction) (kind : MatchKind) → IsChecked a → IsMergedNfa a b
    → KeepsUtf8 way (engine_of a kind) ↔ KeepsUtf8 way (engine_of b kind)

-- An NFA whose unions are merged reads only UTF-8, with every look taken as true, exactly if it did before.
abbrev pub MergedReadUtf8 : Type 0
MergedReadUtf8 =
    (a b : Automaton) (way : Direction) → IsChecked a → IsMergedNfa a b → ReadsUtf8 way a ↔ ReadsUtf8 way b

-- In an NFA whose unions are merged, the empty match begins alike at the anchored start and at the starts of the
-- patterns exactly if it did before.
abbrev pub MergedBeginAlike : Type 0
MergedBeginAlike = (a b : Automaton) → IsChecked a → IsMergedNfa a b → BeginsAlike a ↔ BeginsAlike b

-- A true pair stays a true pair when the unions of its reverse NFA are merged.
abbrev pub MergedStayPaired : Type 0
MergedStayPaired =
    (f : Engine) (a b : Automaton) → IsChecked a → IsMergedNfa a b
    → IsTruePair f (engine_of a All) → IsTruePair f (engine_of b All)
