-- The nearest and the farthest end of an accepting path, as answers of a search.
use Rattle.std.specs.Prelude.{ℕ, ◌≡◌, Option, None, Some}
use Rattle.automata_base.specs.Answers.Answers.{Answers, Half}
use Rattle.automata_base.specs.Nfas.Engines.{Engine, IsSkipping, first_state}
use Rattle.automata_base.specs.Haystacks.Input.{Input}
use Rattle.automata_base.specs.Nfas.Nfa.{Nfa}
use Rattle.automata_base.specs.Paths.Paths.{Tape}
use Rattle.automata_base.specs.Paths.Selections.{Pair, IsFarthest, IsNearest}
use Rattle.automata_base.specs.Haystacks.Tapes.{Direction, tape_of}

-- what a rule for ends gives on a tape, from a first state; nothing if there is no first state
abbrev pub EndsFrom : (Rule : Nfa → Tape → ℕ → Option Pair → Type 0) → Engine → Tape → Option ℕ → Option Pair → Type 0
EndsFrom Rule d t None answer = answer ≡ None
EndsFrom Rule d t (Some q) answer = Rule d.nfa t q answer

-- what a rule for ends gives over the span of an input that is not done
abbrev pub EndsOver : (Rule : Nfa → Tape → ℕ → Option Pair → Type 0) → Direction → Engine → Input → Option Pair → Type 0
EndsOver Rule way d input answer =
    EndsFrom Rule d (tape_of way input.haystack input.start input.end) (first_state d input.anchored) answer

-- the answer of a search is the nearest end, over the first span for which there is none or it is not split
abbrev pub IsNearestAnswer : Direction → Engine → Input → Option Half → Type 0
IsNearestAnswer way d input answer = Answers (EndsOver IsNearest way d) (IsSkipping d) way input answer

-- the answer of a search is the farthest end, over the first span for which there is none or it is not split
abbrev pub IsFarthestAnswer : Direction → Engine → Input → Option Half → Type 0
IsFarthestAnswer way d input answer = Answers (EndsOver IsFarthest way d) (IsSkipping d) way input answer
