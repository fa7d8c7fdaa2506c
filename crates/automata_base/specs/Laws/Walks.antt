-- The pairs of accepting paths.
use Rattle.std.specs.Prelude.{ℕ, ◌≡◌, ◌≤◌, false, List, length}
use Rattle.automata_base.specs.Answers.Answers.{offset_in}
use Rattle.automata_base.specs.Powersets.Cuts.{All}
use Rattle.automata_base.specs.Nfas.Engines.{IsSkipping, engine_of}
use Rattle.automata_base.specs.Haystacks.Input.{Input}
use Rattle.automata_base.specs.Nfas.Nodes.{Automaton, nfa_of}
use Rattle.automata_base.specs.Paths.Selections.{Accepts, Pair}
use Rattle.automata_base.specs.Haystacks.Tapes.{Direction, is_split, tape_of}

-- some path of this pattern from the start ends at the place of this offset, which is not skipped
pub record IsAccepted (way : Direction) (a : Automaton) (input : Input) (start : ℕ) (pair : Pair) : Type 0 where
  -- the place where the path ends
  pub place : ℕ
  -- the path, by the numbers of its edges
  pub path : List ℕ
  -- the place is in the span
  pub inside : place ≤ length (tape_of way input.haystack input.start input.end).bytes
  -- the path ends there in a match of the pattern
  pub accepted : Accepts (nfa_of a) (tape_of way input.haystack input.start input.end) start place pair.pattern path
  -- the offset is the one of the place
  pub offset : pair.place ≡ offset_in way input place
  -- it is not split, if split places are skipped
  pub whole : IsSkipping (engine_of a All) → is_split input.haystack pair.place ≡ false
