-- Engines that give the same answers.
use Rattle.std.specs.Prelude.{ℕ, Bool, List, Option, ◌↔◌}
use Rattle.automata_base.specs.Answers.Answers.{ArePatternsFound, Half, IsAnswer, IsOverlapping}
use Rattle.automata_base.specs.Answers.OfPasses.{IsFarthestAnswer, IsNearestAnswer}
use Rattle.automata_base.specs.Answers.Spans.{AreSpans, IsMatch, IsSpan}
use Rattle.automata_base.specs.Haystacks.Input.{Input}
use Rattle.automata_base.specs.Haystacks.Matches.{Match}
use Rattle.automata_base.specs.declared.util.search.Direction.{Direction}
use Rattle.automata_base.specs.Haystacks.Tapes.{IsHaystack}
use Rattle.automata_base.specs.Nfas.Engines.{Engine, IsSkipping}
use Rattle.automata_base.specs.Paths.Selections.{Pair}

-- The two have the same answers to searches of every input, in either direction.
pub record SearchAlike (d e : Engine) : Type 0 where
  -- what the ordered paths answer
  pub answer :
      (way : Direction) (input : Input) (answer : Option Half) → IsHaystack input.haystack
      → IsAnswer way d input answer ↔ IsAnswer way e input answer
  -- whether there is a match
  pub truth : (input : Input) (truth : Bool) → IsHaystack input.haystack → IsMatch d input truth ↔ IsMatch e input truth
  -- the nearest end, which an earliest search finds
  pub nearest :
      (way : Direction) (input : Input) (answer : Option Half) → IsHaystack input.haystack
      → IsNearestAnswer way d input answer ↔ IsNearestAnswer way e input answer
  -- the farthest end
  pub farthest :
      (way : Direction) (input : Input) (answer : Option Half) → IsHaystack input.haystack
      → IsFarthestAnswer way d input answer ↔ IsFarthestAnswer way e input answer

-- The two have the same matches in every input: a single one, one after another, and all that overlap.
pub record MatchAlike (d e : Engine) : Type 0 where
  -- the match, with its start
  pub span :
      (input : Input) (answer : Option Match) → IsHaystack input.haystack
      → IsSpan d input answer ↔ IsSpan e input answer
  -- the matches of an iteration
  pub list : (input : Input) (ms : List Match) → IsHaystack input.haystack → AreSpans d input ms ↔ AreSpans e input ms
  -- the matches of an overlapping search, in order
  pub overlapping :
      (way : Direction) (input : Input) (found : List Pair) → IsHaystack input.haystack
      → IsOverlapping way d input found ↔ IsOverlapping way e input found
  -- the patterns that match
  pub patterns :
      (input : Input) (capacity : ℕ) (given found : List ℕ) → IsHaystack input.haystack
      → ArePatternsFound d input capacity given found ↔ ArePatternsFound e input capacity given found

-- The two find the same: their searches have the same answers and the same matches.
pub record AnswerAlike (d e : Engine) : Type 0 where
  -- searches have the same answers
  pub searches : SearchAlike d e
  -- inputs have the same matches
  pub matches : MatchAlike d e
  -- offsets inside a character are skipped by both, or by neither
  pub skipping : IsSkipping d ↔ IsSkipping e
