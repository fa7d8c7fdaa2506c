-- The statements that the reverse search finds where the chosen path began, and that answers are unique.
use Rattle.std.specs.Prelude.{ℕ, suc, ◌≡◌, ◌≤◌, ◌+◌, ◌-◌, Bool, false, List, length, ◌⊎◌, Option, None, is_some}
use Rattle.automata_base.specs.declared.util.search.Direction.{Direction}
use Rattle.automata_base.specs.declared.util.search.Direction.TheVariants.{Forward}
use Rattle.automata_base.specs.Haystacks.Tapes.{forward_tape, reverse_tape, MeetsNone}
use Rattle.automata_base.specs.Nfas.Engines.{Engine, IsSkipping}
use Rattle.automata_base.specs.Answers.Answers.{Half, IsAnswer, IsInput, IsSound}
use Rattle.automata_base.specs.Haystacks.Input.{Input}
use Rattle.automata_base.specs.Answers.TruePairs.{IsTruePair, KeepsUtf8}
use Rattle.automata_base.specs.Answers.Spans.{IsSpan, IsMatch, Outcome, Found, IsTrySearch, IsFarSearch, FindsSpan}
use Rattle.automata_base.specs.Answers.Spans.{AreSpans, AreFound, Rise}
use Rattle.automata_base.specs.Haystacks.Matches.{Match}

-- Over a true pair with the UTF-8 promise, a search reports the match of the path that the forward search chose, and
-- never that the two are not a pair.
abbrev pub ReportSpans : (Reports : Engine → Engine → Input → Outcome → Type 0) → Type 0
ReportSpans Reports =
    (f r : Engine) (input : Input) (outcome : Outcome)
    → IsTruePair f r → KeepsUtf8 Forward f → IsInput input → Reports f r input outcome → FindsSpan f input outcome

-- Over a true pair, a search reports the right match if it answers by the ordered paths in both directions, and also if
-- its reverse search finds only the farthest place, as a pass of any reverse NFA does.
pub record StartsAreRight : Type 0 where
  -- it does if the reverse search answers by the ordered paths
  pub paths : ReportSpans IsTrySearch
  -- it does if the reverse search finds only the farthest place
  pub farthest : ReportSpans IsFarSearch

-- If both engines are sound, the search over them finds the match of the paths, or that there is none.
abbrev pub SpansAreFound : Type 0
SpansAreFound =
    (f r : Engine) (input : Input)
    → IsTruePair f r → KeepsUtf8 Forward f → IsSound f → IsSound r → IsInput input
    → (answer : Option Match) × IsTrySearch f r input (Found answer) × IsSpan f input answer

-- Each input has at most one match by paths.
abbrev pub SpansAreOne : Type 0
SpansAreOne = (d : Engine) (input : Input) (a b : Option Match) → IsSpan d input a → IsSpan d input b → a ≡ b

-- A plain search has at most one answer.
abbrev pub AnswersAreOne : Type 0
AnswersAreOne =
    (way : Direction) (d : Engine) (input : Input) (a b : Option Half) → IsAnswer way d input a → IsAnswer way d input b
    → a ≡ b

-- An iteration has at most one list of matches.
abbrev pub IterationsAreOne : Type 0
IterationsAreOne =
    (d : Engine) (input : Input) (ms ms' : List Match) → AreSpans d input ms → AreSpans d input ms' → ms ≡ ms'

-- Matches, answers and iterations are unique.
pub record AreOne : Type 0 where
  -- an input has at most one match
  pub span : SpansAreOne
  -- a search has at most one answer
  pub answer : AnswersAreOne
  -- an iteration has at most one list of matches
  pub list : IterationsAreOne

-- An iteration over a true pair reports the spans.
abbrev pub IterationsAreRight : Type 0
IterationsAreRight =
    (f r : Engine) (input : Input) (ms : List Match)
    → IsTruePair f r → KeepsUtf8 Forward f → IsInput input → AreFound f r input ms → AreSpans f input ms

-- Ends rise, so there is at most one match more than the span has bytes.
abbrev pub EndsRise : Type 0
EndsRise =
    (d : Engine) (input : Input) (ms : List Match) → input.end ≤ length input.haystack → AreSpans d input ms
    → Rise input.end None ms × (length ms ≤ suc (input.end - input.start))

-- The ends of the matches that searches over two DFAs find rise as well.
abbrev pub FoundEndsRise : Type 0
FoundEndsRise =
    (f r : Engine) (input : Input) (ms : List Match) → input.end ≤ length input.haystack → AreFound f r input ms
    → Rise input.end None ms × (length ms ≤ suc (input.end - input.start))

-- The ends of the matches of an iteration rise, by paths and over any two DFAs.
pub record AllEndsRise : Type 0 where
  -- the ends of the matches of the paths rise
  pub spans : EndsRise
  -- the ends of the matches that searches over two DFAs find rise
  pub found : FoundEndsRise

-- If the input is not earliest or nothing is skipped, there is a match exactly if a search finds one.
abbrev pub MatchIffFound : Type 0
MatchIffFound =
    (d : Engine) (input : Input) (truth : Bool) (answer : Option Match)
    → (input.earliest ≡ false) ⊎ (IsSkipping d → ⊥) → IsMatch d input truth → IsSpan d input answer
    → truth ≡ is_some answer

-- If both DFAs have the same quit set, the reverse search meets no quit byte if the forward search met none up to its
-- match.
abbrev pub BackMeetsNone : Type 0
BackMeetsNone =
    (quits : ℕ → Bool) (h : List ℕ) (b e i m : ℕ) → b + i ≤ e → e ≤ length h → m ≤ i
    → MeetsNone quits (forward_tape h b e) i → MeetsNone quits (reverse_tape h b (b + i)) m
