-- In statements about searches, what is reported may be replaced by anything that follows from it.
use Rattle.std.proofs.Common.{ℕ, ◌<◌, ◌≤◌, ◌+◌, ◌⊎◌, inl, inr, Option, Some, None, arith}
use Rattle.automata_base.specs.Answers.Answers.{Half, later, Tries, Answers, HasNoAnswerAt, SpanIsDone, SpanReportsNone}
use Rattle.automata_base.specs.Answers.Answers.{StopsAtSplit}
use Rattle.automata_base.specs.Nfas.Engines.{Engine}
use Rattle.automata_base.specs.Haystacks.Input.{Input}
use Rattle.automata_base.specs.Paths.Selections.{Pair}
use Rattle.automata_base.specs.Answers.Spans.{FindsStartBy, Found, NotAPair, Outcome, ReportsBy, StartIsBase}
use Rattle.automata_base.specs.Answers.Spans.{StartIsFound, back}
use Rattle.automata_base.specs.declared.util.search.Direction.{Direction}

-- Replaces what is reported over the spans that a search tries.
module _ (T U : Input → Option Pair → Type 0) (S : Type 0) (way : Direction) (input : Input)
    (turn : (k : ℕ) (o : Option Pair) → input.start + k ≤ input.end → T (later way k input) o
    → U (later way k input) o) where
  turn_tries : (k : ℕ) → Tries T S way input k → Tries U S way input k
  turn_tries k tries = record {
    comes = tries.comes;
    before = λ j l. let b = tries.before j l in (b.0, (b.1.0, turn j (Some b.1.0) b.0 b.1.1, b.1.2));
  }

  turn_end :
      (k : ℕ) (more : (input.end < input.start + k) ⊎ (input.start + k ≤ input.end))
      → HasNoAnswerAt T S way input k → HasNoAnswerAt U S way input k
  turn_end k (inl l) h = SpanIsDone l
  turn_end k (inr l) (SpanIsDone h) = SpanIsDone h
  turn_end k (inr l) (SpanReportsNone h) = SpanReportsNone (turn k None l h)
  turn_end k (inr l) (StopsAtSplit s a b) = StopsAtSplit s a (b.0, turn k (Some b.0) l b.1, b.2)

  within_or_past : (k : ℕ) → (input.end < input.start + k) ⊎ (input.start + k ≤ input.end)
  within_or_past k = grind arith

  pub turn_answers : (o : Option Half) → Answers T S way input o → Answers U S way input o
  turn_answers None (k, tries, h) = (k, turn_tries k tries, turn_end k (within_or_past k) h)
  turn_answers (Some half) (k, tries, a) = (
    k,
    turn_tries k tries,
    record {
      pair = a.pair;
      within = a.within;
      reported = turn k (Some a.pair) a.within a.reported;
      whole = a.whole;
      pattern = a.pattern;
      offset = a.offset;
      base = a.base;
    },
  )

-- Replaces what the forward search and the reverse search find.
module _ (Fronts Fronts' Backs Backs' : Input → Option Half → Type 0) (f : Engine) (input : Input)
    (front : (o : Option Half) → Fronts input o → Fronts' input o)
    (rear : (half : Half) (o : Option Half) → Fronts input (Some half) → Backs (back input half) o
    → Backs' (back input half) o) where
  turn_start :
      (half : Half) (o : Option ℕ) → Fronts input (Some half) → FindsStartBy Backs f input half o
      → FindsStartBy Backs' f input half o
  turn_start half None given s = (s.0, rear half None given s.1)
  turn_start half (Some start) given (StartIsBase short same) = StartIsBase short same
  turn_start half (Some start) given (StartIsFound long found backs same) =
      StartIsFound long found (rear half (Some found) given backs) same

  pub turn_outcome :
      (outcome : Outcome) → ReportsBy Fronts Backs f input outcome → ReportsBy Fronts' Backs' f input outcome
  turn_outcome (Found None) t = front None t
  turn_outcome (Found (Some m)) t = record {
    half = t.half;
    front = front (Some t.half) t.front;
    start = turn_start t.half (Some m.start) t.front t.start;
    pattern = t.pattern;
    end = t.end;
  }
  turn_outcome NotAPair t = (t.0, front (Some t.0) t.1, turn_start t.0 None t.1 t.2)
