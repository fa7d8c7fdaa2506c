-- Every search has an answer.
use Rattle.std.proofs.Common.{ℕ, zero, suc, ◌≡◌, ◌<◌, ◌≤◌, ◌+◌, ◌-◌, Bool, true, false, List, [], ◌∷◌, ◌⊎◌, length}
use Rattle.std.proofs.Common.{reverse, Option, Some, None, inl, inr, refl, sym, ap, ◌∙◌, subst, arith, ⊎_elim}
use Rattle.std.proofs.Common.{eq-or-lt_of_le}
use Rattle.std.proofs.lemmas.Bool.{cases_lt}
use Rattle.std.specs.Prelude.{slice_get}
use Rattle.automata_base.specs.Paths.Paths.{Tape, next_in, KeepsCycles}
use Rattle.automata_determinize.specs.Powersets.Passes.{IsUnit, IsTape}
use Rattle.automata_base.specs.Paths.Selections.{Pair}
use Rattle.automata_determinize.specs.Retraced.Passes.{search_of}
use Rattle.automata_base.specs.Nfas.Accepted.{IsInRange}
use Rattle.automata_determinize.proofs.Paths.Finals.{search_right}
use Rattle.automata_base.specs.Haystacks.Tapes.{IsHaystack, tape_of, between, byte_before}
use Rattle.automata_base.specs.declared.util.search.Direction.{Direction}
use Rattle.automata_base.specs.declared.util.search.Direction.TheVariants.{Forward, Backward}
use Rattle.automata_base.specs.Haystacks.Tapes.{is_split}
use Rattle.automata_base.specs.Nfas.Engines.{Engine, first_state, IsSkipping}
use Rattle.automata_base.specs.declared.util.search.Anchored.TheVariants.{No}
use Rattle.automata_base.specs.Answers.Answers.{Half, SelectsFrom, SelectsOver, later, offset_in, IsAnswer, IsInput}
use Rattle.automata_base.specs.Answers.Answers.{HasAnswerAt, IsSound, SpanIsDone, SpanReportsNone, StopsAtSplit}
use Rattle.automata_base.specs.Answers.Answers.{IsFirstSpan, SkipsToIt}
use Rattle.automata_base.specs.Haystacks.Input.{Input}
use Rattle.automata_base.specs.Answers.TruePairs.{IsTruePair, KeepsUtf8}
use Rattle.automata_base.specs.Answers.Spans.{IsSpan, IsShort, back, Outcome, Found, NotAPair, IsTrySearch, HasStartBy}
use Rattle.automata_base.specs.Answers.Spans.{StartIsBase}
use Rattle.automata_base.specs.Answers.Spans.{StartIsFound}
use Rattle.automata_base.specs.Haystacks.Matches.{Match}
use Rattle.automata_base.proofs.Answers.Backs.{end_inside, forward_bytes}
use Rattle.automata_determinize.proofs.Answers.Starts.{mode_cases}
use Rattle.automata_base.proofs.Answers.Starts.{Answered, answered}
use Rattle.automata_determinize.proofs.Answers.Right.{span_right}
use Rattle.automata_determinize.proofs.Answers.Empties.{skips_or_not}
use Rattle.automata_base.proofs.Answers.Answered.{haystack_later}
use Rattle.automata_base.proofs.Answers.Tried.{ComesTo, IsSplitAnswer}
use Rattle.std.proofs.lemmas.Bool.{cases_eq}
use Rattle.automata_base.proofs.Answers.Total.{reverse_bytes}

unit_of : (o : Option ℕ) → ((u : ℕ) → o ≡ Some u → u < 256) → IsUnit o
unit_of None f = tt
unit_of (Some u) f = f u refl

before_unit : (h : List ℕ) (o : ℕ) → IsHaystack h → IsUnit (byte_before h o)
before_unit h zero bytes = tt
before_unit h (suc o) bytes = unit_of (slice_get h o) (bytes o)

next_unit : (xs : List ℕ) (after : Option ℕ) (i : ℕ) → IsHaystack xs → IsUnit after → IsUnit (next_in xs after i)
next_unit [] after i b a = a
next_unit (x ∷ xs) after zero b a = b zero x refl
next_unit (x ∷ xs) after (suc i) b a = next_unit xs after i (λ o u e. b (suc o) u e) a

pub tape_units :
    (way : Direction) (h : List ℕ) (s e : ℕ) → IsHaystack h → s ≤ e → e ≤ length h → IsTape (tape_of way h s e)
tape_units Forward h s e b l w i =
    next_unit (between h s e) (slice_get h e) i (λ o u g. forward_bytes h s e b l w o u g)
    (unit_of (slice_get h e) (b e))
tape_units Backward h s e b l w i =
    next_unit (reverse (between h s e)) (byte_before h s) i
    (reverse_bytes (between h s e) (λ o u g. forward_bytes h s e b l w o u g)) (before_unit h s b)

sel_from :
    (d : Engine) (earliest : Bool) (t : Tape) (o : Option ℕ)
    → IsInRange d.nfa → KeepsCycles d.nfa → IsTape t → ((q : ℕ) → o ≡ Some q → q < length d.nfa.nodes)
    → (answer : Option Pair) × SelectsFrom d earliest t o answer
sel_from d earliest t None r f u l = (None, refl)
sel_from d earliest t (Some q) r f u l =
    (search_of d.kind earliest d.nfa t q, search_right d.kind earliest d.nfa t q r (l q refl) f u)

pub sel_exists :
    (way : Direction) (d : Engine) (input : Input) → IsSound d → IsInput input → input.start ≤ input.end
    → (answer : Option Pair) × SelectsOver way d input answer
sel_exists way d input s b l =
    sel_from d input.earliest (tape_of way input.haystack input.start input.end) (first_state d input.anchored) s.0 s.1
    (tape_units way input.haystack input.start input.end b.0 l b.1) (s.2 input.anchored)

pub later_input :
    (way : Direction) (k : ℕ) (input : Input) → IsInput input → input.start + k ≤ input.end
    → IsInput (later way k input) × ((later way k input).start ≤ (later way k input).end)
later_input Forward k input b l = (b, l)
later_input Backward k input b l = ((b.0, omega (arith, b.1)), omega (arith, l))

search_from :
    (way : Direction) (d : Engine) (input : Input) → IsSound d → IsInput input → (IsSkipping d ⊎ (IsSkipping d → ⊥))
    → (n k : ℕ) → ComesTo way d input k → input.end < input.start + k + n → (o : Option Half) × IsAnswer way d input o
search_from way d input s b skips zero k c l = (None, (k, c, SpanIsDone (omega (arith, l))))
search_from way d input s b skips (suc n) k c l = ⊎_elim
    (λ (m : input.end < input.start + k). (None, (k, c, SpanIsDone m)))
    (λ (m : input.start + k ≤ input.end).
    let f = later_input way k input b m in
    let a = sel_exists way d (later way k input) s f.0 f.1 in
    go m a.0 a.1 (λ c'. search_from way d input s b skips n (suc k) c' (omega (arith, l))))
    (cases_lt input.end (input.start + k))
  where
    go :
        input.start + k ≤ input.end → (a : Option Pair) → SelectsOver way d (later way k input) a
        → (ComesTo way d input (suc k) → (o : Option Half) × IsAnswer way d input o)
        → (o : Option Half) × IsAnswer way d input o
    go m None a on = (None, (k, c, SpanReportsNone a))
    go m (Some pair) a on = decide skips
      where
        o : ℕ
        o = offset_in way (later way k input) pair.place

        half : Half
        half = record { pattern = pair.pattern; offset = o; base = (later way k input).start }

        answer :
            (IsSkipping d → is_split input.haystack o ≡ false)
            → HasAnswerAt (SelectsOver way d) (IsSkipping d) way input k half
        answer whole = record {
          pair = pair;
          within = m;
          reported = a;
          whole = whole;
          pattern = refl;
          offset = refl;
          base = refl;
        }

        split : IsSkipping d → (v : Bool) → is_split input.haystack o ≡ v → (o : Option Half) × IsAnswer way d input o
        split z false e = (Some half, (k, c, answer (λ z. e)))
        split z true e = ⊎_elim
            (λ (free : input.anchored ≡ No). on (record { comes = SkipsToIt z free; before = before free }))
            (λ (f : input.anchored ≡ No → ⊥). (None, (k, c, StopsAtSplit z f here)))
            (mode_cases input.anchored)
          where
            here : IsSplitAnswer way d (later way k input)
            here = (pair, a, ap (λ v. is_split v o) (haystack_later way k input) ∙ e)

            before :
                input.anchored ≡ No → (j : ℕ) → j < suc k → (input.start + j ≤ input.end)
                × IsSplitAnswer way d (later way j input)
            before free j l = ⊎_elim
                (λ (e : j ≡ k).
                (omega (arith, m, e), subst (λ v. IsSplitAnswer way d (later way v input)) (sym e) here))
                (λ (b : j < k). c.before j b)
                (eq-or-lt_of_le (le_of l))
              where
                le_of : j < suc k → j ≤ k
                le_of x = omega (arith, x)

        decide : (IsSkipping d ⊎ (IsSkipping d → ⊥)) → (o : Option Half) × IsAnswer way d input o
        decide (inr f) = (Some half, (k, c, answer (λ z. absurd (f z))))
        decide (inl z) = split z (is_split input.haystack o) refl

pub answer_exists :
    (way : Direction) (d : Engine) (input : Input) → IsSound d → IsInput input → (IsSkipping d ⊎ (IsSkipping d → ⊥))
    → (o : Option Half) × IsAnswer way d input o
answer_exists way d input s b skips =
    search_from way d input s b skips (suc input.end) 0
    (record { comes = IsFirstSpan refl; before = λ j l. absurd (omega (arith, l)) }) (omega arith)

pub short_or_not : (f : Engine) (input : Input) (half : Half) → IsShort f input half ⊎ (IsShort f input half → ⊥)
short_or_not f input half =
    go (cases_eq half.base half.offset) (mode_cases input.anchored) (cases_eq f.unanchored f.anchored)
  where
    go :
        (half.base ≡ half.offset) ⊎ (half.base ≡ half.offset → ⊥) → (input.anchored ≡ No) ⊎ (input.anchored ≡ No → ⊥)
        → (f.unanchored ≡ f.anchored) ⊎ (f.unanchored ≡ f.anchored → ⊥) → IsShort f input half
        ⊎ (IsShort f input half → ⊥)
    go (inl e) m a = inl (inl e)
    go (inr e) (inr m) a = inl (inr (inl m))
    go (inr e) (inl m) (inl a) = inl (inr (inr a))
    go (inr e) (inl m) (inr a) = inr not
      where
        not : IsShort f input half → ⊥
        not (inl x) = e x
        not (inr (inl x)) = x m
        not (inr (inr x)) = a x

-- A search over two sound DFAs has an outcome.
pub try_exists :
    (f r : Engine) (input : Input) → IsSound f → IsSound r → IsInput input
    → (IsSkipping f ⊎ (IsSkipping f → ⊥)) → (IsSkipping r ⊎ (IsSkipping r → ⊥))
    → (outcome : Outcome) × IsTrySearch f r input outcome
try_exists f r input sf sr b kf kr = go (answer_exists Forward f input sf b kf)
  where
    go : (o : Option Half) × IsAnswer Forward f input o → (outcome : Outcome) × IsTrySearch f r input outcome
    go a = on a.0 a.1
      where
        match_of : Half → ℕ → Match
        match_of half start = record { pattern = half.pattern; start = start; end = half.offset }

        on : (o : Option Half) → IsAnswer Forward f input o → (outcome : Outcome) × IsTrySearch f r input outcome
        on None a = (Found None, a)
        on (Some half) a = start (short_or_not f input half)
          where
            reported : (q i : ℕ) × (path : List ℕ) × Answered f input half q i path
            reported = answered f input half a

            inside : IsInput (back input half)
            inside =
                let g =
                end_inside f input.haystack half.base input.end reported.0 reported.1 half.pattern reported.2
                reported.3.4 b.1 reported.3.2.0 in
                let e = reported.3.1 in
                let w = b.1 in
                (b.0, omega (arith, g, e, w))

            found_at :
                (start : ℕ) → HasStartBy (IsAnswer Backward r) f input half start
                → (outcome : Outcome) × IsTrySearch f r input outcome
            found_at start begins = (
              Found (Some (match_of half start)),
              record { half = half; front = a; start = begins; pattern = refl; end = refl },
            )

            start :
                IsShort f input half ⊎ (IsShort f input half → ⊥) → (outcome : Outcome) × IsTrySearch f r input outcome
            start (inl s) = found_at half.base (StartIsBase s refl)
            start (inr s) = find (answer_exists Backward r (back input half) sr inside kr)
              where
                find :
                    (o : Option Half) × IsAnswer Backward r (back input half) o
                    → (outcome : Outcome) × IsTrySearch f r input outcome
                find o = from_back o.0 o.1
                  where
                    from_back :
                        (o : Option Half) → IsAnswer Backward r (back input half) o
                        → (outcome : Outcome) × IsTrySearch f r input outcome
                    from_back None c = (NotAPair, (half, a, (s, c)))
                    from_back (Some found) c = found_at found.offset (StartIsFound s found c refl)

-- For a true pair that keeps the UTF-8 promise, a search finds the span, so every input has one.
pub span_found :
    (f r : Engine) (input : Input) → IsTruePair f r → KeepsUtf8 Forward f → IsSound f → IsSound r → IsInput input
    → (answer : Option Match) × IsTrySearch f r input (Found answer) × IsSpan f input answer
span_found f r input pair keeps sf sr b = (s.0, subst (λ v. IsTrySearch f r input v) s.1 o.1, s.2)
  where
    o : (outcome : Outcome) × IsTrySearch f r input outcome
    o = try_exists f r input sf sr b (skips_or_not f sf) (skips_or_not r sr)

    s : (answer : Option Match) × (o.0 ≡ Found answer) × IsSpan f input answer
    s = span_right f r input o.0 pair keeps b.0 b.1 o.1
