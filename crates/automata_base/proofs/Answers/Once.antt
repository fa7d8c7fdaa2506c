-- Answers are unique: a search has at most one answer, and a path at most one start.
use Rattle.std.proofs.Common.{ℕ, suc, ◌≡◌, ◌+◌, Bool, true, false, List, [], ◌∷◌, ◌++◌, ◌⊎◌, Option, Some, None}
use Rattle.std.proofs.Common.{is_some, inl, inr, refl, sym, ap, ap₂, ◌∙◌, subst, arith}
use Rattle.automata_base.specs.Paths.Order.{Begins}
use Rattle.automata_base.specs.Nfas.Nfa.{Nfa, accepts}
use Rattle.automata_base.specs.Paths.Paths.{Tape, IsPath}
use Rattle.automata_base.specs.Powersets.Cuts.{MatchKind, All, LeftmostFirst}
use Rattle.automata_base.specs.Paths.Selections.{Accepts, ByEdges, ByPlace, Pair, IsChosen, Selects}
use Rattle.automata_base.proofs.Paths.Orders.{some_inj, cons_head, cons_tail, none_some, some_none}
use Rattle.automata_base.specs.Answers.Spans.{IsPathStart, Chooses, IsSpan, in_full, IsMatch, from, IsEmptyAt}
use Rattle.automata_base.specs.Answers.Spans.{IsNextItem, IsSpanOfPath, AreMatches, AreSpans, FindsHere, FindsLater}
use Rattle.automata_base.specs.Haystacks.Matches.{Match}
use Rattle.automata_base.proofs.Paths.Places.{path_end}
use Rattle.automata_base.specs.Haystacks.Tapes.{Direction, Forward, tape_of, forward_tape}
use Rattle.automata_base.specs.Nfas.Engines.{Engine, Anchored, No, Yes, Pattern, first_state, IsSkipping}
use Rattle.automata_base.specs.Answers.Answers.{Half, SelectsFrom, SelectsOver, later, IsAnswer, HasNoAnswerAt}
use Rattle.automata_base.specs.Answers.Answers.{SpanIsDone}
use Rattle.automata_base.specs.Answers.Answers.{SpanReportsNone, StopsAtSplit}
use Rattle.automata_base.specs.Haystacks.Input.{Input}
use Rattle.automata_base.proofs.Answers.Answered.{answers_once}
use Rattle.automata_base.proofs.Answers.Tried.{ComesTo}
use Rattle.automata_base.proofs.Answers.Tried.{tries_once}
use Rattle.automata_base.proofs.Paths.Unique.{upto_both}

pub chosen_once :
    (kind : MatchKind) (earliest : Bool) (i j : ℕ) (path other : List ℕ)
    → IsChosen kind earliest i path j other → IsChosen kind earliest j other i path → path ≡ other
chosen_once All true i j path other (ByPlace h) (ByPlace k) = absurd (omega (arith, h, k))
chosen_once All true i j path other (ByPlace h) (ByEdges e k) = absurd (omega (arith, h, e))
chosen_once All true i j path other (ByEdges e h) (ByPlace k) = absurd (omega (arith, e, k))
chosen_once All true i j path other (ByEdges e h) (ByEdges e' k) = upto_both path other h k
chosen_once LeftmostFirst true i j path other (ByPlace h) (ByPlace k) = absurd (omega (arith, h, k))
chosen_once LeftmostFirst true i j path other (ByPlace h) (ByEdges e k) = absurd (omega (arith, h, e))
chosen_once LeftmostFirst true i j path other (ByEdges e h) (ByPlace k) = absurd (omega (arith, e, k))
chosen_once LeftmostFirst true i j path other (ByEdges e h) (ByEdges e' k) = upto_both path other h k
chosen_once LeftmostFirst false i j path other h k = upto_both path other h k
chosen_once All false i j path other (ByPlace h) (ByPlace k) = absurd (omega (arith, h, k))
chosen_once All false i j path other (ByPlace h) (ByEdges e k) = absurd (omega (arith, h, e))
chosen_once All false i j path other (ByEdges e h) (ByPlace k) = absurd (omega (arith, e, k))
chosen_once All false i j path other (ByEdges e h) (ByEdges e' k) = upto_both path other h k

-- A path determines the pattern that it accepts and the position at which it ends.
pub accepting_once :
    (n : Nfa) (t : Tape) (q i j p p' : ℕ) (path path' : List ℕ)
    → Accepts n t q i p path → Accepts n t q j p' path' → path ≡ path' → (i ≡ j) × (p ≡ p')
accepting_once n t q i j p p' path path' a b e =
    (ends.0, some_inj (sym a.2 ∙ (ap (λ v. accepts n v) ends.1 ∙ b.2)))
  where
    ends : (i ≡ j) × (a.0 ≡ b.0)
    ends = path_end n t 0 [] q path i a.0 j b.0 a.1 (subst (λ v. IsPath n t q j b.0 v) (sym e) b.1)

pub sel_once :
    (kind : MatchKind) (earliest : Bool) (n : Nfa) (t : Tape) (q : ℕ) (a b : Option Pair)
    → Selects kind earliest n t q a → Selects kind earliest n t q b → a ≡ b
sel_once kind earliest n t q None None s s' = refl
sel_once kind earliest n t q None (Some b) s s' = absurd (s b.place b.pattern s'.0 s'.1)
sel_once kind earliest n t q (Some a) None s s' = absurd (s' a.place a.pattern s.0 s.1)
sel_once kind earliest n t q (Some a) (Some b) s s' =
    let e =
    accepting_once n t q a.place b.place a.pattern b.pattern s.0 s'.0 s.1 s'.1
    (chosen_once kind earliest a.place b.place s.0 s'.0 (s.2 b.place b.pattern s'.0 s'.1)
    (s'.2 a.place a.pattern s.0 s.1)) in
    ap₂ pair_of e.1 e.0
  where
    pair_of : ℕ → ℕ → Option Pair
    pair_of p i = Some (record { pattern = p; place = i })

pub sel_from_once :
    (d : Engine) (earliest : Bool) (t : Tape) (o : Option ℕ) (a b : Option Pair)
    → SelectsFrom d earliest t o a → SelectsFrom d earliest t o b → a ≡ b
sel_from_once d earliest t None a b s s' = s ∙ sym s'
sel_from_once d earliest t (Some q) a b s s' = sel_once d.kind earliest d.nfa t q a b s s'

sel_over_once :
    (way : Direction) (d : Engine) (input : Input) (a b : Option Pair)
    → SelectsOver way d input a → SelectsOver way d input b → a ≡ b
sel_over_once way d input a b s s' =
    sel_from_once d input.earliest (tape_of way input.haystack input.start input.end) (first_state d input.anchored) a b
    s s'

-- A search has at most one answer.
pub answer_once :
    (way : Direction) (d : Engine) (input : Input) (o o' : Option Half) → IsAnswer way d input o
    → IsAnswer way d input o' → o ≡ o'
answer_once way d input o o' = answers_once (SelectsOver way d) (IsSkipping d) way input (sel_over_once way d) o o'

-- Two prefixes of one list are equal, or one is a proper prefix of the other.
prefixes : (a b c d : List ℕ) → a ++ c ≡ b ++ d → (a ≡ b) ⊎ (Begins a b ⊎ Begins b a)
prefixes [] [] c d e = inl refl
prefixes [] (y ∷ b) c d e = inr (inl (y, b, refl))
prefixes (x ∷ a) [] c d e = inr (inr (x, a, refl))
prefixes (x ∷ a) (y ∷ b) c d e = go (prefixes a b c d (cons_tail e))
  where
    go : (a ≡ b) ⊎ (Begins a b ⊎ Begins b a) → (x ∷ a ≡ y ∷ b) ⊎ (Begins (x ∷ a) (y ∷ b) ⊎ Begins (y ∷ b) (x ∷ a))
    go (inl g) = inl (ap₂ ◌∷◌ (cons_head e) g)
    go (inr (inl g)) = inr (inl (g.0, g.1, ap₂ ◌∷◌ (sym (cons_head e)) g.2))
    go (inr (inr g)) = inr (inr (g.0, g.1, ap₂ ◌∷◌ (cons_head e) g.2))

-- A path has at most one start.
pub start_once :
    (d : Engine) (m : Anchored) (t : Tape) (path : List ℕ) (k k' : ℕ) → IsPathStart d m t path k
    → IsPathStart d m t path k' → k ≡ k'
start_once d No t path k k' s s' = go (prefixes s.0 s'.0 s.1 s'.1 (sym s.2 ∙ s'.2))
  where
    go : (s.0 ≡ s'.0) ⊎ (Begins s.0 s'.0 ⊎ Begins s'.0 s.0) → k ≡ k'
    go (inl e) =
        (path_end d.nfa t 0 [] d.unanchored s.0 k d.anchored k' d.anchored s.3
        (subst (λ v. IsPath d.nfa t d.unanchored k' d.anchored v) (sym e) s'.3)).0
    go (inr (inl b)) = absurd (s'.4 s.0 k b s.3)
    go (inr (inr b)) = absurd (s.4 s'.0 k' b s'.3)
start_once d Yes t path k k' s s' = s ∙ sym s'
start_once d (Pattern p) t path k k' s s' = s ∙ sym s'

pub match_is : (a b : Match) → a.pattern ≡ b.pattern → a.start ≡ b.start → a.end ≡ b.end → a ≡ b
match_is a b pattern start end = λ i. record { pattern = pattern i; start = start i; end = end i }

-- Spans with the same forward answer are equal.
span_of_once :
    (d : Engine) (input : Input) (m m' : Match) (s : IsSpanOfPath d input m) (s' : IsSpanOfPath d input m')
    → s.half ≡ s'.half
    → m ≡ m'
span_of_once d input m m' s s' same =
    match_is m m' (s.pattern ∙ (ap (λ (v : Half). v.pattern) same ∙ sym s'.pattern))
    (s.start ∙ (ap₂ (λ (v : Half) w. v.base + w) same start ∙ sym s'.start))
    (s.end ∙ (ap (λ (v : Half). v.offset) same ∙ sym s'.end))
  where
    t : Tape
    t = forward_tape input.haystack s.half.base input.end

    first_same : s'.first ≡ s.first
    first_same = some_inj (sym s'.is_first ∙ s.is_first)

    there : Chooses d input.earliest t s.first s'.length s.half.pattern s'.path
    there =
        subst
        (λ (v : Half). Chooses d input.earliest (forward_tape input.haystack v.base input.end) s.first s'.length
        v.pattern s'.path)
        (sym same)
        (subst
        (λ v. Chooses d input.earliest (forward_tape input.haystack s'.half.base input.end) v s'.length s'.half.pattern
        s'.path)
        first_same s'.chosen)

    path_same : s.path ≡ s'.path
    path_same =
        chosen_once d.kind input.earliest s.length s'.length s.path s'.path
        (s.chosen.1 s'.length s.half.pattern s'.path there.0) (there.1 s.length s.half.pattern s.path s.chosen.0)

    begins : IsPathStart d input.anchored t s'.path s'.before
    begins =
        subst (λ (v : Half). IsPathStart d input.anchored (forward_tape input.haystack v.base input.end) s'.path
        s'.before)
        (sym same) s'.begins

    start : s.before ≡ s'.before
    start =
        start_once d input.anchored t s.path s.before s'.before s.begins
        (subst (λ v. IsPathStart d input.anchored t v s'.before) (sym path_same) begins)

-- The span of an input is unique.
pub span_once : (d : Engine) (input : Input) (a b : Option Match) → IsSpan d input a → IsSpan d input b → a ≡ b
span_once d input None None s s' = refl
span_once d input None (Some b) s s' =
    absurd (none_some (answer_once Forward d input None (Some s'.half) s s'.answer))
span_once d input (Some a) None s s' =
    absurd (none_some (answer_once Forward d input None (Some s.half) s' s.answer))
span_once d input (Some a) (Some b) s s' =
    ap (λ v. Some v)
    (span_of_once d input a b s s'
    (some_inj (answer_once Forward d input (Some s.half) (Some s'.half) s.answer s'.answer)))

-- `Finds` has at most one answer for each input, and so at most one list of matches.
abbrev pub FindsOnce : (Input → Option Match → Type 0) → Type 0
FindsOnce Finds = (input : Input) (a b : Option Match) → Finds input a → Finds input b → a ≡ b

pub next_none :
    (Finds : Input → Option Match → Type 0) (input : Input) (start : ℕ) (last : Option ℕ) (m : Match)
    → FindsOnce Finds → IsNextItem Finds input start last None → IsNextItem Finds input start last (Some m) → ⊥
next_none Finds input start last m once (FindsHere s apart) (FindsHere s' apart') =
    none_some (once (from start input) None (Some m) s s')
next_none Finds input start last m once (FindsHere s apart) (FindsLater n s' empty t') =
    none_some (once (from start input) None (Some n) s s')
next_none Finds input start last m once (FindsLater n s empty t) (FindsHere s' apart') =
    apart' (subst (λ v. IsEmptyAt last v) (some_inj (once (from start input) (Some n) (Some m) s s')) empty)
next_none Finds input start last m once (FindsLater n s empty t) (FindsLater n' s' empty' t') =
    none_some (once (from (suc start) input) None (Some m) t t')

pub next_some :
    (Finds : Input → Option Match → Type 0) (input : Input) (start : ℕ) (last : Option ℕ) (m m' : Match)
    → FindsOnce Finds → IsNextItem Finds input start last (Some m) → IsNextItem Finds input start last (Some m')
    → m ≡ m'
next_some Finds input start last m m' once (FindsHere s apart) (FindsHere s' apart') =
    some_inj (once (from start input) (Some m) (Some m') s s')
next_some Finds input start last m m' once (FindsHere s apart) (FindsLater n' s' empty' t') =
    absurd
    (apart (subst (λ v. IsEmptyAt last v) (some_inj (once (from start input) (Some n') (Some m) s' s)) empty'))
next_some Finds input start last m m' once (FindsLater n s empty t) (FindsHere s' apart') =
    absurd
    (apart' (subst (λ v. IsEmptyAt last v) (some_inj (once (from start input) (Some n) (Some m') s s')) empty))
next_some Finds input start last m m' once (FindsLater n s empty t) (FindsLater n' s' empty' t') =
    some_inj (once (from (suc start) input) (Some m) (Some m') t t')

pub matches_once :
    (Finds : Input → Option Match → Type 0) (input : Input) (start : ℕ) (last : Option ℕ) (ms ms' : List Match)
    → FindsOnce Finds → AreMatches Finds input start last ms → AreMatches Finds input start last ms' → ms ≡ ms'
matches_once Finds input start last [] [] once s s' = refl
matches_once Finds input start last [] (m ∷ ms) once s s' = absurd (next_none Finds input start last m once s s'.0)
matches_once Finds input start last (m ∷ ms) [] once s s' = absurd (next_none Finds input start last m once s' s.0)
matches_once Finds input start last (m ∷ ms) (m' ∷ ms') once s s' =
    ap₂ ◌∷◌ e
    (matches_once Finds input m.end (Some m.end) ms ms' once s.1
    (subst (λ v. AreMatches Finds input v.end (Some v.end) ms') (sym e) s'.1))
  where
    e : m ≡ m'
    e = next_some Finds input start last m m' once s.0 s'.0

-- The list of spans of an input is unique.
pub spans_once :
    (d : Engine) (input : Input) (ms ms' : List Match) → AreSpans d input ms → AreSpans d input ms' → ms ≡ ms'
spans_once d input ms ms' s s' =
    matches_once (IsSpan d) input input.start None ms ms' (λ input a b. span_once d input a b) s s'

-- A search that skips nothing tries only its first span.
plain : (way : Direction) (d : Engine) (input : Input) (k : ℕ) → (IsSkipping d → ⊥) → ComesTo way d input k → k ≡ 0
plain way d input k f c =
    tries_once (IsSkipping d) input k (λ s free. f s) c.comes

clash_from :
    (d : Engine) (v w : Bool) (t : Tape) (o : Option ℕ) (pair : Pair) → SelectsFrom d v t o None
    → SelectsFrom d w t o (Some pair) → ⊥
clash_from d v w t None pair s s' = some_none s'
clash_from d v w t (Some q) pair s s' = s pair.place pair.pattern s'.0 s'.1

abbrev pub with_earliest : Bool → Input → Input
with_earliest v input = record input { earliest = v }

clash :
    (d : Engine) (v w : Bool) (input : Input) (half : Half) → (IsSkipping d → ⊥)
    → IsAnswer Forward d (with_earliest v input) None → IsAnswer Forward d (with_earliest w input) (Some half) → ⊥
clash d v w input half f a b = go a.2
  where
    zero_a : a.0 ≡ 0
    zero_a = plain Forward d (with_earliest v input) a.0 f a.1

    zero_b : b.0 ≡ 0
    zero_b = plain Forward d (with_earliest w input) b.0 f b.1

    go : HasNoAnswerAt (SelectsOver Forward d) (IsSkipping d) Forward (with_earliest v input) a.0 → ⊥
    go (SpanIsDone l) = omega (arith, l, zero_a, zero_b, b.2.within)
    go (SpanReportsNone s) =
        clash_from d v w (forward_tape input.haystack (input.start + 0) input.end) (first_state d input.anchored)
        b.2.pair
        (subst (λ x. SelectsOver Forward d (later Forward x (with_earliest v input)) None) zero_a s)
        (subst (λ x. SelectsOver Forward d (later Forward x (with_earliest w input)) (Some b.2.pair)) zero_b
        b.2.reported)
    go (StopsAtSplit skips anchored s) = f skips

-- If the input is not earliest or nothing is skipped, the test for a match is true exactly if the search for the span
-- has one.
pub match_iff_find :
    (d : Engine) (input : Input) (truth : Bool) (answer : Option Match)
    → (input.earliest ≡ false) ⊎ (IsSkipping d → ⊥) → IsMatch d input truth → IsSpan d input answer
    → truth ≡ is_some answer
match_iff_find d input truth answer premise m s = m.2 ∙ go answer s m.0 m.1 premise
  where
    same :
        (o : Option Half) → input.earliest ≡ false → IsAnswer Forward d input o → IsAnswer Forward d (in_full input) o
    same o e a = subst (λ v. IsAnswer Forward d (with_earliest v input) o) e a

    go :
        (answer : Option Match) → IsSpan d input answer → (o : Option Half) → IsAnswer Forward d (in_full input) o
        → (input.earliest ≡ false) ⊎ (IsSkipping d → ⊥) → is_some o ≡ is_some answer
    go None s None a p = refl
    go (Some m) s (Some half) a p = refl
    go None s (Some half) a (inl e) =
        absurd (none_some (answer_once Forward d (in_full input) None (Some half) (same None e s) a))
    go None s (Some half) a (inr f) = absurd (clash d input.earliest false input half f s a)
    go (Some m) s None a (inl e) =
        absurd (none_some (answer_once Forward d (in_full input) None (Some s.half) a (same (Some s.half) e s.answer)))
    go (Some m) s None a (inr f) = absurd (clash d false input.earliest input s.half f a s.answer)
