-- If a rule determines what is reported over each span, a search has only one answer.
use Rattle.std.proofs.Common.{ℕ, ◌≡◌, ◌∙◌, ◌<◌, ◌≤◌, ◌+◌, true, false, Option, Some, None, refl, sym, ap}
use Rattle.std.proofs.Common.{ap₂, subst, arith, ⊎_elim, eq-or-lt_of_le}
use Rattle.std.proofs.lemmas.Bool.{cases_lt, false≢true}
use Rattle.automata_base.specs.Answers.Answers.{Half, later, offset_in, IsSplit, Tries, Answers, HasAnswerAt}
use Rattle.automata_base.specs.Answers.Answers.{HasNoAnswerAt, SpanIsDone, SpanReportsNone, StopsAtSplit}
use Rattle.automata_base.specs.Haystacks.Input.{Input}
use Rattle.automata_base.specs.Paths.Selections.{Pair}
use Rattle.automata_base.specs.Haystacks.Tapes.{Direction, Forward, Backward, is_split}
use Rattle.automata_base.specs.declared.util.search.Anchored.TheVariants.{No}
use Rattle.automata_base.proofs.Paths.Orders.{some_none, some_inj}
use Rattle.automata_base.proofs.Answers.Tried.{tries_on}

pub haystack_later : (way : Direction) (k : ℕ) (input : Input) → (later way k input).haystack ≡ input.haystack
haystack_later Forward k input = refl
haystack_later Backward k input = refl

half_is :
    (a b : Half) → a.pattern ≡ b.pattern → a.offset ≡ b.offset → a.base ≡ b.base
    → ◌≡◌ {A = Option Half} (Some a) (Some b)
half_is a b x y z = ap₂ (λ v w. v w) (ap₂ half_by x y) z
  where
    half_by : ℕ → ℕ → ℕ → Option Half
    half_by p o b = Some (record { pattern = p; offset = o; base = b })

module _ (T : Input → Option Pair → Type 0) (S : Type 0) (way : Direction) (input : Input)
    (once : (i : Input) (a b : Option Pair) → T i a → T i b → a ≡ b) where
  -- The search ends with this answer at the span that begins `k` positions later.
  abbrev pub Ends : Option Half → ℕ → Type 0
  Ends None k = HasNoAnswerAt T S way input k
  Ends (Some half) k = HasAnswerAt T S way input k half

  ends : (o : Option Half) → Answers T S way input o → (k : ℕ) × Tries T S way input k × Ends o k
  ends None a = a
  ends (Some half) a = a

  split_keeps :
      (k : ℕ) (p q : Pair) → p ≡ q
      → is_split (later way k input).haystack (offset_in way (later way k input) p.place) ≡ true
      → is_split input.haystack (offset_in way (later way k input) q.place) ≡ false → ⊥
  split_keeps k p q e split keeps =
      false≢true
      (sym keeps
      ∙ (sym (ap₂ (λ v (w : Pair). is_split v (offset_in way (later way k input) w.place)) (haystack_later way k input)
      e) ∙ split))

  no_further : (o : Option Half) (k k' : ℕ) → Ends o k → Tries T S way input k' → k < k' → ⊥
  no_further o k k' e c l =
      go o e (c.before k l)
      (tries_on S input k k' l c.comes)
    where
      go :
          (o : Option Half) → Ends o k → (input.start + k ≤ input.end) × IsSplit T way (later way k input) → S
          × (input.anchored ≡ No) → ⊥
      go None (SpanIsDone m) s z = omega (arith, m, s.0)
      go None (SpanReportsNone m) s z = some_none (once (later way k input) (Some s.1.0) None s.1.1 m)
      go None (StopsAtSplit skips anchored m) s z = anchored z.1
      go (Some half) m s z =
          split_keeps k s.1.0 m.pair (some_inj (once (later way k input) (Some s.1.0) (Some m.pair) s.1.1 m.reported))
          s.1.2
          (m.whole z.0)

  none_some : (a : Half) (k : ℕ) → Ends None k → Ends (Some a) k → ⊥
  none_some a k (SpanIsDone m) s = omega (arith, m, s.within)
  none_some a k (SpanReportsNone m) s = some_none (once (later way k input) (Some s.pair) None s.reported m)
  none_some a k (StopsAtSplit skips anchored m) s =
      split_keeps k m.0 s.pair (some_inj (once (later way k input) (Some m.0) (Some s.pair) m.1 s.reported)) m.2
      (s.whole skips)

  same_ends : (o o' : Option Half) (k : ℕ) → Ends o k → Ends o' k → o ≡ o'
  same_ends None None k e e' = refl
  same_ends (Some a) None k e e' = absurd (none_some a k e' e)
  same_ends None (Some a) k e e' = absurd (none_some a k e e')
  same_ends (Some a) (Some b) k e e' =
      let p : e.pair ≡ e'.pair =
      some_inj (once (later way k input) (Some e.pair) (Some e'.pair) e.reported e'.reported) in
      half_is a b (e.pattern ∙ (ap (λ (v : Pair). v.pattern) p ∙ sym e'.pattern))
      (e.offset ∙ (ap (λ (v : Pair). offset_in way (later way k input) v.place) p ∙ sym e'.offset))
      (e.base ∙ sym e'.base)

  pub answers_once : (o o' : Option Half) → Answers T S way input o → Answers T S way input o' → o ≡ o'
  answers_once o o' a a' = go (ends o a) (ends o' a') where
    go : (k : ℕ) × Tries T S way input k × Ends o k → (k : ℕ) × Tries T S way input k × Ends o' k → o ≡ o'
    go e e' = ⊎_elim
        (λ (l : e.0 < e'.0). absurd (no_further o e.0 e'.0 e.2 e'.1 l))
        (λ (l : e'.0 ≤ e.0). ⊎_elim
        (λ (c : e'.0 ≡ e.0). same_ends o o' e.0 e.2 (subst (λ v. Ends o' v) c e'.2))
        (λ (m : e'.0 < e.0). absurd (no_further o' e'.0 e.0 e'.2 e.1 m))
        (eq-or-lt_of_le l))
        (cases_lt e.0 e'.0)
