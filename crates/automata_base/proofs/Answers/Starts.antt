-- What a forward answer implies about its path.
use Rattle.std.proofs.Common.{ℕ, ◌≡◌, ◌≤◌, ◌+◌, ◌-◌, false, List, Option, Some, None}
use Rattle.std.proofs.Common.{refl, sym, ap, ◌∙◌, subst, arith}
use Rattle.automata_base.proofs.Paths.Orders.{some_none}
use Rattle.automata_base.specs.Haystacks.Tapes.{Forward, forward_tape, is_split}
use Rattle.automata_base.specs.Nfas.Engines.{Engine, first_state, IsSkipping}
use Rattle.automata_base.specs.Answers.Answers.{Half, SelectsFrom, IsAnswer}
use Rattle.automata_base.specs.Haystacks.Input.{Input}
use Rattle.automata_base.specs.Answers.Spans.{Chooses}

-- What a forward answer implies about its path.
abbrev pub Answered : Engine → Input → Half → (q i : ℕ) → List ℕ → Type 0
Answered d input half q i path =
    (first_state d input.anchored ≡ Some q) × (half.offset ≡ half.base + i)
    × Chooses d input.earliest (forward_tape input.haystack half.base input.end) q i half.pattern path
    × (input.start ≤ half.base) × (half.base ≤ input.end)
    × (IsSkipping d → is_split input.haystack half.offset ≡ false)

pub answered :
    (d : Engine) (input : Input) (half : Half) → IsAnswer Forward d input (Some half)
    → (q i : ℕ) × (path : List ℕ) × Answered d input half q i path
answered d input half a = go (first_state d input.anchored) refl a.2.reported
  where
    go :
        (o : Option ℕ) → first_state d input.anchored ≡ o
        → SelectsFrom d input.earliest (forward_tape input.haystack (input.start + a.0) input.end) o (Some a.2.pair)
        → (q i : ℕ) × (path : List ℕ) × Answered d input half q i path
    go None e s = absurd (some_none s)
    go (Some q) e s = (
      q,
      a.2.pair.place,
      s.0,
      (
        e,
        a.2.offset ∙ ap (λ v. v + a.2.pair.place) (sym a.2.base),
        subst (λ v. Chooses d input.earliest (forward_tape input.haystack v input.end) q a.2.pair.place half.pattern
            s.0) (sym a.2.base)
            (subst (λ v. Chooses d input.earliest (forward_tape input.haystack (input.start + a.0) input.end) q
            a.2.pair.place v s.0) (sym a.2.pattern) (s.1, s.2)),
        omega (arith, a.2.base),
        omega (arith, a.2.base, a.2.within),
        λ k. ap (λ v. is_split input.haystack v) a.2.offset ∙ a.2.whole k,
      ),
    )
