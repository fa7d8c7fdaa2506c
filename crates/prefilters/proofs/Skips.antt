-- Where a search for needles may begin, by what the beginning of the haystack has.
use Rattle.std.proofs.Common.{ℕ, suc, ◌≡◌, ◌+◌, ◌-◌, ◌^◌, ◌<◌, ◌≤◌, ◌⊎◌, Bool, List, inl, inr, length, take}
use Rattle.std.proofs.Common.{arith, refl, subst, ⊎_elim}
use Rattle.std.specs.Prelude.{Option, None, Some, min, max}
use Rattle.std.proofs.lemmas.Bool.{cases_lt}
use Rattle.regex_literal.specs.Find.{AllAtMost, AnyOccursAt}
use Rattle.prefilters.specs.Heads.{StartsRun}
use Rattle.prefilters.specs.Needles.{StopsBeforeNeedle, NearNeedles, NoneIsNear, NoneOccurs, SkipsTo}
use Rattle.prefilters.specs.declared.heads.Head.TheVariants.{Of, Within}
use Rattle.prefilters.proofs.Joining.{beginnings}

-- needles within reach of the start of a match
abbrev pub within : (needles : List (List ℕ)) → (reach : ℕ) → NearNeedles
within needles reach = record { needles = needles; head = Within reach }

-- at offsets from which on no needle occurs within reach none is near
near_none :
    (hay : List ℕ) (needles : List (List ℕ)) (reach s p at : ℕ) → p + reach ≤ at → NoneOccurs hay needles s at
    → NoneIsNear hay (within needles reach) s p
near_none hay needles reach s p at l none o k low high from upto =
    none k (omega (arith, low, from)) (omega (arith, l, high, upto))

-- the beginning goes as far past the span as the longest needle within reach, or is the whole haystack
module _ (needles : List (List ℕ)) (reach : ℕ) (hay : List ℕ) (longest past end cut : ℕ)
    (most : AllAtMost needles longest) (inner : end ≤ length hay) (far : (longest + reach ≤ past) ⊎ (length hay ≤ past))
    (is : cut ≡ end + min past (length hay - end)) where
  abbrev near : NearNeedles
  near = within needles reach

  enough : (p : ℕ) → p ≤ suc (end + reach) → (p + longest ≤ suc cut) ⊎ (length hay ≤ cut)
  enough p l = ⊎_elim
      (λ (c : cut < length hay). ⊎_elim
      (λ (f : longest + reach ≤ past). inl (omega (arith, is, c, l, f)))
      (λ (f : length hay ≤ past). absurd (omega (arith, is, c, f, inner))) far)
      (λ (c : length hay ≤ cut). inr c) (cases_lt cut (length hay))

  before :
      (s p : ℕ) → p ≤ suc (end + reach) → NoneOccurs (take cut hay) needles s p → NoneOccurs hay needles s p
  before s p l none = beginnings needles hay longest cut s p most (enough p l) none

  -- what a search of the beginning comes to
  abbrev Reached : (s : ℕ) → Option ℕ → Type 0
  Reached s o = StopsBeforeNeedle (take cut hay) needles s (length (take cut hay)) o

  -- no needle occurs in it
  pub missing : (s : ℕ) (o : Option ℕ) → ((at : ℕ) → o ≡ Some at → ⊥) → Reached s o → SkipsTo hay near s end None
  missing s None f none =
      near_none hay needles reach s (suc end) (suc (end + reach)) (omega arith)
      (before s (suc (end + reach)) (omega arith) (λ k low high w. none k low (ends k w) w))
    where
      ends : (k : ℕ) → AnyOccursAt (take cut hay) needles k → k < suc (length (take cut hay))
      ends k (n, l, w) = let f = w.fits in omega (arith, f)
  missing s (Some at) f r = absurd (f at refl)

  -- the first needle is out of reach from the whole span
  pub beyond :
      (s at : ℕ) (o : Option ℕ) → o ≡ Some at → end < at - reach → Reached s o → SkipsTo hay near s end None
  beyond s at o e l r =
      near_none hay needles reach s (suc end) (suc (end + reach)) (omega arith)
      (before s (suc (end + reach)) (omega arith) (λ k low high.
      (subst (Reached s) e r).2 k low (omega (arith, l, high))))

  -- it is within reach
  pub inside :
      (s at first : ℕ) (o : Option ℕ) → o ≡ Some at → s ≤ end → at - reach ≤ end
      → first ≡ max (at - reach) s → Reached s o → SkipsTo hay near s end (Some first)
  inside s at first o e span l is-first r = (
    omega (arith, is-first),
    omega (arith, is-first, l, span),
    λ p k low high from upto.
        before s at (omega (arith, l)) (subst (Reached s) e r).2 k (omega (arith, low, from))
        (omega (arith, is-first, low, high, upto)),
  )

-- a search of the whole rest of the haystack, for needles after a head of any length
module _ (near : NearNeedles) (hay : List ℕ) (s : ℕ) where
  -- it skips nothing
  pub stays : (end : ℕ) → s ≤ end → SkipsTo hay near s end (Some s)
  stays end l = (omega arith, l, λ o k low high from h w. absurd (omega (arith, low, high)))

  -- no needle occurs
  pub none_left :
      (o : Option ℕ) → ((at : ℕ) → o ≡ Some at → ⊥) → StopsBeforeNeedle hay near.needles s (length hay) o
      → SkipsTo hay near s (length hay) None
  none_left None f none = λ o k low high from h found.
      none k (omega (arith, low, from)) (let fits = found.2.fits in omega (arith, fits)) found
  none_left (Some at) f r = absurd (f at refl)

-- the first needle is at the end of a run of bytes of the table
pub over_run :
    (needles : List (List ℕ)) (table : List Bool) (hay : List ℕ) (s at first : ℕ) (o : Option ℕ) → o ≡ Some at
    → StopsBeforeNeedle hay needles s (length hay) o → StartsRun table hay s at first
    → SkipsTo hay (record { needles = needles; head = Of table }) s (length hay) (Some first)
over_run needles table hay s at first o e r run = (
  run.from,
  (let u = run.upto in let b = stops.1 in omega (arith, u, b)),
  λ p k low high from only w. ⊎_elim
      (λ (less : k < at). stops.2 k (omega (arith, low, from)) less w)
      (λ (more : at ≤ k). run.longest p low high (λ q l m. only q l (omega (arith, m, more)))) (cases_lt k at),
)
  where
    stops : StopsBeforeNeedle hay needles s (length hay) (Some at)
    stops = subst (StopsBeforeNeedle hay needles s (length hay)) e r

-- a sum that saturates is the sum, or as large as any length
pub far_enough : (a b past n : ℕ) → past ≡ min (a + b) (2 ^ 64 - 1) → n < 2 ^ 64 → (a + b ≤ past) ⊎ (n ≤ past)
far_enough a b past n is short = ⊎_elim
    (λ (c : a + b < 2 ^ 64). inl (omega (arith, is, c)))
    (λ (c : 2 ^ 64 ≤ a + b). inr (omega (arith, is, c, short))) (cases_lt (a + b) (2 ^ 64))
