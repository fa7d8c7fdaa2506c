-- Where the matches of one program begin.
use Rattle.std.proofs.Common.{ℕ, ◌≡◌, ◌+◌, ◌-◌, ◌<◌, ◌≤◌, ◌∙◌, Bool, List, Option, Some, None, ap, arith}
use Rattle.std.proofs.Common.{length, option_map, refl, sym, subst, ⊎_elim}
use Rattle.std.proofs.lemmas.Bool.{cases_lt}
use Rattle.std.proofs.lemmas.Option.{none-some, same_Some}
use Rattle.regex_hir.specs.Text.{is_boundary}
use Rattle.regex_hir.proofs.FindLemmas.{IsFirst-of_first_between, none_of_first_between}
use Rattle.regex_vm.specs.Found.{first_match, span}
use Rattle.meta.specs.Simulations.{BeginsNowhere, IsLeftmostSpan, MayBeginAt, run_at}
use Rattle.meta.specs.declared.program.Program.{Program}

empty_of : {A B : Type 0} (f : A → B) (o : Option A) → None ≡ option_map f o → o ≡ None
empty_of f None e = refl
empty_of f (Some x) e = absurd (none-some _ e)

value_of :
    {A B : Type 0} (f : A → B) (o : Option A) (y : B) → Some y ≡ option_map f o
    → (x : A) × (o ≡ Some x) × (y ≡ f x)
value_of f None y e = absurd (none-some _ (sym e))
value_of f (Some x) y e = (x, refl, same_Some y (f x) e)

module _ (utf8 : Bool) (p : Program) (hay : List ℕ) where
  -- no match begins in either part
  pub nowhere_on :
      (start at end : ℕ) → BeginsNowhere utf8 p hay start at → BeginsNowhere utf8 p hay at end
      → BeginsNowhere utf8 p hay start end
  nowhere_on start at end before after i low high may =
      ⊎_elim (λ (l : i < at). before i low l may) (λ (g : at ≤ i). after i g high may) (cases_lt i at)

  pub nowhere_yet : (start : ℕ) → BeginsNowhere utf8 p hay start start
  nowhere_yet start i low high may = absurd (omega (arith, low, high))

  pub nowhere_past : (start end : ℕ) → end ≤ start → BeginsNowhere utf8 p hay start end
  nowhere_past start end le i low high may = absurd (omega (arith, low, high, le))

  -- the simulation finds none
  pub nowhere_found :
      (at end : ℕ) → at < end → None ≡ option_map span (first_match p.nfa hay (length hay) at (end - 1))
      → BeginsNowhere utf8 p hay at end
  nowhere_found at end l e i low high may =
      none_of_first_between (run_at p hay) at (end - 1) (empty_of span _ e) i low (omega (arith, high))

  module _ (at end : ℕ) (s : ℕ × ℕ) (l : at < end)
      (e : Some s ≡ option_map span (first_match p.nfa hay (length hay) at (end - 1))) where
    -- it finds a match where one may begin
    pub leftmost_found :
        (start : ℕ) → start ≤ at → BeginsNowhere utf8 p hay start at → MayBeginAt utf8 hay s.0
        → IsLeftmostSpan utf8 p hay start end s
    leftmost_found start le before may =
        let v = value_of span _ s e in
        let m = v.0 in
        let first = IsFirst-of_first_between (run_at p hay) at (end - 1) m v.1 in
        let begins : m.start ≡ s.0 = sym (ap (λ (x : ℕ × ℕ). x.0) v.2) in
        record {
          after = omega (arith, le, first.from, begins);
          before = omega (arith, l, first.to, begins);
          boundary = may;
          trace = m.trace;
          runs = subst (λ i. run_at p hay i ≡ Some m.trace) begins first.here;
          ends = sym (ap (λ (x : ℕ × ℕ). x.1) v.2);
          first =
              nowhere_on start at s.0 before
              (λ i low high may'. first.before i low (omega (arith, high, begins)));
        }

    -- it finds one where none may begin, and goes on after it
    pub nowhere_after : (MayBeginAt utf8 hay s.0 → ⊥) → BeginsNowhere utf8 p hay at (s.0 + 1)
    nowhere_after never i low high may =
        let v = value_of span _ s e in
        let m = v.0 in
        let first = IsFirst-of_first_between (run_at p hay) at (end - 1) m v.1 in
        let begins : m.start ≡ s.0 = sym (ap (λ (x : ℕ × ℕ). x.0) v.2) in
        ⊎_elim (λ (before : i < s.0). first.before i low (omega (arith, before, begins)))
        (λ (here : s.0 ≤ i).
        let same : i ≡ s.0 = omega (arith, here, high) in
        absurd (never (λ t. sym (ap (is_boundary hay) same) ∙ may t)))
        (cases_lt i s.0)
