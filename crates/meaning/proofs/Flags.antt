-- Two sets of patterns with the same members are the same flags.
use Rattle.std.proofs.Common.{ℕ, zero, suc, ◌≡◌, ◌+◌, ◌↔◌, Bool, true, false, List, [], ◌∷◌, Some, length, map, refl}
use Rattle.std.proofs.Common.{sym, ap, ap₂, ◌∙◌, subst, inl, inr, arith, true≢false}
use Rattle.std.specs.Prelude.{slice_get}
use Rattle.automata_base.specs.Haystacks.PatternSet.{has, members, members_from}
use Rattle.automata_base.specs.Lists.{In}
use Rattle.automata_base.proofs.Paths.Orders.{none_some, some_inj}

never : {A : Type 0} → false ≡ true → A
never e = absurd (true≢false (sym e))

-- a member's flag is set
flag_from : (xs : List Bool) (k p : ℕ) → In p (members_from k xs) → (i : ℕ) × (p ≡ k + i) × (has xs i ≡ true)
flag_from [] k p m = absurd m
flag_from (true ∷ xs) k p (inl e) = (0, omega (arith, e), refl)
flag_from (true ∷ xs) k p (inr m) =
    let w = flag_from xs (suc k) p m in (suc w.0, (let e = w.1 in omega (arith, e)), w.2)
flag_from (false ∷ xs) k p m = let w = flag_from xs (suc k) p m in (suc w.0, (let e = w.1 in omega (arith, e)), w.2)

member_from : (xs : List Bool) (k i : ℕ) → has xs i ≡ true → In (k + i) (members_from k xs)
member_from [] k i e = never e
member_from (true ∷ xs) k zero e = inl (omega arith)
member_from (false ∷ xs) k zero e = never e
member_from (true ∷ xs) k (suc i) e =
    let s : suc k + i ≡ k + suc i = omega arith in
    inr (subst (λ v. In v (members_from (suc k) xs)) s (member_from xs (suc k) i e))
member_from (false ∷ xs) k (suc i) e =
    let s : suc k + i ≡ k + suc i = omega arith in
    subst (λ v. In v (members_from (suc k) xs)) s (member_from xs (suc k) i e)

pub is_member : (xs : List Bool) (p : ℕ) → In p (members xs) ↔ (has xs p ≡ true)
is_member xs p = (
  λ m. let w =
      flag_from xs 0 p m in let e : w.0 ≡ p = (let f = w.1 in omega (arith, f)) in subst (λ v. has xs v ≡ true) e w.2,
  λ e. let s : 0 + p ≡ p = omega arith in subst (λ v. In v (members xs)) s (member_from xs 0 p e),
)

pub same_flag : (x y : Bool) → (x ≡ true) ↔ (y ≡ true) → x ≡ y
same_flag true y h = sym (h.0 refl)
same_flag false true h = h.1 refl
same_flag false false h = refl

same_flags : (xs ys : List Bool) → length xs ≡ length ys → ((p : ℕ) → (has xs p ≡ true) ↔ (has ys p ≡ true)) → xs ≡ ys
same_flags [] [] count same = refl
same_flags [] (y ∷ ys) count same = absurd (omega (arith, count))
same_flags (x ∷ xs) [] count same = absurd (omega (arith, count))
same_flags (x ∷ xs) (y ∷ ys) count same =
    ap₂ (λ v w. v ∷ w) (same_flag x y (same 0)) (same_flags xs ys (omega (arith, count)) (λ p. same (suc p)))

-- so a set is determined by its capacity and its members
pub same_set : (xs ys : List Bool) → length xs ≡ length ys → ((p : ℕ) → In p (members xs) ↔ (has ys p ≡ true)) → xs ≡ ys
same_set xs ys count same =
    same_flags xs ys count (λ p. (λ e. (same p).0 ((is_member xs p).1 e), λ e. (is_member xs p).0 ((same p).1 e)))

module _ {X : Type 0} (f : X → Bool) where
  -- the flags of a test over a list
  pub has_map : (xs : List X) (p : ℕ) → (has (map f xs) p ≡ true) ↔ ((x : X) × (slice_get xs p ≡ Some x) × (f x ≡ true))
  has_map xs p = (λ e. there xs p e, λ w. back xs p w.0 w.1 w.2)
    where
      there : (xs : List X) (p : ℕ) → has (map f xs) p ≡ true → (x : X) × (slice_get xs p ≡ Some x) × (f x ≡ true)
      there [] p e = never e
      there (x ∷ xs) zero e = (x, refl, e)
      there (x ∷ xs) (suc p) e = there xs p e

      back : (xs : List X) (p : ℕ) (x : X) → slice_get xs p ≡ Some x → f x ≡ true → has (map f xs) p ≡ true
      back [] p x at e = absurd (none_some at)
      back (y ∷ xs) zero x at e = ap f (some_inj at) ∙ e
      back (y ∷ xs) (suc p) x at e = back xs p x at e
