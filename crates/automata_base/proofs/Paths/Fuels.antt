-- Membership in a list, computed.
use Rattle.std.proofs.Common.{ℕ, ◌≡◌, Bool, true, false, eqb, List, [], ◌∷◌, ◌⊎◌}
use Rattle.std.proofs.Common.{inl, inr, refl, sym, true≢false}
use Rattle.std.proofs.lemmas.Bool.{eqb-true, eqb-false}
use Rattle.automata_base.specs.Lists.{In}
use Rattle.automata_base.specs.Retraced.Computed.{is_in}
use Rattle.std.proofs.lemmas.Bool.{or_cases}
use Rattle.std.proofs.lemmas.Bool.{or_parts}

pub is_in_true : (x : ℕ) (xs : List ℕ) → is_in x xs ≡ true → In x xs
is_in_true x [] e = absurd (true≢false (sym e))
is_in_true x (y ∷ ys) e = go (or_cases (eqb x y) (is_in x ys) e) (is_in_true x ys)
  where
    go : (eqb x y ≡ true) ⊎ (is_in x ys ≡ true) → (is_in x ys ≡ true → In x ys) → In x (y ∷ ys)
    go (inl h) ih = inl (eqb-true x y h)
    go (inr h) ih = inr (ih h)

pub is_in_false : (x : ℕ) (xs : List ℕ) → is_in x xs ≡ false → In x xs → ⊥
is_in_false x [] e i = i
is_in_false x (y ∷ ys) e (inl i) = eqb-false x y (or_parts (eqb x y) (is_in x ys) e).0 i
is_in_false x (y ∷ ys) e (inr i) = is_in_false x ys (or_parts (eqb x y) (is_in x ys) e).1 i

pub is_in_cases : (x : ℕ) (xs : List ℕ) → ((is_in x xs ≡ true) × In x xs) ⊎ ((is_in x xs ≡ false) × (In x xs → ⊥))
is_in_cases x xs = go (is_in x xs) refl
  where
    go : (b : Bool) → is_in x xs ≡ b → ((is_in x xs ≡ true) × In x xs) ⊎ ((is_in x xs ≡ false) × (In x xs → ⊥))
    go true e = inl (e, is_in_true x xs e)
    go false e = inr (e, is_in_false x xs e)
