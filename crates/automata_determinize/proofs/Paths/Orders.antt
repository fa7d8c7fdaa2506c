-- The first list is less at a difference, and so less whatever follows.
use Rattle.std.proofs.lemmas.Bool.{cases_lt}
use Rattle.std.proofs.Common.{◌≤◌, ℕ, ◌≡◌, ◌<◌, List, [], ◌∷◌, ◌++◌, ◌⊎◌, inl, inr, refl, sym, ap₂}
use Rattle.std.proofs.Common.{subst, ⊎_elim, eq-or-lt_of_le}
use Rattle.automata_base.specs.Paths.Order.{Before, Upto, Begins, EndsFirst, TakesLess, TakesSame}
use Rattle.automata_base.proofs.Paths.Orders.{before_trans}

-- The first list is less at a difference, and so less whatever follows.
abbrev pub Under : List ℕ → List ℕ → Type 0
Under [] ys = ⊥
Under (x ∷ xs) [] = ⊥
Under (x ∷ xs) (y ∷ ys) = (x < y) ⊎ ((x ≡ y) × Under xs ys)

pub under_append : (xs ys a b : List ℕ) → Under xs ys → Before (xs ++ a) (ys ++ b)
under_append [] ys a b h = elim h [ ]
under_append (x ∷ xs) [] a b h = elim h [ ]
under_append (x ∷ xs) (y ∷ ys) a b (inl h) = TakesLess h
under_append (x ∷ xs) (y ∷ ys) a b (inr h) = TakesSame h.0 (under_append xs ys a b h.1)

pub before_append : (xs a b : List ℕ) → Before a b → Before (xs ++ a) (xs ++ b)
before_append [] a b h = h
before_append (x ∷ xs) a b h = TakesSame refl (before_append xs a b h)

pub before_cases : (xs ys : List ℕ) → Before xs ys → Under xs ys ⊎ Begins xs ys
before_cases [] [] h = elim h [ ]
before_cases [] (y ∷ ys) h = inr (y, ys, refl)
before_cases (x ∷ xs) [] h = elim h [ ]
before_cases (x ∷ xs) (y ∷ ys) (TakesLess h) = inl (inl h)
before_cases (x ∷ xs) (y ∷ ys) (TakesSame e h) = go (before_cases xs ys h)
  where
    go : Under xs ys ⊎ Begins xs ys → Under (x ∷ xs) (y ∷ ys) ⊎ Begins (x ∷ xs) (y ∷ ys)
    go (inl u) = inl (inr (e, u))
    go (inr b) = inr (b.0, b.1, ap₂ ◌∷◌ (sym e) b.2)

-- If one of two keys is less and not a prefix of the other, it stays less whatever follows both.
pub before_then : (p q a b : List ℕ) → Before p q → (Begins p q → ⊥) → Before (p ++ a) (q ++ b)
before_then p q a b h apart = go (before_cases p q h)
  where
    go : Under p q ⊎ Begins p q → Before (p ++ a) (q ++ b)
    go (inl u) = under_append p q a b u
    go (inr s) = absurd (apart s)

pub before_after : (p q a b : List ℕ) → Upto p q → (Begins p q → ⊥) → Before a b → Before (p ++ a) (q ++ b)
before_after p q a b (inl e) apart h = subst (λ w. Before (p ++ a) (w ++ b)) e (before_append p a b h)
before_after p q a b (inr u) apart h = before_then p q a b u apart

pub upto_after : (p q a b : List ℕ) → Upto p q → (Begins p q → ⊥) → Upto a b → Upto (p ++ a) (q ++ b)
upto_after p q a b (inl e) apart (inl f) = inl (ap₂ ◌++◌ e f)
upto_after p q a b (inl e) apart (inr f) = inr (before_after p q a b (inl e) apart f)
upto_after p q a b (inr u) apart f = inr (before_then p q a b u apart)

pub before_total : (xs ys : List ℕ) → Before xs ys ⊎ Upto ys xs
before_total [] [] = inr (inl refl)
before_total [] (y ∷ ys) = inl EndsFirst
before_total (x ∷ xs) [] = inr (inr EndsFirst)
before_total (x ∷ xs) (y ∷ ys) = go (cases_lt x y) (before_total xs ys)
  where
    eq : x ≡ y → Before xs ys ⊎ Upto ys xs → Before (x ∷ xs) (y ∷ ys) ⊎ Upto (y ∷ ys) (x ∷ xs)
    eq e (inl h) = inl (TakesSame e h)
    eq e (inr (inl h)) = inr (inl (ap₂ ◌∷◌ (sym e) h))
    eq e (inr (inr h)) = inr (inr (TakesSame (sym e) h))

    go : x < y ⊎ y ≤ x → Before xs ys ⊎ Upto ys xs → Before (x ∷ xs) (y ∷ ys) ⊎ Upto (y ∷ ys) (x ∷ xs)
    go (inl h) t = inl (TakesLess h)
    go (inr h) t =
        ⊎_elim (λ (e : y ≡ x). eq (sym e) t) (λ (l : y < x). inr (inr (TakesLess l))) (eq-or-lt_of_le h)

pub under_append_left : (xs ys a : List ℕ) → Under xs ys → Before (xs ++ a) ys
under_append_left [] ys a h = elim h [ ]
under_append_left (x ∷ xs) [] a h = elim h [ ]
under_append_left (x ∷ xs) (y ∷ ys) a (inl h) = TakesLess h
under_append_left (x ∷ xs) (y ∷ ys) a (inr h) = TakesSame h.0 (under_append_left xs ys a h.1)

pub before_begin : (xs : List ℕ) (z : ℕ) (zs : List ℕ) → Before xs (xs ++ (z ∷ zs))
before_begin [] z zs = EndsFirst
before_begin (x ∷ xs) z zs = TakesSame refl (before_begin xs z zs)

pub upto_before : (xs ys zs : List ℕ) → Upto xs ys → Before ys zs → Before xs zs
upto_before xs ys zs (inl e) k = subst (λ w. Before w zs) (sym e) k
upto_before xs ys zs (inr h) k = before_trans xs ys zs h k

pub before_upto : (xs ys zs : List ℕ) → Before xs ys → Upto ys zs → Before xs zs
before_upto xs ys zs k (inl e) = subst (λ w. Before xs w) e k
before_upto xs ys zs k (inr h) = before_trans xs ys zs k h
