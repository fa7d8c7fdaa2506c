-- The order, the equality and the prefix relation of lists as one comparison.
use Rattle.std.proofs.Common.{ℕ, ◌≡◌, ◌<◌, List, [], ◌∷◌, ◌++◌, ◌⊎◌, ◌↔◌, inl, inr, refl, sym, ap₂, subst, arith}
use Rattle.automata_base.specs.Paths.Order.{Before, Begins, EndsFirst, TakesLess, TakesSame}

-- Compares two lists: `E` holds if they are equal, `B` if the first is a proper prefix of the second, and `U` if it is
-- less at the first difference.
abbrev pub Compares : (E B U : Type 0) → List ℕ → List ℕ → Type 0
Compares E B U [] [] = E
Compares E B U [] (y ∷ ys) = B
Compares E B U (x ∷ xs) [] = ⊥
Compares E B U (x ∷ xs) (y ∷ ys) = (U × (x < y)) ⊎ ((x ≡ y) × Compares E B U xs ys)

pub both_ways : {P Q R : Type 0} → P ↔ Q → Q ↔ R → P ↔ R
both_ways a b = ((λ p. b.0 (a.0 p)), (λ r. a.1 (b.1 r)))

pub other_way : {P Q : Type 0} → P ↔ Q → Q ↔ P
other_way a = (a.1, a.0)

-- Equal heads do not decide a comparison.
pub same_head :
    (E B U : Type 0) (x y : ℕ) (a b : List ℕ) → x ≡ y → Compares E B U (x ∷ a) (y ∷ b) ↔ Compares E B U a b
same_head E B U x y a b e = (to, (λ c. inr (e, c)))
  where
    to : Compares E B U (x ∷ a) (y ∷ b) → Compares E B U a b
    to (inl h) = absurd (omega (arith, h.1, e))
    to (inr h) = h.1

pub with_equal :
    (E B U P : Type 0) (p q a b : List ℕ) → p ≡ a → q ≡ b → P ↔ Compares E B U a b → P ↔ Compares E B U p q
with_equal E B U P p q a b e f h =
    subst (λ v. P ↔ Compares E B U v q) (sym e) (subst (λ v. P ↔ Compares E B U a v) (sym f) h)

-- The order of lists as a comparison.
abbrev pub IsBefore : List ℕ → List ℕ → Type 0
IsBefore xs ys = Compares ⊥ (Unit {0}) (Unit {0}) xs ys

pub before_to : (xs ys : List ℕ) → Before xs ys → IsBefore xs ys
before_to [] [] h = elim h [ ]
before_to [] (y ∷ ys) h = tt
before_to (x ∷ xs) [] h = elim h [ ]
before_to (x ∷ xs) (y ∷ ys) (TakesLess h) = inl (tt, h)
before_to (x ∷ xs) (y ∷ ys) (TakesSame e h) = inr (e, before_to xs ys h)

pub before_from : (xs ys : List ℕ) → IsBefore xs ys → Before xs ys
before_from [] [] h = absurd h
before_from [] (y ∷ ys) h = EndsFirst
before_from (x ∷ xs) [] h = absurd h
before_from (x ∷ xs) (y ∷ ys) (inl h) = TakesLess h.1
before_from (x ∷ xs) (y ∷ ys) (inr h) = TakesSame h.0 (before_from xs ys h.1)

-- Equality as a comparison.
abbrev pub IsEqual : List ℕ → List ℕ → Type 0
IsEqual xs ys = Compares (Unit {0}) ⊥ ⊥ xs ys

pub equal_to : (xs ys : List ℕ) → xs ≡ ys → IsEqual xs ys
equal_to xs ys e = subst (λ v. IsEqual xs v) e (itself xs)
  where
    itself : (xs : List ℕ) → IsEqual xs xs
    itself [] = tt
    itself (x ∷ xs) = inr (refl, itself xs)

pub equal_from : (xs ys : List ℕ) → IsEqual xs ys → xs ≡ ys
equal_from [] [] h = refl
equal_from [] (y ∷ ys) h = absurd h
equal_from (x ∷ xs) [] h = absurd h
equal_from (x ∷ xs) (y ∷ ys) (inl h) = absurd h.0
equal_from (x ∷ xs) (y ∷ ys) (inr h) = ap₂ ◌∷◌ h.0 (equal_from xs ys h.1)

-- The prefix relation as a comparison.
abbrev pub IsPrefix : List ℕ → List ℕ → Type 0
IsPrefix xs ys = Compares (Unit {0}) (Unit {0}) ⊥ xs ys

pub head_to : (xs rest ys : List ℕ) → ys ≡ xs ++ rest → IsPrefix xs ys
head_to xs rest ys e = subst (λ v. IsPrefix xs v) (sym e) (itself xs rest)
  where
    itself : (xs rest : List ℕ) → IsPrefix xs (xs ++ rest)
    itself [] [] = tt
    itself [] (y ∷ rest) = tt
    itself (x ∷ xs) rest = inr (refl, itself xs rest)

pub head_from : (xs ys : List ℕ) → IsPrefix xs ys → (rest : List ℕ) × (ys ≡ xs ++ rest)
head_from [] ys h = (ys, refl)
head_from (x ∷ xs) [] h = absurd h
head_from (x ∷ xs) (y ∷ ys) (inl h) = absurd h.0
head_from (x ∷ xs) (y ∷ ys) (inr h) =
    let c = head_from xs ys h.1 in (c.0, ap₂ ◌∷◌ (sym h.0) c.1)

-- The proper prefix relation as a comparison.
abbrev pub IsBeginning : List ℕ → List ℕ → Type 0
IsBeginning xs ys = Compares ⊥ (Unit {0}) ⊥ xs ys

pub begins_to : (xs ys : List ℕ) → Begins xs ys → IsBeginning xs ys
begins_to xs ys h = subst (λ v. IsBeginning xs v) (sym h.2) (itself xs h.0 h.1)
  where
    itself : (xs : List ℕ) (z : ℕ) (zs : List ℕ) → IsBeginning xs (xs ++ (z ∷ zs))
    itself [] z zs = tt
    itself (x ∷ xs) z zs = inr (refl, itself xs z zs)

pub begins_from : (xs ys : List ℕ) → IsBeginning xs ys → Begins xs ys
begins_from [] [] h = absurd h
begins_from [] (y ∷ ys) h = (y, ys, refl)
begins_from (x ∷ xs) [] h = absurd h
begins_from (x ∷ xs) (y ∷ ys) (inl h) = absurd h.0
begins_from (x ∷ xs) (y ∷ ys) (inr h) =
    let c = begins_from xs ys h.1 in (c.0, c.1, ap₂ ◌∷◌ (sym h.0) c.2)
