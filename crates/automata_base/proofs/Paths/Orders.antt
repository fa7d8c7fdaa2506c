-- Lists in order, and what two equal lists or options have.
use Rattle.std.proofs.Common.{Option, Some, None, ℕ, ◌≡◌, ◌<◌, List, [], ◌∷◌, sym}
use Rattle.std.proofs.Common.{◌∙◌, subst, lt_trans, lt_irrefl}
use Rattle.automata_base.specs.Paths.Order.{Before, EndsFirst, TakesLess, TakesSame}

pub before_irrefl : (xs : List ℕ) → Before xs xs → ⊥
before_irrefl [] h = elim h [ ]
before_irrefl (x ∷ xs) (TakesLess h) = lt_irrefl x h
before_irrefl (x ∷ xs) (TakesSame e h) = before_irrefl xs h

pub before_trans : (xs ys zs : List ℕ) → Before xs ys → Before ys zs → Before xs zs
before_trans [] [] zs h k = elim h [ ]
before_trans [] (y ∷ ys) [] h k = elim k [ ]
before_trans [] (y ∷ ys) (z ∷ zs) h k = EndsFirst
before_trans (x ∷ xs) [] zs h k = elim h [ ]
before_trans (x ∷ xs) (y ∷ ys) [] h k = elim k [ ]
before_trans (x ∷ xs) (y ∷ ys) (z ∷ zs) (TakesLess h) (TakesLess k) = TakesLess (lt_trans h k)
before_trans (x ∷ xs) (y ∷ ys) (z ∷ zs) (TakesLess h) (TakesSame f k) = TakesLess (subst (λ w. x < w) f h)
before_trans (x ∷ xs) (y ∷ ys) (z ∷ zs) (TakesSame e h) (TakesLess k) = TakesLess (subst (λ w. w < z) (sym e) k)
before_trans (x ∷ xs) (y ∷ ys) (z ∷ zs) (TakesSame e h) (TakesSame f k) =
    TakesSame (e ∙ f) (before_trans xs ys zs h k)

pub cons_head : {x y : ℕ} {xs ys : List ℕ} → ◌≡◌ {A = List ℕ} (x ∷ xs) (y ∷ ys) → x ≡ y
cons_head e = cc

pub cons_tail : {x y : ℕ} {xs ys : List ℕ} → ◌≡◌ {A = List ℕ} (x ∷ xs) (y ∷ ys) → xs ≡ ys
cons_tail e = cc

pub nil_cons : {x : ℕ} {xs : List ℕ} → ◌≡◌ {A = List ℕ} [] (x ∷ xs) → ⊥
nil_cons e = cc

pub some_inj : {A : Type 0} {x y : A} → ◌≡◌ {A = Option A} (Some x) (Some y) → x ≡ y
some_inj e = cc

pub none_some : {A : Type 0} {x : A} → ◌≡◌ {A = Option A} None (Some x) → ⊥
none_some e = cc

pub some_none : {A : Type 0} {x : A} → ◌≡◌ {A = Option A} (Some x) None → ⊥
some_none e = cc
