-- Parts of a list of states in the order of least keys.
use Rattle.std.proofs.Common.{ℕ, ◌≡◌, List, [], ◌∷◌, Option, Some, None, inl, inr, refl, sym, ap, ◌∙◌, subst}
use Rattle.automata_base.specs.Paths.Order.{Before}
use Rattle.automata_base.specs.Lists.{In, Sorted, IsListOf, cons_some, pick}

put_in : (o : Option ℕ) (ys : List ℕ) (r : ℕ) → In r ys → In r (cons_some o ys)
put_in None ys r h = h
put_in (Some x) ys r h = inr h

pub picked_in : (g : ℕ → Option ℕ) (N : List ℕ) (y r : ℕ) → In y N → g y ≡ Some r → In r (pick g N)
picked_in g [] y r h e = elim h [ ]
picked_in g (x ∷ xs) y r (inl h) e = subst (λ o. In r (cons_some o (pick g xs))) (sym e ∙ ap g h) (inl refl)
picked_in g (x ∷ xs) y r (inr h) e = put_in (g x) (pick g xs) r (picked_in g xs y r h e)

pub in_picked : (g : ℕ → Option ℕ) (N : List ℕ) (r : ℕ) → In r (pick g N) → (y : ℕ) × In y N × (g y ≡ Some r)
in_picked g [] r h = absurd h
in_picked g (x ∷ xs) r h = go (g x) refl h (in_picked g xs r)
  where
    go :
        (o : Option ℕ) → g x ≡ o → In r (cons_some o (pick g xs))
        → (In r (pick g xs) → (y : ℕ) × In y xs × (g y ≡ Some r))
        → (y : ℕ) × In y (x ∷ xs) × (g y ≡ Some r)
    go None e h ih = let w = ih h in (w.0, inr w.1, w.2)
    go (Some r0) e (inl h) ih = (x, inl refl, e ∙ ap Some (sym h))
    go (Some r0) e (inr h) ih = let w = ih h in (w.0, inr w.1, w.2)

abbrev pub Sifted : (ℕ → Option ℕ) → (ℕ → List ℕ → Type 0) → ℕ → List ℕ → Type 0
Sifted g P q key = (g q ≡ Some q) × P q key

abbrev pub IsSieve : (ℕ → Option ℕ) → Type 0
IsSieve g = (q r : ℕ) → g q ≡ Some r → q ≡ r

sift_sorted :
    (P : ℕ → List ℕ → Type 0) (g : ℕ → Option ℕ) (xs : List ℕ)
    → IsSieve g → Sorted P xs → Sorted (Sifted g P) (pick g xs)
sift_sorted P g [] f s = tt
sift_sorted P g (x ∷ xs) f s = go (g x) refl (sift_sorted P g xs f s.1)
  where
    go : (o : Option ℕ) → g x ≡ o → Sorted (Sifted g P) (pick g xs) → Sorted (Sifted g P) (cons_some o (pick g xs))
    go None e ih = ih
    go (Some r) e ih = subst (λ w. Sorted (Sifted g P) (w ∷ pick g xs)) (f x r e) here
      where
        later :
            (y : ℕ) (other : List ℕ) → In y (pick g xs) → Sifted g P y other → Before s.0.key other
        later y other i h =
            let w = in_picked g xs y i in s.0.before y other (subst (λ v. In v xs) (f w.0 y w.2) w.1) h.1

        here : Sorted (Sifted g P) (x ∷ pick g xs)
        here = (
          record {
            key = s.0.key;
            has = (e ∙ ap Some (sym (f x r e)), s.0.has);
            least = λ other h. s.0.least other h.1;
            before = later;
          },
          ih,
        )

pub sift :
    (P : ℕ → List ℕ → Type 0) (g : ℕ → Option ℕ) (xs : List ℕ)
    → IsSieve g → IsListOf P xs → IsListOf (Sifted g P) (pick g xs)
sift P g xs f l = (λ q key h. picked_in g xs q q (l.0 q key h.1) h.0, sift_sorted P g xs f l.1)

same_sorted :
    (P P' : ℕ → List ℕ → Type 0) (xs : List ℕ)
    → ((q : ℕ) (key : List ℕ) → P q key → P' q key) → ((q : ℕ) (key : List ℕ) → P' q key → P q key)
    → Sorted P xs → Sorted P' xs
same_sorted P P' [] f g s = tt
same_sorted P P' (x ∷ xs) f g s = (
  record {
    key = s.0.key;
    has = f x s.0.key s.0.has;
    least = λ other h. s.0.least other (g x other h);
    before = λ y other i h. s.0.before y other i (g y other h);
  },
  same_sorted P P' xs f g s.1,
)

-- Equivalent keys have the same lists.
pub same :
    (P P' : ℕ → List ℕ → Type 0) (xs : List ℕ)
    → ((q : ℕ) (key : List ℕ) → P q key → P' q key) → ((q : ℕ) (key : List ℕ) → P' q key → P q key)
    → IsListOf P xs → IsListOf P' xs
same P P' xs f g l = (λ q key h. l.0 q key (g q key h), same_sorted P P' xs f g l.1)
