-- The least keys of a list of states, extended by least paths from the states that these lead to, are least keys, even
-- if only the least of them can be extended.
use Rattle.std.proofs.Common.{ℕ, zero, suc, ◌≡◌, ◌<◌, List, [], ◌∷◌, ◌++◌, ◌⊎◌, Option, Some, None, inl, inr, refl, sym}
use Rattle.std.proofs.Common.{ap, ◌∙◌, subst, arith}
use Rattle.automata_base.specs.Paths.Order.{Before, Upto, Begins, TakesLess, TakesSame}
use Rattle.automata_base.specs.Lists.{In, Sorted, IsListOf, cons_some, pick, From}
use Rattle.std.specs.Prelude.{slice_get}
use Rattle.automata_base.proofs.Paths.Orders.{cons_head, cons_tail, none_some}
use Rattle.automata_determinize.proofs.Paths.Orders.{before_then, before_after, upto_after}
use Rattle.automata_determinize.proofs.Paths.Orders.{before_append, before_upto}
use Rattle.automata_base.proofs.Paths.Orders.{before_irrefl, before_trans}
use Rattle.automata_base.proofs.Paths.Compose.{Carries, Moved, transfer_least}

-- The index of a state among those that are picked.
pub put_nth :
    (o : Option ℕ) (ys : List ℕ) (r : ℕ) → (k : ℕ) × (slice_get ys k ≡ Some r) → (k : ℕ)
    × (slice_get (cons_some o ys) k ≡ Some r)
put_nth None ys r h = h
put_nth (Some x) ys r h = (suc h.0, h.1)

pub in_pick :
    (g : ℕ → Option ℕ) (N : List ℕ) (y r : ℕ) → In y N → g y ≡ Some r → (k : ℕ) × (slice_get (pick g N) k ≡ Some r)
in_pick g [] y r h e = elim h [ ]
in_pick g (x ∷ xs) y r (inl h) e =
    (zero, subst (λ o. slice_get (cons_some o (pick g xs)) zero ≡ Some r) (sym e ∙ ap g h) refl)
in_pick g (x ∷ xs) y r (inr h) e = put_nth (g x) (pick g xs) r (in_pick g xs y r h e)

-- The keys of the others, seen from the picked state at index `k`, whose least key is `p`.
abbrev pub Order3 : (ℕ → List ℕ → Type 0) → ℕ → ℕ → List ℕ → ℕ → Type 0
Order3 P k k' p y =
    ((k < k') × ((other : List ℕ) → P y other → Before p other))
    ⊎ (((k ≡ k') × ((other : List ℕ) → P y other → Upto p other)) ⊎ (k' < k))

abbrev pub Rank : (ℕ → List ℕ → Type 0) → (ℕ → Option ℕ) → List ℕ → List ℕ → ℕ → List ℕ → Type 0
Rank P g N picked k p =
    (y r : ℕ) → In y N → g y ≡ Some r → (k' : ℕ) × (slice_get picked k' ≡ Some r) × Order3 P k k' p y

abbrev pub Found : (ℕ → List ℕ → Type 0) → (ℕ → Option ℕ) → List ℕ → List ℕ → ℕ → ℕ → Type 0
Found P g N picked k r =
    (x : ℕ) × (p : List ℕ) × (g x ≡ Some r) × P x p × Rank P g N picked k p

shift : (P : ℕ → List ℕ → Type 0) (k k' : ℕ) (p : List ℕ) (y : ℕ) → Order3 P k k' p y → Order3 P (suc k) (suc k') p y
shift P k k' p y (inl h) = inl (omega arith, h.1)
shift P k k' p y (inr (inl h)) = inr (inl (ap suc h.0, h.1))
shift P k k' p y (inr (inr h)) = inr (inr (omega arith))

pub found :
    (P : ℕ → List ℕ → Type 0) (g : ℕ → Option ℕ) (N : List ℕ) (k r : ℕ)
    → Sorted P N → slice_get (pick g N) k ≡ Some r → Found P g N (pick g N) k r
found P g [] k r s e = absurd (none_some e)
found P g (x ∷ xs) k r s e = go (g x) refl k e (λ k'. found P g xs k' r s.1)
  where
    go :
        (o : Option ℕ) → g x ≡ o → (k : ℕ) → slice_get (cons_some o (pick g xs)) k ≡ Some r
        → ((k' : ℕ) → slice_get (pick g xs) k' ≡ Some r → Found P g xs (pick g xs) k' r)
        → Found P g (x ∷ xs) (cons_some o (pick g xs)) k r
    go None gx k e ih = (f.0, f.1, f.2, f.3, rank)
      where
        f : Found P g xs (pick g xs) k r
        f = ih k e

        rank : Rank P g (x ∷ xs) (pick g xs) k f.1
        rank y r' (inl i) gy = absurd (none_some (sym gx ∙ ap g (sym i) ∙ gy))
        rank y r' (inr i) gy = f.4 y r' i gy
    go (Some r0) gx zero e ih = (x, s.0.key, gx ∙ e, s.0.has, rank)
      where
        rank : Rank P g (x ∷ xs) (r0 ∷ pick g xs) zero s.0.key
        rank y r' (inl i) gy = (
          zero,
          sym gx ∙ ap g (sym i) ∙ gy,
          inr (inl (refl, λ other h. s.0.least other (subst (λ w. P w other) i h))),
        )
        rank y r' (inr i) gy =
            let w = in_pick g xs y r' i gy in
            (suc w.0, w.1, inl (omega arith, λ other h. s.0.before y other i h))
    go (Some r0) gx (suc k) e ih = (f.0, f.1, f.2, f.3, rank)
      where
        f : Found P g xs (pick g xs) k r
        f = ih k e

        rank : Rank P g (x ∷ xs) (r0 ∷ pick g xs) (suc k) f.1
        rank y r' (inl i) gy = (zero, sym gx ∙ ap g (sym i) ∙ gy, inr (inr (omega arith)))
        rank y r' (inr i) gy =
            let w = f.4 y r' i gy in
            (suc w.0, w.1, shift P k w.0 f.1 y w.2)

abbrev pub Composes :
    (ℕ → List ℕ → Type 0) → (ℕ → Option ℕ) → (ℕ → List ℕ → ℕ → Type 0) → (ℕ → List ℕ → Type 0) → List ℕ → Type 0
Composes P g S P' glue =
    (x r q : ℕ) (p s : List ℕ) → P x p → g x ≡ Some r → S r s q → P' q (p ++ (glue ++ s))

-- A picked state's key followed by a path from there is a key, if no lesser key of another picked state continues to
-- the same state.
abbrev pub ComposesLeast :
    (ℕ → List ℕ → Type 0) → (ℕ → Option ℕ) → (ℕ → List ℕ → ℕ → Type 0) → (ℕ → List ℕ → Type 0) → List ℕ → Type 0
ComposesLeast P g S P' glue =
    (x r q : ℕ) (p s : List ℕ) → P x p → g x ≡ Some r → S r s q
    → ((y r' : ℕ) (p' s' : List ℕ) → P y p' → Before p' p → g y ≡ Some r' → S r' s' q → ⊥)
    → P' q (p ++ (glue ++ s))

-- A key splits into a key of a picked state, none of whose proper prefixes is another picked state's key, and a path.
abbrev pub Divides :
    (ℕ → List ℕ → Type 0) → (ℕ → Option ℕ) → (ℕ → List ℕ → ℕ → Type 0) → (ℕ → List ℕ → Type 0) → List ℕ → Type 0
Divides P g S P' glue =
    (q : ℕ) (key : List ℕ) → P' q key
    → (x r : ℕ) × (p s : List ℕ) × P x p × (g x ≡ Some r) × S r s q × (key ≡ p ++ (glue ++ s))
    × ((y r' : ℕ) (other : List ℕ) → P y other → g y ≡ Some r' → Begins other p → ⊥)

pub compose_least :
    (P : ℕ → List ℕ → Type 0) (g : ℕ → Option ℕ) (S : ℕ → List ℕ → ℕ → Type 0) (P' : ℕ → List ℕ → Type 0)
    (glue : List ℕ) (N xs : List ℕ)
    → ComposesLeast P g S P' glue → Divides P g S P' glue
    → IsListOf P N → IsListOf (From S (pick g N)) xs → IsListOf P' xs
compose_least P g S P' glue N xs h1 h2 n l = transfer_least (From S (pick g N)) P' xs image back l
  where
    back : (q : ℕ) (key : List ℕ) → P' q key → (pre : List ℕ) × From S (pick g N) q pre
    back q key h =
        let d = h2 q key h in
        let w = in_pick g N d.0 d.1 (n.0 d.0 d.2 d.4) d.5 in
        (w.0 ∷ d.3, (d.1, w.1, d.6))

    carries :
        (k r : ℕ) (s : List ℕ) → (f : Found P g N (pick g N) k r)
        → Carries (From S (pick g N)) P' (k ∷ s) (f.1 ++ (glue ++ s))
    carries k r s f q' other h' =
        let d = h2 q' other h' in
        let w = f.4 d.0 d.1 (n.0 d.0 d.2 d.4) d.5 in
        (w.0 ∷ d.3, (d.1, w.1, d.6), before d w.0 w.2, upto d w.0 w.2)
      where
        D : Type 0
        D =
            (x r : ℕ) × (p s : List ℕ) × P x p × (g x ≡ Some r) × S r s q' × (other ≡ p ++ (glue ++ s))
            × ((y r' : ℕ) (other : List ℕ) → P y other → g y ≡ Some r' → Begins other p → ⊥)

        before :
            (d : D) → (k' : ℕ) → Order3 P k k' f.1 d.0 → Before (k ∷ s) (k' ∷ d.3) → Before (f.1 ++ (glue ++ s)) other
        before d k' o b = subst (λ w. Before (f.1 ++ (glue ++ s)) w) (sym d.7) (go o b)
          where
            apart : Begins f.1 d.2 → ⊥
            apart = d.8 f.0 r f.1 f.3 f.2

            go : Order3 P k k' f.1 d.0 → Before (k ∷ s) (k' ∷ d.3) → Before (f.1 ++ (glue ++ s)) (d.2 ++ (glue ++ d.3))
            go (inl o) b = before_then f.1 d.2 (glue ++ s) (glue ++ d.3) (o.1 d.2 d.4) apart
            go (inr (inl o)) (TakesLess b) = absurd (omega (arith, o.0, b))
            go (inr (inl o)) (TakesSame e b) =
                before_after f.1 d.2 (glue ++ s) (glue ++ d.3) (o.1 d.2 d.4) apart (before_append glue s d.3 b)
            go (inr (inr o)) (TakesLess b) = absurd (omega (arith, o, b))
            go (inr (inr o)) (TakesSame e b) = absurd (omega (arith, o, e))

        upto :
            (d : D) → (k' : ℕ) → Order3 P k k' f.1 d.0 → Upto (k ∷ s) (k' ∷ d.3) → Upto (f.1 ++ (glue ++ s)) other
        upto d k' o (inr b) = inr (before d k' o b)
        upto d k' o (inl e) = subst (λ w. Upto (f.1 ++ (glue ++ s)) w) (sym d.7) (go o (cons_head e) (cons_tail e))
          where
            apart : Begins f.1 d.2 → ⊥
            apart = d.8 f.0 r f.1 f.3 f.2

            go : Order3 P k k' f.1 d.0 → k ≡ k' → s ≡ d.3 → Upto (f.1 ++ (glue ++ s)) (d.2 ++ (glue ++ d.3))
            go (inl o) e t = absurd (omega (arith, o.0, e))
            go (inr (inl o)) e t =
                upto_after f.1 d.2 (glue ++ s) (glue ++ d.3) (o.1 d.2 d.4) apart (inl (ap (λ w. glue ++ w) t))
            go (inr (inr o)) e t = absurd (omega (arith, o, e))

    image : Moved (From S (pick g N)) P'
    image q [] h least = absurd h
    image q (k ∷ s) h least = (f.1 ++ (glue ++ s), h1 f.0 h.0 q f.1 s f.3 f.2 h.2 none, carries k h.0 s f)
      where
        f : Found P g N (pick g N) k h.0
        f = found P g N k h.0 n.1 h.1

        none : (y r' : ℕ) (p' s' : List ℕ) → P y p' → Before p' f.1 → g y ≡ Some r' → S r' s' q → ⊥
        none y r' p' s' py b gy sy = go w.2
          where
            w : (k' : ℕ) × (slice_get (pick g N) k' ≡ Some r') × Order3 P k k' f.1 y
            w = f.4 y r' (n.0 y p' py) gy

            go : Order3 P k w.0 f.1 y → ⊥
            go (inl o) = before_irrefl p' (before_trans p' f.1 p' b (o.1 p' py))
            go (inr (inl o)) = before_irrefl p' (before_upto p' f.1 p' b (o.1 p' py))
            go (inr (inr o)) = before_irrefl (w.0 ∷ s')
                (before_upto (w.0 ∷ s') (k ∷ s) (w.0 ∷ s') (TakesLess o) (least (w.0 ∷ s') (r', w.1, sy)))

pub compose :
    (P : ℕ → List ℕ → Type 0) (g : ℕ → Option ℕ) (S : ℕ → List ℕ → ℕ → Type 0) (P' : ℕ → List ℕ → Type 0)
    (glue : List ℕ) (N xs : List ℕ)
    → Composes P g S P' glue → Divides P g S P' glue
    → IsListOf P N → IsListOf (From S (pick g N)) xs → IsListOf P' xs
compose P g S P' glue N xs h1 h2 n l =
    compose_least P g S P' glue N xs (λ x r q p s k picked on none. h1 x r q p s k picked on) h2 n l
