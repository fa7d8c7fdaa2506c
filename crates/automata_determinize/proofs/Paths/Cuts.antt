-- What `MatchKind::LeftmostFirst` cuts.
use Rattle.std.proofs.Common.{ℕ, ◌≡◌, List, [], ◌∷◌, ◌⊎◌, Option, Some, None, inl, inr, refl, sym, ap, ◌∙◌, subst}
use Rattle.std.proofs.Common.{⊎_elim}
use Rattle.automata_base.specs.Paths.Order.{Before, Upto}
use Rattle.automata_base.specs.Lists.{In, Sorted, IsListOf}
use Rattle.automata_base.specs.Nfas.Nfa.{Nfa, accepts}
use Rattle.automata_base.proofs.Paths.Orders.{some_inj, none_some, before_irrefl}
use Rattle.automata_determinize.proofs.Paths.Orders.{before_upto}

abbrev pub stop_at : Option ℕ → ℕ → List ℕ → List ℕ
stop_at None q rest = q ∷ rest
stop_at (Some p) q rest = []

-- The states before the first match state.
abbrev pub front : Nfa → List ℕ → List ℕ
front n [] = []
front n (q ∷ xs) = stop_at (accepts n q) q (front n xs)

abbrev pub first_of_two : Option ℕ → ℕ → Option ℕ → Option ℕ
first_of_two None q rest = rest
first_of_two (Some p) q rest = Some q

-- The first match state.
abbrev pub leader : Nfa → List ℕ → Option ℕ
leader n [] = None
leader n (q ∷ xs) = first_of_two (accepts n q) q (leader n xs)

pub front_in : (n : Nfa) (xs : List ℕ) (y : ℕ) → In y (front n xs) → In y xs
front_in n [] y h = h
front_in n (q ∷ xs) y h = go (accepts n q) h (front_in n xs y)
  where
    go : (o : Option ℕ) → In y (stop_at o q (front n xs)) → (In y (front n xs) → In y xs) → In y (q ∷ xs)
    go None (inl h) ih = inl h
    go None (inr h) ih = inr (ih h)
    go (Some p) h ih = absurd h

pub leader_in : (n : Nfa) (xs : List ℕ) (m : ℕ) → leader n xs ≡ Some m → In m xs
leader_in n [] m h = absurd (none_some h)
leader_in n (q ∷ xs) m h = go (accepts n q) h (leader_in n xs m)
  where
    go : (o : Option ℕ) → first_of_two o q (leader n xs) ≡ Some m → (leader n xs ≡ Some m → In m xs) → In m (q ∷ xs)
    go None h ih = inr (ih h)
    go (Some p) h ih = inl (sym (some_inj h))

pub leader_accepts : (n : Nfa) (xs : List ℕ) (m : ℕ) → leader n xs ≡ Some m → (p : ℕ) × (accepts n m ≡ Some p)
leader_accepts n [] m h = absurd (none_some h)
leader_accepts n (q ∷ xs) m h = go (accepts n q) refl h (leader_accepts n xs m)
  where
    go :
        (o : Option ℕ) → accepts n q ≡ o → first_of_two o q (leader n xs) ≡ Some m
        → (leader n xs ≡ Some m → (p : ℕ) × (accepts n m ≡ Some p)) → (p : ℕ) × (accepts n m ≡ Some p)
    go None e h ih = ih h
    go (Some p) e h ih = (p, ap (λ v. accepts n v) (sym (some_inj h)) ∙ e)

-- Without a match state, nothing is cut.
pub no_leader : (n : Nfa) (xs : List ℕ) → leader n xs ≡ None → front n xs ≡ xs
no_leader n [] h = refl
no_leader n (q ∷ xs) h = go (accepts n q) h (no_leader n xs)
  where
    go :
        (o : Option ℕ) → first_of_two o q (leader n xs) ≡ None → (leader n xs ≡ None → front n xs ≡ xs)
        → stop_at o q (front n xs) ≡ q ∷ xs
    go None h ih = ap (λ v. q ∷ v) (ih h)
    go (Some p) h ih = absurd (none_some (sym h))

pub no_leader_in : (n : Nfa) (xs : List ℕ) (y p : ℕ) → leader n xs ≡ None → In y xs → accepts n y ≡ Some p → ⊥
no_leader_in n [] y p h i a = i
no_leader_in n (q ∷ xs) y p h i a = go (accepts n q) refl h i (no_leader_in n xs y p)
  where
    go :
        (o : Option ℕ) → accepts n q ≡ o → first_of_two o q (leader n xs) ≡ None → In y (q ∷ xs)
        → (leader n xs ≡ None → In y xs → accepts n y ≡ Some p → ⊥) → ⊥
    go None e h (inl i) ih = none_some (sym e ∙ (ap (λ v. accepts n v) (sym i) ∙ a))
    go None e h (inr i) ih = ih h i a
    go (Some p) e h i ih = none_some (sym h)

-- The first match state's least key comes before the keys of all states after it, and the states before it have the
-- lesser keys.
abbrev pub Leads_to : Nfa → (ℕ → List ℕ → Type 0) → List ℕ → ℕ → Type 0
Leads_to n P xs m =
    (a : List ℕ) × P m a × ((p : ℕ) × (accepts n m ≡ Some p))
    × Sorted (λ q key. P q key × Before key a) (front n xs)
    × ((q : ℕ) → In q xs → In q (front n xs) ⊎ ((key : List ℕ) → P q key → Upto a key))
    × ((q p : ℕ) (key : List ℕ) → In q xs → accepts n q ≡ Some p → P q key → Upto a key)

leader_sorted :
    (n : Nfa) (P : ℕ → List ℕ → Type 0) (xs : List ℕ) (m : ℕ) → Sorted P xs → leader n xs ≡ Some m → Leads_to n P xs m
leader_sorted n P [] m s h = absurd (none_some h)
leader_sorted n P (x ∷ xs) m s h = go (accepts n x) refl h (leader_sorted n P xs m s.1)
  where
    go :
        (o : Option ℕ) → accepts n x ≡ o → (g : first_of_two o x (leader n xs) ≡ Some m)
        → (leader n xs ≡ Some m → Leads_to n P xs m)
        → (a : List ℕ) × P m a × ((p : ℕ) × (accepts n m ≡ Some p))
        × Sorted (λ q key. P q key × Before key a) (stop_at o x (front n xs))
        × ((q : ℕ) → In q (x ∷ xs) → In q (stop_at o x (front n xs)) ⊎ ((key : List ℕ) → P q key → Upto a key))
        × ((q p : ℕ) (key : List ℕ) → In q (x ∷ xs) → accepts n q ≡ Some p → P q key → Upto a key)
    go (Some p) e g ih = (
      s.0.key,
      subst (λ v. P v s.0.key) (some_inj g) s.0.has,
      (p, ap (λ v. accepts n v) (sym (some_inj g)) ∙ e),
      tt,
      λ q i. inr (all q i),
      λ q p key i a h. all q i key h,
    )
      where
        all : (q : ℕ) → In q (x ∷ xs) → (key : List ℕ) → P q key → Upto s.0.key key
        all q (inl i) key h = s.0.least key (subst (λ v. P v key) i h)
        all q (inr i) key h = inr (s.0.before q key i h)
    go None e g ih = (w.0, w.1, w.2, sorted, placed, matches)
      where
        w : Leads_to n P xs m
        w = ih g

        sorted : Sorted (λ q key. P q key × Before key w.0) (x ∷ front n xs)
        sorted = (
          record {
            key = s.0.key;
            has = (s.0.has, s.0.before m w.0 (leader_in n xs m g) w.1);
            least = λ other h. s.0.least other h.0;
            before = λ y other i h. s.0.before y other (front_in n xs y i) h.0;
          },
          w.3,
        )

        placed : (q : ℕ) → In q (x ∷ xs) → In q (x ∷ front n xs) ⊎ ((key : List ℕ) → P q key → Upto w.0 key)
        placed q (inl i) = inl (inl i)
        placed q (inr i) =
            ⊎_elim (λ (k : In q (front n xs)). inl (inr k)) (λ (k : (key : List ℕ) → P q key → Upto w.0 key). inr k)
            (w.4 q i)

        matches : (q p : ℕ) (key : List ℕ) → In q (x ∷ xs) → accepts n q ≡ Some p → P q key → Upto w.0 key
        matches q p key (inl i) a h = absurd (none_some (sym e ∙ (ap (λ v. accepts n v) (sym i) ∙ a)))
        matches q p key (inr i) a h = w.5 q p key i a h

abbrev pub Led : Nfa → (ℕ → List ℕ → Type 0) → List ℕ → ℕ → Type 0
Led n P xs m =
    (a : List ℕ) × P m a × ((p : ℕ) × (accepts n m ≡ Some p))
    × ((q p : ℕ) (key : List ℕ) → accepts n q ≡ Some p → P q key → Upto a key)
    × IsListOf (λ q key. P q key × Before key a) (front n xs)

pub led :
    (n : Nfa) (P : ℕ → List ℕ → Type 0) (xs : List ℕ) (m : ℕ) → IsListOf P xs → leader n xs ≡ Some m → Led n P xs m
led n P xs m l h =
    (w.0, w.1, w.2, λ q p key a k. w.5 q p key (l.0 q key k) a k, (placed, w.3))
  where
    w : Leads_to n P xs m
    w = leader_sorted n P xs m l.1 h

    placed : (q : ℕ) (key : List ℕ) → P q key × Before key w.0 → In q (front n xs)
    placed q key k = ⊎_elim (λ (i : In q (front n xs)). i)
        (λ (f : (key : List ℕ) → P q key → Upto w.0 key). absurd
        (before_irrefl key (before_upto key w.0 key k.1 (f key k.0))))
        (w.4 q (l.0 q key k.0))
