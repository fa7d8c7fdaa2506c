-- What is read from a decided list: the targets of its byte states and the patterns of its match states.
use Rattle.std.proofs.Common.{ℕ, zero, suc, ◌≡◌, cond, List, [], ◌∷◌, ◌++◌, ◌⊎◌, Option, Some, None, inl, inr, refl}
use Rattle.std.proofs.Common.{sym, ap, ap₂, ◌∙◌, subst, ⊎_elim, append-nil}
use Rattle.automata_base.specs.Paths.Order.{Upto, Begins}
use Rattle.automata_base.specs.Lists.{In, Sorted, IsListOf, cons_some, pick, From}
use Rattle.automata_base.specs.Nfas.Nfa.{Nfa, Node, Split, Assert, Read, Accept, node, takes, takes_at, accepts}
use Rattle.automata_base.specs.Nfas.Nfa.{accepts_at, ends, ends_at}
use Rattle.automata_base.specs.Paths.Paths.{Tape, IsPath}
use Rattle.automata_base.specs.Powersets.Cuts.{cut, cut_after, IsOnce}
use Rattle.automata_base.proofs.Paths.Orders.{some_inj, none_some, before_irrefl, before_trans}
use Rattle.automata_determinize.proofs.Paths.Places.{accepts_ends, match_last}
use Rattle.automata_determinize.proofs.Paths.Compose.{Composes, Divides, compose}
use Rattle.automata_determinize.proofs.Paths.Steps.{EndsWithin}
use Rattle.automata_determinize.proofs.Paths.Cuts.{front, stop_at, leader, first_of_two}
use Rattle.automata_base.proofs.Paths.Readings.{sorted_has}

abbrev pub Class : Node → ℕ → ℕ → Type 0
Class x q u =
    ((p : ℕ) × (accepts_at x ≡ Some p) × (cond (ends_at x) (Some q) None ≡ Some q) × (takes_at x u ≡ None))
    ⊎ (((accepts_at x ≡ None) × (cond (ends_at x) (Some q) None ≡ Some q))
    ⊎ ((accepts_at x ≡ None) × (cond (ends_at x) (Some q) None ≡ None) × (takes_at x u ≡ None)))

class_at : (x : Node) (q u : ℕ) → Class x q u
class_at (Split alternates) q u = inr (inr (refl, refl, refl))
class_at (Assert look next) q u = inr (inr (refl, refl, refl))
class_at (Read ranges) q u = inr (inl (refl, refl))
class_at (Accept p) q u = inl (p, refl, refl, refl)

pub targets_all :
    (n : Nfa) (u : ℕ) (xs : List ℕ) → pick (λ b. takes n b u) xs ≡ pick (λ b. takes n b u) (pick (ends n) xs)
targets_all n u [] = refl
targets_all n u (q ∷ xs) = go (class_at (node n q) q u) (targets_all n u xs)
  where
    g : ℕ → Option ℕ
    g b = takes n b u

    keeps :
        ends n q ≡ Some q → pick g xs ≡ pick g (pick (ends n) xs)
        → cons_some (g q) (pick g xs) ≡ pick g (cons_some (ends n q) (pick (ends n) xs))
    keeps e ih = ap (λ v. cons_some (g q) v) ih ∙ ap (λ o. pick g (cons_some o (pick (ends n) xs))) (sym e)

    go :
        Class (node n q) q u → pick g xs ≡ pick g (pick (ends n) xs)
        → cons_some (g q) (pick g xs) ≡ pick g (cons_some (ends n q) (pick (ends n) xs))
    go (inl h) ih = keeps h.2 ih
    go (inr (inl h)) ih = keeps h.1 ih
    go (inr (inr h)) ih =
        ap (λ o. cons_some o (pick g xs)) h.2 ∙ (ih ∙ ap (λ o. pick g (cons_some o (pick (ends n) xs))) (sym h.1))

pub targets_cut :
    (n : Nfa) (u : ℕ) (xs : List ℕ)
    → pick (λ b. takes n b u) (cut n xs) ≡ pick (λ b. takes n b u) (front n (pick (ends n) xs))
targets_cut n u [] = refl
targets_cut n u (q ∷ xs) = go (class_at (node n q) q u) (targets_cut n u xs)
  where
    g : ℕ → Option ℕ
    g b = takes n b u

    rest : List ℕ
    rest = pick (ends n) xs

    go :
        Class (node n q) q u → pick g (cut n xs) ≡ pick g (front n rest)
        → pick g (cut_after (accepts n q) q (cut n xs)) ≡ pick g (front n (cons_some (ends n q) rest))
    go (inl h) ih =
        ap (λ o. pick g (cut_after o q (cut n xs))) h.1
        ∙ (ap (λ o. cons_some o []) h.3
        ∙ (ap (λ o. pick g (stop_at o q (front n rest))) (sym h.1)
        ∙ ap (λ o. pick g (front n (cons_some o rest))) (sym h.2)))
    go (inr (inl h)) ih =
        ap (λ o. pick g (cut_after o q (cut n xs))) h.0
        ∙ (ap (λ v. cons_some (g q) v) ih
        ∙ (ap (λ o. pick g (stop_at o q (front n rest))) (sym h.0)
        ∙ ap (λ o. pick g (front n (cons_some o rest))) (sym h.1)))
    go (inr (inr h)) ih =
        ap (λ o. pick g (cut_after o q (cut n xs))) h.0
        ∙ (ap (λ o. cons_some o (pick g (cut n xs))) h.2
        ∙ (ih
        ∙ ap (λ o. pick g (front n (cons_some o rest))) (sym h.1)))

pub patterns_all : (n : Nfa) (xs : List ℕ) → pick (accepts n) xs ≡ pick (accepts n) (pick (ends n) xs)
patterns_all n [] = refl
patterns_all n (q ∷ xs) = go (class_at (node n q) q 0) (patterns_all n xs)
  where
    g : ℕ → Option ℕ
    g = accepts n

    keeps :
        ends n q ≡ Some q → pick g xs ≡ pick g (pick (ends n) xs)
        → cons_some (g q) (pick g xs) ≡ pick g (cons_some (ends n q) (pick (ends n) xs))
    keeps e ih = ap (λ v. cons_some (g q) v) ih ∙ ap (λ o. pick g (cons_some o (pick (ends n) xs))) (sym e)

    go :
        Class (node n q) q 0 → pick g xs ≡ pick g (pick (ends n) xs)
        → cons_some (g q) (pick g xs) ≡ pick g (cons_some (ends n q) (pick (ends n) xs))
    go (inl h) ih = keeps h.2 ih
    go (inr (inl h)) ih = keeps h.1 ih
    go (inr (inr h)) ih =
        ap (λ o. cons_some o (pick g xs)) h.0 ∙ (ih ∙ ap (λ o. pick g (cons_some o (pick (ends n) xs))) (sym h.1))

-- The pattern of the first match state.
abbrev pub reported : Nfa → Option ℕ → List ℕ
reported n None = []
reported n (Some m) = cons_some (accepts n m) []

pub patterns_cut : (n : Nfa) (xs : List ℕ) → pick (accepts n) (cut n xs) ≡ reported n (leader n (pick (ends n) xs))
patterns_cut n [] = refl
patterns_cut n (q ∷ xs) = go (class_at (node n q) q 0) (patterns_cut n xs)
  where
    g : ℕ → Option ℕ
    g = accepts n

    rest : List ℕ
    rest = pick (ends n) xs

    go :
        Class (node n q) q 0 → pick g (cut n xs) ≡ reported n (leader n rest)
        → pick g (cut_after (accepts n q) q (cut n xs)) ≡ reported n (leader n (cons_some (ends n q) rest))
    go (inl h) ih =
        ap (λ o. pick g (cut_after o q (cut n xs))) h.1
        ∙ (ap (λ o. reported n (first_of_two o q (leader n rest))) (sym h.1)
        ∙ ap (λ o. reported n (leader n (cons_some o rest))) (sym h.2))
    go (inr (inl h)) ih =
        ap (λ o. pick g (cut_after o q (cut n xs))) h.0
        ∙ (ap (λ o. cons_some o (pick g (cut n xs))) h.0
        ∙ (ih
        ∙ (ap (λ o. reported n (first_of_two o q (leader n rest))) (sym h.0)
        ∙ ap (λ o. reported n (leader n (cons_some o rest))) (sym h.1))))
    go (inr (inr h)) ih =
        ap (λ o. pick g (cut_after o q (cut n xs))) h.0
        ∙ (ap (λ o. cons_some o (pick g (cut n xs))) h.0
        ∙ (ih
        ∙ ap (λ o. reported n (leader n (cons_some o rest))) (sym h.1)))

-- There is only one list of the states in the order of their keys.
pub sorted_one :
    (P : ℕ → List ℕ → Type 0) (xs ys : List ℕ)
    → Sorted P xs → Sorted P ys → ((q : ℕ) → In q xs → In q ys) → ((q : ℕ) → In q ys → In q xs) → xs ≡ ys
sorted_one P [] [] s k f g = refl
sorted_one P [] (y ∷ ys) s k f g = absurd (g y (inl refl))
sorted_one P (x ∷ xs) [] s k f g = absurd (f x (inl refl))
sorted_one P (x ∷ xs) (y ∷ ys) s k f g =
    ap₂ ◌∷◌ same_head (sorted_one P xs ys s.1 k.1 down up)
  where
    same_head : x ≡ y
    same_head = ⊎_elim (λ (e : x ≡ y). e)
        (λ (i : In x ys). ⊎_elim (λ (e : y ≡ x). sym e)
        (λ (j : In y xs). absurd
        (before_irrefl s.0.key
        (before_trans s.0.key k.0.key s.0.key (s.0.before y k.0.key j k.0.has) (k.0.before x s.0.key i s.0.has))))
        (g y (inl refl)))
        (f x (inl refl))

    down : (q : ℕ) → In q xs → In q ys
    down q i = ⊎_elim
        (λ (e : q ≡ y). absurd
        (before_irrefl s.0.key
        (s.0.before q s.0.key i (subst (λ v. P v s.0.key) (same_head ∙ sym e) s.0.has))))
        (λ (j : In q ys). j) (f q (inr i))

    up : (q : ℕ) → In q ys → In q xs
    up q i = ⊎_elim
        (λ (e : q ≡ x). absurd
        (before_irrefl k.0.key
        (k.0.before q k.0.key i (subst (λ v. P v k.0.key) (sym same_head ∙ sym e) k.0.has))))
        (λ (j : In q xs). j) (g q (inr i))

pub list_one : (P : ℕ → List ℕ → Type 0) (xs ys : List ℕ) → IsListOf P xs → IsListOf P ys → xs ≡ ys
list_one P xs ys l m =
    sorted_one P xs ys l.1 m.1 (λ q i. let w = sorted_has P xs q l.1 i in m.0 q w.0 w.1)
    (λ q i. let w = sorted_has P ys q m.1 i in l.0 q w.0 w.1)

-- A list with each element once: of no elements, and of one element.
abbrev pub Root : ℕ → List ℕ → ℕ → Type 0
Root root path q = (root ≡ q) × (path ≡ [])

once_none : IsOnce [] []
once_none = (has, tt)
  where
    has : (q : ℕ) (key : List ℕ) → From Root [] q key → In q []
    has q [] h = h
    has q (k ∷ s) h = none_some h.1

once_one : (p : ℕ) → IsOnce (p ∷ []) (p ∷ [])
once_one p = (
  has,
  (
    record { key = 0 ∷ []; has = (p, refl, (refl, refl)); least = least; before = λ y other i h. absurd i },
    tt,
  ),
)
  where
    has : (q : ℕ) (key : List ℕ) → From Root (p ∷ []) q key → In q (p ∷ [])
    has q [] h = absurd h
    has q (zero ∷ s) h = inl (sym h.2.0 ∙ sym (some_inj h.1))
    has q (suc k ∷ s) h = absurd (none_some h.1)

    least : (other : List ℕ) → From Root (p ∷ []) p other → Upto (0 ∷ []) other
    least [] h = absurd h
    least (zero ∷ s) h = inl (ap (λ v. 0 ∷ v) (sym h.2.1))
    least (suc k ∷ s) h = absurd (none_some h.1)

pub once_is_none : (xs ys : List ℕ) → xs ≡ [] → IsOnce xs ys → ys ≡ []
once_is_none xs ys e o = list_one (From Root []) ys [] (subst (λ v. IsOnce v ys) e o) once_none

pub once_is_one : (xs ys : List ℕ) (p : ℕ) → xs ≡ p ∷ [] → IsOnce xs ys → ys ≡ p ∷ []
once_is_one xs ys p e o = list_one (From Root (p ∷ [])) ys (p ∷ []) (subst (λ v. IsOnce v ys) e o) (once_one p)

-- The patterns of the match states that paths reach.
pub patterns_of :
    (n : Nfa) (t : Tape) (start i : ℕ) (N pats : List ℕ)
    → IsListOf (EndsWithin n t start None i) N → IsOnce (pick (accepts n) N) pats
    → IsListOf (λ pat path. (q : ℕ) × IsPath n t start i q path × (accepts n q ≡ Some pat)) pats
patterns_of n t start i N pats l o = compose P (accepts n) Root P' [] N pats joins divides l o
  where
    P : ℕ → List ℕ → Type 0
    P = EndsWithin n t start None i

    P' : ℕ → List ℕ → Type 0
    P' pat path = (q : ℕ) × IsPath n t start i q path × (accepts n q ≡ Some pat)

    joins : Composes P (accepts n) Root P' []
    joins x r q p s h a w =
        (x, subst (λ v. IsPath n t start i x v) (sym (ap (λ v. p ++ v) w.1 ∙ append-nil p)) h.1, a ∙ ap Some w.0)

    divides : Divides P (accepts n) Root P' []
    divides pat key h =
        (h.0, pat, key, [], (accepts_ends n h.0 pat h.2, h.1, tt), h.2, (refl, refl), sym (append-nil key), apart)
      where
        apart : (y r' : ℕ) (other : List ℕ) → P y other → accepts n y ≡ Some r' → Begins other key → ⊥
        apart y r' other k a b =
            match_last n t start i y r' other i h.0 b.0 b.1 k.1 a (subst (λ v. IsPath n t start i h.0 v) b.2 h.1)
