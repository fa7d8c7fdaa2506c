-- The order of first visits is the order of least paths.
use Rattle.std.proofs.Common.{ℕ, zero, suc, ◌≡◌, ◌<◌, ◌+◌, Bool, true, false, cond, List, [], ◌∷◌, ◌++◌, ◌⊎◌, length}
use Rattle.std.proofs.Common.{Some, None, inl, inr, refl, sym, ap, ap₂, ◌∙◌, subst, arith, ⊎_elim}
use Rattle.automata_base.specs.Paths.Order.{Before, Upto, EndsFirst, TakesLess, TakesSame}
use Rattle.automata_base.specs.Lists.{In, Sorted, IsListOf, From}
use Rattle.std.specs.Prelude.{slice_get}
use Rattle.automata_base.specs.Nfas.Nfa.{Nfa, Node, Split, Assert, Read, Accept, Truth, node, hop, hop_at}
use Rattle.automata_base.specs.Paths.Paths.{IsPathAt, IsClosure}
use Rattle.automata_base.specs.Powersets.Closure.{children, children_at, Visits, done, skip, visit}
use Rattle.automata_base.proofs.Paths.Orders.{some_inj, none_some, cons_head, cons_tail}
use Rattle.automata_base.proofs.Paths.Walks.{in_left, in_either}
use Rattle.automata_base.proofs.Paths.Compose.{Carries, transfer}
use Rattle.automata_base.proofs.Paths.Sift.{same}
use Rattle.automata_base.proofs.Paths.Readings.{sorted_has}
use Rattle.std.proofs.lemmas.Bool.{cases_eq}

hop_children_at : (x : Node) (A : Truth) (e : ℕ) → hop_at x A e ≡ slice_get (children_at x A) e
hop_children_at (Split alternates) A e = refl
hop_children_at (Assert look next) A zero = go (A look)
  where
    go : (b : Bool) → cond b (Some next) None ≡ slice_get (cond b (next ∷ []) []) 0
    go true = refl
    go false = refl
hop_children_at (Assert look next) A (suc e) = go (A look)
  where
    go : (b : Bool) → None ≡ slice_get (cond b (next ∷ []) []) (suc e)
    go true = refl
    go false = refl
hop_children_at (Read ranges) A e = refl
hop_children_at (Accept p) A e = refl

pub hop_children : (n : Nfa) (A : Truth) (q e : ℕ) → hop n A q e ≡ slice_get (children n A q) e
hop_children n A q e = hop_children_at (node n q) A e

-- A walk from a root that was not seen.
abbrev pub Fresh : Nfa → Truth → List ℕ → ℕ → List ℕ → ℕ → Type 0
Fresh n A seen root path q = (In root seen → ⊥) × IsPathAt n A seen root path q

pub in_right : (x : ℕ) (xs ys : List ℕ) → In x ys → In x (xs ++ ys)
in_right x [] ys h = h
in_right x (z ∷ xs) ys h = inr (in_right x xs ys h)

-- A walk stays a walk if it has to avoid fewer states.
walk_fewer :
    (n : Nfa) (A : Truth) (seen less : List ℕ) (q : ℕ) (path : List ℕ) (z : ℕ)
    → ((y : ℕ) → In y less → In y seen) → IsPathAt n A seen q path z → IsPathAt n A less q path z
walk_fewer n A seen less q [] z f w = w
walk_fewer n A seen less q (e ∷ path) z f w =
    (w.0, w.1, (λ i. w.2 (also w.0 i)), walk_fewer n A (q ∷ seen) (q ∷ less) w.0 path z also w.3)
  where
    also : (y : ℕ) → In y (q ∷ less) → In y (q ∷ seen)
    also y (inl e) = inl e
    also y (inr i) = inr (f y i)

-- A fresh walk ends at a state that was not seen.
fresh_end :
    (n : Nfa) (A : Truth) (seen : List ℕ) (q : ℕ) (path : List ℕ) (z : ℕ)
    → (In q seen → ⊥) → IsPathAt n A seen q path z → In z seen → ⊥
fresh_end n A seen q [] z f w i = f (subst (λ v. In v seen) (sym w) i)
fresh_end n A seen q (e ∷ path) z f w i = fresh_end n A (q ∷ seen) w.0 path z w.2 w.3 (inr i)

-- A walk to a state other than `x` avoids `x` or continues from `x`.
abbrev pub OnFrom : Nfa → Truth → List ℕ → ℕ → ℕ → Type 0
OnFrom n A S x z =
    (e r : ℕ) × (path : List ℕ) × (hop n A x e ≡ Some r) × (In r (x ∷ S) → ⊥) × IsPathAt n A (x ∷ S) r path z

on_from :
    (n : Nfa) (A : Truth) (S seen : List ℕ) (x : ℕ) (path : List ℕ) (z : ℕ)
    → ((y : ℕ) → In y S → In y seen) → (z ≡ x → ⊥) → IsPathAt n A seen x path z → OnFrom n A S x z
on_from n A S seen x [] z f d w = absurd (d (sym w))
on_from n A S seen x (e ∷ path) z f d w =
    (e, w.0, path, w.1, (λ i. w.2 (also w.0 i)), walk_fewer n A (x ∷ seen) (x ∷ S) w.0 path z also w.3)
  where
    also : (y : ℕ) → In y (x ∷ S) → In y (x ∷ seen)
    also y (inl e) = inl e
    also y (inr i) = inr (f y i)

meets :
    (n : Nfa) (A : Truth) (S seen : List ℕ) (x r : ℕ) (path : List ℕ) (z : ℕ)
    → ((y : ℕ) → In y S → In y seen) → (z ≡ x → ⊥) → IsPathAt n A seen r path z
    → OnFrom n A S x z ⊎ ((r ≡ x → ⊥) × IsPathAt n A (seen ++ (x ∷ [])) r path z)
meets n A S seen x r [] z f d w = inr ((λ e. d (sym w ∙ e)), w)
meets n A S seen x r (e ∷ path) z f d w =
    go (cases_eq r x) (meets n A S (r ∷ seen) x w.0 path z (λ y i. inr (f y i)) d w.3)
  where
    go :
        (r ≡ x) ⊎ (r ≡ x → ⊥)
        → OnFrom n A S x z ⊎ ((w.0 ≡ x → ⊥) × IsPathAt n A ((r ∷ seen) ++ (x ∷ [])) w.0 path z)
        → OnFrom n A S x z ⊎ ((r ≡ x → ⊥) × IsPathAt n A (seen ++ (x ∷ [])) r (e ∷ path) z)
    go (inl s) h = inl (on_from n A S seen x (e ∷ path) z f d (subst (λ v. IsPathAt n A seen v (e ∷ path) z) s w))
    go (inr k) (inl h) = inl h
    go (inr k) (inr h) = inr (k, (w.0, w.1, apart, h.1))
      where
        apart : In w.0 (r ∷ (seen ++ (x ∷ []))) → ⊥
        apart i = ⊎_elim (λ (j : In w.0 (r ∷ seen)). w.2 j)
            (λ (j : In w.0 (x ∷ [])). ⊎_elim (λ (s : w.0 ≡ x). h.0 s) (λ (b : ⊥). b) j)
            (in_either w.0 (r ∷ seen) (x ∷ []) i)

nth_first : (xs ys : List ℕ) (k r : ℕ) → slice_get xs k ≡ Some r → (k < length xs) × (slice_get (xs ++ ys) k ≡ Some r)
nth_first [] ys k r e = absurd (none_some e)
nth_first (x ∷ xs) ys zero r e = (omega arith, e)
nth_first (x ∷ xs) ys (suc k) r e = let w = nth_first xs ys k r e in (omega (arith, w.0), w.1)

nth_second :
    (xs ys : List ℕ) (k r : ℕ) → slice_get ys k ≡ Some r → (j : ℕ) × (j ≡ length xs + k)
    × (slice_get (xs ++ ys) j ≡ Some r)
nth_second [] ys k r e = (k, omega arith, e)
nth_second (x ∷ xs) ys k r e = let w = nth_second xs ys k r e in (suc w.0, omega (arith, w.1), w.2)

nth_either :
    (xs ys : List ℕ) (j r : ℕ) → slice_get (xs ++ ys) j ≡ Some r
    → ((j < length xs) × (slice_get xs j ≡ Some r)) ⊎ ((k : ℕ) × (j ≡ length xs + k) × (slice_get ys k ≡ Some r))
nth_either [] ys j r e = inr (j, omega arith, e)
nth_either (x ∷ xs) ys zero r e = inl (omega arith, e)
nth_either (x ∷ xs) ys (suc j) r e = go (nth_either xs ys j r e)
  where
    go :
        ((j < length xs) × (slice_get xs j ≡ Some r)) ⊎ ((k : ℕ) × (j ≡ length xs + k) × (slice_get ys k ≡ Some r))
        → ((suc j < suc (length xs)) × (slice_get xs j ≡ Some r))
        ⊎ ((k : ℕ) × (suc j ≡ suc (length xs) + k) × (slice_get ys k ≡ Some r))
    go (inl h) = inl (omega (arith, h.0), h.1)
    go (inr h) = inr (h.0, omega (arith, h.1), h.2)

-- One visit.
module _ (n : Nfa) (A : Truth) (x : ℕ) (S stack : List ℕ) (new : In x S → ⊥) where
  abbrev pub P : ℕ → List ℕ → Type 0
  P q key = From (Fresh n A (x ∷ S)) (children n A x ++ stack) q key

  abbrev pub P' : ℕ → List ℕ → Type 0
  P' q key = From (Fresh n A S) (x ∷ stack) q key

  abbrev pub Other : ℕ → List ℕ → Type 0
  Other q key = (q ≡ x → ⊥) × P' q key

  other_end : (q : ℕ) (key : List ℕ) → P q key → q ≡ x → ⊥
  other_end q [] h e = h
  other_end q (k ∷ p) h e = fresh_end n A (x ∷ S) h.0 p q h.2.0 h.2.1 (inl e)

  -- The index, after the visit, of a key before it.
  abbrev pub Pre : ℕ → List ℕ → Type 0
  Pre q other =
      ((e : ℕ) × (p : List ℕ) × (e < length (children n A x)) × P q (e ∷ p) × (other ≡ 0 ∷ (e ∷ p)))
      ⊎ (((e k : ℕ) × (s p : List ℕ) × (e < length (children n A x)) × P q (e ∷ s) × (other ≡ suc k ∷ p))
      ⊎ ((j k : ℕ) × (p : List ℕ) × (j ≡ length (children n A x) + k) × P q (j ∷ p) × (other ≡ suc k ∷ p)))

  child : (e r : ℕ) → hop n A x e ≡ Some r → slice_get (children n A x) e ≡ Some r
  child e r h = sym (hop_children n A x e) ∙ h

  classify : (q : ℕ) (other : List ℕ) → Other q other → Pre q other
  classify q [] o = absurd o.1
  classify q (zero ∷ []) o = absurd (o.0 (sym o.1.2.1 ∙ sym (some_inj o.1.1)))
  classify q (zero ∷ (e ∷ p)) o = go (subst (λ v. IsPathAt n A S v (e ∷ p) q) (sym (some_inj o.1.1)) o.1.2.1)
    where
      go : IsPathAt n A S x (e ∷ p) q → Pre q (zero ∷ (e ∷ p))
      go w =
          let c = nth_first (children n A x) stack e w.0 (child e w.0 w.1) in
          inl (e, p, c.0, (w.0, c.1, (w.2, w.3)), refl)
  classify q (suc k ∷ p) o = go (meets n A S S x o.1.0 p q (λ y i. i) o.0 o.1.2.1)
    where
      go : OnFrom n A S x q ⊎ ((o.1.0 ≡ x → ⊥) × IsPathAt n A (S ++ (x ∷ [])) o.1.0 p q) → Pre q (suc k ∷ p)
      go (inl w) =
          let c = nth_first (children n A x) stack w.0 w.1 (child w.0 w.1 w.3) in
          inr (inl (w.0, k, w.2, p, c.0, (w.1, c.1, (w.4, w.5)), refl))
      go (inr w) =
          let c = nth_second (children n A x) stack k o.1.0 o.1.1 in
          inr (inr
          (c.0, k, p, c.1, (o.1.0, c.2, (away, walk_fewer n A (S ++ (x ∷ [])) (x ∷ S) o.1.0 p q also w.1)), refl))
        where
          away : In o.1.0 (x ∷ S) → ⊥
          away (inl e) = w.0 e
          away (inr i) = o.1.2.0 i

          also : (y : ℕ) → In y (x ∷ S) → In y (S ++ (x ∷ []))
          also y (inl e) = in_right y S (x ∷ []) (inl e)
          also y (inr i) = in_left y S (x ∷ []) i

  back : (q : ℕ) (key : List ℕ) → Other q key → (pre : List ℕ) × P q pre
  back q key o = go (classify q key o)
    where
      go : Pre q key → (pre : List ℕ) × P q pre
      go (inl c) = (c.0 ∷ c.1, c.3)
      go (inr (inl c)) = (c.0 ∷ c.2, c.5)
      go (inr (inr c)) = (c.0 ∷ c.2, c.4)

  carries_first : (j : ℕ) (p : List ℕ) → Carries P Other (j ∷ p) (0 ∷ (j ∷ p))
  carries_first j p q other o = go (classify q other o)
    where
      go :
          Pre q other
          → (pre : List ℕ) × P q pre × (Before (j ∷ p) pre → Before (0 ∷ (j ∷ p)) other)
          × (Upto (j ∷ p) pre → Upto (0 ∷ (j ∷ p)) other)
      go (inl c) = (
        c.0 ∷ c.1,
        c.3,
        (λ b. subst (λ v. Before (0 ∷ (j ∷ p)) v) (sym c.4) (TakesSame refl b)),
        λ b. subst (λ v. Upto (0 ∷ (j ∷ p)) v) (sym c.4)
            (⊎_elim (λ (e : ◌≡◌ {A = List ℕ} (j ∷ p) (c.0 ∷ c.1)). inl (ap (λ v. 0 ∷ v) e))
            (λ (u : Before (j ∷ p) (c.0 ∷ c.1)). inr (TakesSame refl u)) b),
      )
      go (inr (inl c)) = (
        c.0 ∷ c.2,
        c.5,
        (λ b. subst (λ v. Before (0 ∷ (j ∷ p)) v) (sym c.6) (TakesLess (omega arith))),
        λ b. subst (λ v. Upto (0 ∷ (j ∷ p)) v) (sym c.6) (inr (TakesLess (omega arith))),
      )
      go (inr (inr c)) = (
        c.0 ∷ c.2,
        c.4,
        (λ b. subst (λ v. Before (0 ∷ (j ∷ p)) v) (sym c.5) (TakesLess (omega arith))),
        λ b. subst (λ v. Upto (0 ∷ (j ∷ p)) v) (sym c.5) (inr (TakesLess (omega arith))),
      )

  carries_second :
      (j k : ℕ) (p : List ℕ) → j ≡ length (children n A x) + k → Carries P Other (j ∷ p) (suc k ∷ p)
  carries_second j k p at q other o = go (classify q other o)
    where
      before_no : (e : ℕ) (s : List ℕ) → e < length (children n A x) → Before (j ∷ p) (e ∷ s) → ⊥
      before_no e s l (TakesLess b) = omega (arith, at, l, b)
      before_no e s l (TakesSame same b) = omega (arith, at, l, same)

      upto_no : (e : ℕ) (s : List ℕ) → e < length (children n A x) → Upto (j ∷ p) (e ∷ s) → ⊥
      upto_no e s l (inl b) = let h : j ≡ e = cons_head b in omega (arith, at, l, h)
      upto_no e s l (inr b) = before_no e s l b

      go :
          Pre q other
          → (pre : List ℕ) × P q pre × (Before (j ∷ p) pre → Before (suc k ∷ p) other)
          × (Upto (j ∷ p) pre → Upto (suc k ∷ p) other)
      go (inl c) =
          (c.0 ∷ c.1, c.3, (λ b. absurd (before_no c.0 c.1 c.2 b)), λ b. absurd (upto_no c.0 c.1 c.2 b))
      go (inr (inl c)) =
          (c.0 ∷ c.2, c.5, (λ b. absurd (before_no c.0 c.2 c.4 b)), λ b. absurd (upto_no c.0 c.2 c.4 b))
      go (inr (inr c)) = (
        c.0 ∷ c.2,
        c.4,
        (λ b. subst (λ v. Before (suc k ∷ p) v) (sym c.5) (less b)),
        λ b. subst (λ v. Upto (suc k ∷ p) v) (sym c.5) (not_more b),
      )
        where
          less : Before (j ∷ p) (c.0 ∷ c.2) → Before (suc k ∷ p) (suc c.1 ∷ c.2)
          less (TakesLess b) = TakesLess (omega (arith, at, c.3, b))
          less (TakesSame same b) = TakesSame (omega (arith, at, c.3, same)) b

          not_more : Upto (j ∷ p) (c.0 ∷ c.2) → Upto (suc k ∷ p) (suc c.1 ∷ c.2)
          not_more (inl e) =
              let h : j ≡ c.0 = cons_head e in
              let i : suc k ≡ suc c.1 = omega (arith, at, c.3, h) in
              inl (ap₂ ◌∷◌ i (cons_tail e))
          not_more (inr b) = inr (less b)

  image : (q : ℕ) (key : List ℕ) → P q key → (image : List ℕ) × Other q image × Carries P Other key image
  image q [] h = absurd h
  image q (j ∷ p) h = go (nth_either (children n A x) stack j h.0 h.1)
    where
      go :
          ((j < length (children n A x)) × (slice_get (children n A x) j ≡ Some h.0))
          ⊎ ((k : ℕ) × (j ≡ length (children n A x) + k) × (slice_get stack k ≡ Some h.0))
          → (image : List ℕ) × Other q image × Carries P Other (j ∷ p) image
      go (inl c) = (
        0 ∷ (j ∷ p),
        (other_end q (j ∷ p) h, (x, refl, (new, (h.0, hop_children n A x j ∙ c.1, h.2.0, h.2.1)))),
        carries_first j p,
      )
      go (inr c) = (
        suc c.0 ∷ p,
        (
          other_end q (j ∷ p) h,
          (h.0, c.2, ((λ i. h.2.0 (inr i)), walk_fewer n A (x ∷ S) S h.0 p q (λ y i. inr i) h.2.1)),
        ),
        carries_second j c.0 p c.1,
      )

  -- Keys of `x` itself, and of the others.
  zero_least : (other : List ℕ) → P' x other → Upto (0 ∷ []) other
  zero_least [] h = absurd h
  zero_least (zero ∷ []) h = inl refl
  zero_least (zero ∷ (e ∷ p)) h = inr (TakesSame refl EndsFirst)
  zero_least (suc k ∷ p) h = inr (TakesLess (omega arith))

  zero_before : (q : ℕ) (other : List ℕ) → (q ≡ x → ⊥) → P' q other → Before (0 ∷ []) other
  zero_before q [] d h = absurd h
  zero_before q (zero ∷ []) d h = absurd (d (sym h.2.1 ∙ sym (some_inj h.1)))
  zero_before q (zero ∷ (e ∷ p)) d h = TakesSame refl EndsFirst
  zero_before q (suc k ∷ p) d h = TakesLess (omega arith)

  all_others : (xs : List ℕ) → Sorted Other xs → Sorted P' xs
  all_others [] s = tt
  all_others (y ∷ ys) s = (
    record {
      key = s.0.key;
      has = s.0.has.1;
      least = λ other h. s.0.least other (s.0.has.0, h);
      before = λ z other i h. (let w = sorted_has Other ys z s.1 i in s.0.before z other i (w.1.0, h));
    },
    all_others ys s.1,
  )

  visited : (out : List ℕ) → IsListOf P out → IsListOf P' (x ∷ out)
  visited out l = (
    has,
    (record { key = 0 ∷ []; has = (x, refl, (new, refl)); least = zero_least; before = later }, all_others out m.1),
  )
    where
      m : IsListOf Other out
      m = transfer P Other out image back l

      later : (z : ℕ) (other : List ℕ) → In z out → P' z other → Before (0 ∷ []) other
      later z other i h = let w = sorted_has Other out z m.1 i in zero_before z other w.1.0 h

      has : (q : ℕ) (key : List ℕ) → P' q key → In q (x ∷ out)
      has q key h = ⊎_elim (λ (e : q ≡ x). inl e) (λ (d : q ≡ x → ⊥). inr (m.0 q key (d, h))) (cases_eq q x)

-- A state on top of the stack that was already seen has no key.
skipped :
    (n : Nfa) (A : Truth) (x : ℕ) (S stack out : List ℕ) → In x S
    → IsListOf (From (Fresh n A S) stack) out → IsListOf (From (Fresh n A S) (x ∷ stack)) out
skipped n A x S stack out seen l = transfer P P' out image back l
  where
    P : ℕ → List ℕ → Type 0
    P = From (Fresh n A S) stack

    P' : ℕ → List ℕ → Type 0
    P' = From (Fresh n A S) (x ∷ stack)

    back : (q : ℕ) (key : List ℕ) → P' q key → (pre : List ℕ) × P q pre
    back q [] h = absurd h
    back q (zero ∷ p) h = absurd (h.2.0 (subst (λ v. In v S) (some_inj h.1) seen))
    back q (suc k ∷ p) h = (k ∷ p, h)

    carries : (k : ℕ) (p : List ℕ) → Carries P P' (k ∷ p) (suc k ∷ p)
    carries k p q [] h = absurd h
    carries k p q (zero ∷ p') h = absurd (h.2.0 (subst (λ v. In v S) (some_inj h.1) seen))
    carries k p q (suc k' ∷ p') h = (k' ∷ p', h, less, not_more)
      where
        less : Before (k ∷ p) (k' ∷ p') → Before (suc k ∷ p) (suc k' ∷ p')
        less (TakesLess b) = TakesLess (omega (arith, b))
        less (TakesSame same b) = TakesSame (ap suc same) b

        not_more : Upto (k ∷ p) (k' ∷ p') → Upto (suc k ∷ p) (suc k' ∷ p')
        not_more (inl e) = inl (ap₂ ◌∷◌ (ap suc (cons_head e)) (cons_tail e))
        not_more (inr b) = inr (less b)

    image : (q : ℕ) (key : List ℕ) → P q key → (image : List ℕ) × P' q image × Carries P P' key image
    image q [] h = absurd h
    image q (k ∷ p) h = (suc k ∷ p, h, carries k p)

pub visits_list :
    (n : Nfa) (A : Truth) (stack seen out : List ℕ) → Visits n A stack seen out
    → IsListOf (From (Fresh n A seen) stack) out
visits_list n A stack seen out done = (has, tt)
  where
    has : (q : ℕ) (key : List ℕ) → From (Fresh n A seen) [] q key → In q []
    has q [] h = h
    has q (k ∷ p) h = none_some h.1
visits_list n A stack seen out (skip {x = x} {stack = rest} i v) =
    skipped n A x seen rest out i (visits_list n A rest seen out v)
visits_list n A stack seen out (visit {x = x} {stack = rest} {out = more} new v) =
    visited n A x seen rest new more (visits_list n A (children n A x ++ rest) (x ∷ seen) more v)

-- The first visits from the roots give the closure.
pub visits_closure : (n : Nfa) (A : Truth) (roots out : List ℕ) → Visits n A roots [] out → IsClosure n A roots out
visits_closure n A roots out v =
    same (From (Fresh n A []) roots) (From (λ root path q. IsPathAt n A [] root path q) roots) out there back
    (visits_list n A roots [] out v)
  where
    there :
        (q : ℕ) (key : List ℕ) → From (Fresh n A []) roots q key
        → From (λ root path q. IsPathAt n A [] root path q) roots q key
    there q [] h = h
    there q (k ∷ p) h = (h.0, h.1, h.2.1)

    back :
        (q : ℕ) (key : List ℕ) → From (λ root path q. IsPathAt n A [] root path q) roots q key
        → From (Fresh n A []) roots q key
    back q [] h = h
    back q (k ∷ p) h = (h.0, h.1, ((λ i. i), h.2))
