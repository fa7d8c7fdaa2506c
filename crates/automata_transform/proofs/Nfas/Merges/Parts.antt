-- Where the elements of a joined list, and those of a picked list, come from, in order.
use Rattle.std.proofs.Common.{ℕ, zero, suc, ◌≡◌, ◌<◌, ◌+◌, List, [], ◌∷◌, ◌++◌, ◌⊎◌, ◌↔◌, length, Option, Some, None}
use Rattle.std.proofs.Common.{inl, inr, refl}
use Rattle.std.proofs.Common.{sym, ap, ◌∙◌, arith}
use Rattle.std.proofs.Common.{subst}
use Rattle.std.specs.Prelude.{slice_get}
use Rattle.automata_transform.specs.Nfas.Merges.{stood_for, all_stood_for}
use Rattle.automata_base.specs.Lists.{pick, cons_some}
use Rattle.automata_base.proofs.Paths.Orders.{some_inj, none_some}

-- Element `k` of the joined lists is element `o` of the list of element `j`.
abbrev pub IsPart : (ℕ → List ℕ) → List ℕ → (j o k : ℕ) → Type 0
IsPart f [] j o k = ⊥
IsPart f (z ∷ zs) zero o k = (k ≡ o) × (o < length (f z))
IsPart f (z ∷ zs) (suc j) o k = (rest : ℕ) × (k ≡ length (f z) + rest) × IsPart f zs j o rest

-- Parts come in the order of their elements.
pub parts_order :
    (f : ℕ → List ℕ) (zs : List ℕ) (j1 o1 k1 j2 o2 k2 : ℕ) → IsPart f zs j1 o1 k1 → IsPart f zs j2 o2 k2
    → ((k1 < k2) ↔ ((j1 < j2) ⊎ ((j1 ≡ j2) × (o1 < o2)))) × ((k1 ≡ k2) ↔ ((j1 ≡ j2) × (o1 ≡ o2)))
parts_order f [] j1 o1 k1 j2 o2 k2 a b = absurd a
parts_order f (z ∷ zs) zero o1 k1 zero o2 k2 a b = grind (arith, a, b)
parts_order f (z ∷ zs) zero o1 k1 (suc j2) o2 k2 a b = grind (arith, a, b)
parts_order f (z ∷ zs) (suc j1) o1 k1 zero o2 k2 a b = grind (arith, a, b)
parts_order f (z ∷ zs) (suc j1) o1 k1 (suc j2) o2 k2 a b =
    grind (arith, a, b, parts_order f zs j1 o1 a.0 j2 o2 b.0 a.2 b.2)

pub get_below : (xs : List ℕ) (k x : ℕ) → slice_get xs k ≡ Some x → k < length xs
get_below [] k x e = absurd (none_some e)
get_below (y ∷ xs) zero x e = grind arith
get_below (y ∷ xs) (suc k) x e = grind (arith, get_below xs k x e)

get_left : (xs ys : List ℕ) (k x : ℕ) → slice_get xs k ≡ Some x → slice_get (xs ++ ys) k ≡ Some x
get_left [] ys k x e = absurd (none_some e)
get_left (y ∷ xs) ys zero x e = e
get_left (y ∷ xs) ys (suc k) x e = get_left xs ys k x e

get_right : (xs ys : List ℕ) (r k x : ℕ) → k ≡ length xs + r → slice_get ys r ≡ Some x → slice_get (xs ++ ys) k ≡ Some x
get_right [] ys r k x l e = ap (λ v. slice_get ys v) (omega (arith, l)) ∙ e
get_right (y ∷ xs) ys r zero x l e = absurd (omega (arith, l))
get_right (y ∷ xs) ys r (suc k) x l e = get_right xs ys r k x (omega (arith, l)) e

get_append :
    (xs ys : List ℕ) (k x : ℕ) → slice_get (xs ++ ys) k ≡ Some x
    → (slice_get xs k ≡ Some x) ⊎ ((r : ℕ) × (k ≡ length xs + r) × (slice_get ys r ≡ Some x))
get_append [] ys k x e = inr (k, omega arith, e)
get_append (y ∷ xs) ys zero x e = inl e
get_append (y ∷ xs) ys (suc k) x e = go (get_append xs ys k x e)
  where
    go :
        (slice_get xs k ≡ Some x) ⊎ ((r : ℕ) × (k ≡ length xs + r) × (slice_get ys r ≡ Some x))
        → (slice_get xs k ≡ Some x) ⊎ ((r : ℕ) × (suc k ≡ length (y ∷ xs) + r) × (slice_get ys r ≡ Some x))
    go (inl h) = inl h
    go (inr h) = inr (h.0, omega (arith, h.1), h.2)

module _ (count : ℕ) (lists : List (List ℕ)) where
  -- Each state that the list stands for is a part of what one of its states stands for.
  pub part_of :
      (zs : List ℕ) (k s : ℕ) → slice_get (all_stood_for count lists zs) k ≡ Some s
      → (j o z : ℕ) × (slice_get zs j ≡ Some z) × (slice_get (stood_for count lists z) o ≡ Some s)
      × IsPart (stood_for count lists) zs j o k
  part_of [] k s e = absurd (none_some e)
  part_of (z ∷ zs) k s e =
      go (get_append (stood_for count lists z) (all_stood_for count lists zs) k s e)
      (λ r h. part_of zs r s h)
    where
      go :
          (slice_get (stood_for count lists z) k ≡ Some s)
          ⊎ ((r : ℕ) × (k ≡ length (stood_for count lists z) + r)
          × (slice_get (all_stood_for count lists zs) r ≡ Some s))
          → ((r : ℕ) → slice_get (all_stood_for count lists zs) r ≡ Some s
          → (j o y : ℕ) × (slice_get zs j ≡ Some y) × (slice_get (stood_for count lists y) o ≡ Some s)
          × IsPart (stood_for count lists) zs j o r)
          → (j o y : ℕ) × (slice_get (z ∷ zs) j ≡ Some y) × (slice_get (stood_for count lists y) o ≡ Some s)
          × IsPart (stood_for count lists) (z ∷ zs) j o k
      go (inl h) ih = (0, k, z, refl, h, (refl, get_below (stood_for count lists z) k s h))
      go (inr h) ih =
          let c = ih h.0 h.2 in (suc c.0, c.1, c.2, c.3, c.4, (h.0, h.1, c.5))

  -- Each part has an index in the joined list.
  pub part_at :
      (zs : List ℕ) (j o z s : ℕ) → slice_get zs j ≡ Some z → slice_get (stood_for count lists z) o ≡ Some s
      → (k : ℕ) × (slice_get (all_stood_for count lists zs) k ≡ Some s) × IsPart (stood_for count lists) zs j o k
  part_at [] j o z s e h = absurd (none_some e)
  part_at (y ∷ zs) zero o z s e h =
      let h2 : slice_get (stood_for count lists y) o ≡ Some s =
      subst (λ v. slice_get (stood_for count lists v) o ≡ Some s) (sym (some_inj e)) h in (
        o,
        get_left (stood_for count lists y) (all_stood_for count lists zs) o s h2,
        (refl, get_below (stood_for count lists y) o s h2),
      )
  part_at (y ∷ zs) (suc j) o z s e h =
      let c = part_at zs j o z s e h in (
        length (stood_for count lists y) + c.0,
        get_right (stood_for count lists y) (all_stood_for count lists zs) c.0 (length (stood_for count lists y) + c.0)
            s refl c.1,
        (c.0, refl, c.2),
      )

-- The index `rest`, one more if the option has an element.
abbrev pub after : Option ℕ → ℕ → ℕ
after None rest = rest
after (Some y) rest = suc rest

-- Element `o` of the picked list is `x`, the value of `g` at element `k`.
abbrev pub IsPicked : (ℕ → Option ℕ) → List ℕ → (k o x : ℕ) → Type 0
IsPicked g [] k o x = ⊥
IsPicked g (s ∷ ss) zero o x = (o ≡ 0) × (g s ≡ Some x)
IsPicked g (s ∷ ss) (suc k) o x = (rest : ℕ) × (o ≡ after (g s) rest) × IsPicked g ss k rest x

after_order :
    (y : Option ℕ) (k1 k2 o1 o2 r1 r2 : ℕ) → o1 ≡ after y r1 → o2 ≡ after y r2
    → ((k1 < k2) ↔ (r1 < r2)) × ((k1 ≡ k2) ↔ (r1 ≡ r2))
    → ((suc k1 < suc k2) ↔ (o1 < o2)) × ((suc k1 ≡ suc k2) ↔ (o1 ≡ o2))
after_order None k1 k2 o1 o2 r1 r2 e f h = grind (arith, e, f, h)
after_order (Some y) k1 k2 o1 o2 r1 r2 e f h = grind (arith, e, f, h)

after_some : (y : Option ℕ) (x o r : ℕ) → y ≡ Some x → o ≡ after y r → 0 < o
after_some None x o r e f = absurd (none_some e)
after_some (Some y) x o r e f = omega (arith, f)

-- Picking keeps the order.
pub picked_order :
    (g : ℕ → Option ℕ) (ss : List ℕ) (k1 o1 x1 k2 o2 x2 : ℕ) → IsPicked g ss k1 o1 x1 → IsPicked g ss k2 o2 x2
    → ((k1 < k2) ↔ (o1 < o2)) × ((k1 ≡ k2) ↔ (o1 ≡ o2))
picked_order g [] k1 o1 x1 k2 o2 x2 a b = absurd a
picked_order g (s ∷ ss) zero o1 x1 zero o2 x2 a b = grind (arith, a, b)
picked_order g (s ∷ ss) zero o1 x1 (suc k2) o2 x2 a b =
    grind (arith, a, after_some (g s) x1 o2 b.0 a.1 b.1)
picked_order g (s ∷ ss) (suc k1) o1 x1 zero o2 x2 a b =
    grind (arith, b, after_some (g s) x2 o1 a.0 b.1 a.1)
picked_order g (s ∷ ss) (suc k1) o1 x1 (suc k2) o2 x2 a b =
    after_order (g s) k1 k2 o1 o2 a.0 b.0 a.1 b.1 (picked_order g ss k1 a.0 x1 k2 b.0 x2 a.2 b.2)

-- Each picked element comes from an element of the list.
pub picked_of :
    (g : ℕ → Option ℕ) (ss : List ℕ) (o x : ℕ) → slice_get (pick g ss) o ≡ Some x
    → (k s : ℕ) × (slice_get ss k ≡ Some s) × (g s ≡ Some x) × IsPicked g ss k o x
picked_of g [] o x e = absurd (none_some e)
picked_of g (s ∷ ss) o x e = go (g s) refl o e (λ r h. picked_of g ss r x h)
  where
    go :
        (y : Option ℕ) → g s ≡ y → (o : ℕ) → slice_get (cons_some y (pick g ss)) o ≡ Some x
        → ((r : ℕ) → slice_get (pick g ss) r ≡ Some x
        → (k z : ℕ) × (slice_get ss k ≡ Some z) × (g z ≡ Some x) × IsPicked g ss k r x)
        → (k z : ℕ) × (slice_get (s ∷ ss) k ≡ Some z) × (g z ≡ Some x) × IsPicked g (s ∷ ss) k o x
    go None f o e ih = let c = ih o e in (suc c.0, c.1, c.2, c.3, (o, ap (λ v. after v o) (sym f), c.4))
    go (Some y) f zero e ih = (0, s, refl, f ∙ e, (refl, f ∙ e))
    go (Some y) f (suc o) e ih = let c = ih o e in (suc c.0, c.1, c.2, c.3, (o, ap (λ v. after v o) (sym f), c.4))

-- The value of `g` at an element is picked.
pub picked_at :
    (g : ℕ → Option ℕ) (ss : List ℕ) (k s x : ℕ) → slice_get ss k ≡ Some s → g s ≡ Some x
    → (o : ℕ) × (slice_get (pick g ss) o ≡ Some x) × IsPicked g ss k o x
picked_at g [] k s x e h = absurd (none_some e)
picked_at g (y ∷ ss) zero s x e h =
    let f : g y ≡ Some x = ap g (some_inj e) ∙ h in
    (0, ap (λ v. slice_get (cons_some v (pick g ss)) 0) f, (refl, f))
picked_at g (y ∷ ss) (suc k) s x e h = go (g y) refl (picked_at g ss k s x e h)
  where
    go :
        (w : Option ℕ) → g y ≡ w → (r : ℕ) × (slice_get (pick g ss) r ≡ Some x) × IsPicked g ss k r x
        → (o : ℕ) × (slice_get (pick g (y ∷ ss)) o ≡ Some x) × IsPicked g (y ∷ ss) (suc k) o x
    go None f c =
        (c.0, ap (λ v. slice_get (cons_some v (pick g ss)) c.0) f ∙ c.1, (c.0, ap (λ v. after v c.0) (sym f), c.2))
    go (Some w) f c = (
      suc c.0,
      ap (λ v. slice_get (cons_some v (pick g ss)) (suc c.0)) f ∙ c.1,
      (c.0, ap (λ v. after v c.0) (sym f), c.2),
    )
