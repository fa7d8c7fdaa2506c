-- Where a sparse set holds its members, and how an insertion changes it.
use Rattle.std.proofs.Common.{◌≡◌, ◌<◌, ◌+◌, ◌⊎◌, ℕ, suc, true, false, cond, eqb, List, [], ◌∷◌, ◌++◌, length}
use Rattle.std.proofs.Common.{get_or, set, take, sym, ap, ◌∙◌, subst, inl, inr, arith}
use Rattle.std.proofs.lemmas.Bool.Decides.{eqb_tells}
use Rattle.std.proofs.lemmas.List.{get_or-take, get_or_default, length-take-le, take_more_set, length-set}
use Rattle.automata_base.specs.Lists.{In}
use Rattle.automata_base.specs.Powersets.Members.{Members}
use Rattle.automata_base.specs.Powersets.SparseSet.{members_of, IsSparse}
use Rattle.automata_base.specs.Retraced.ReversedEdges.{place_in}
use Rattle.automata_base.specs.declared.util.sparse_set.SparseSet.TheInside.{Inside}
use Rattle.automata_base.proofs.Powersets.Distinct.{In-get_or}
use Rattle.automata_base.proofs.Powersets.Holding.{has_room, below_set, back_set}

-- A member is found at its index.
pub at_place :
    (items : List ℕ) (q : ℕ) → In q items → (place_in items q < length items) × (get_or items (place_in items q) 0 ≡ q)
at_place [] q i = absurd i
at_place (x ∷ xs) q i = go (eqb_tells x q) i (at_place xs q)
  where
    go :
        ((eqb x q ≡ true) × (x ≡ q)) ⊎ ((eqb x q ≡ false) × (x ≡ q → ⊥)) → In q (x ∷ xs)
        → (In q xs → (place_in xs q < length xs) × (get_or xs (place_in xs q) 0 ≡ q))
        → (place_in (x ∷ xs) q < length (x ∷ xs)) × (get_or (x ∷ xs) (place_in (x ∷ xs) q) 0 ≡ q)
    go (inl e) i ih =
        subst (λ b. (cond b 0 (suc (place_in xs q)) < length (x ∷ xs))
        × (get_or (x ∷ xs) (cond b 0 (suc (place_in xs q))) 0 ≡ q))
        (sym e.0) (omega arith, e.1)
    go (inr e) (inl f) ih = absurd (e.1 (sym f))
    go (inr e) (inr j) ih =
        let w = ih j in
        subst (λ b. (cond b 0 (suc (place_in xs q)) < length (x ∷ xs))
        × (get_or (x ∷ xs) (cond b 0 (suc (place_in xs q))) 0 ≡ q))
        (sym e.0) (omega (arith, w.0), w.1)

-- Where a sparse set holds a member.
module _ (s : Inside) (inv : IsSparse s) where
  short : length (take s.len s.dense.items) ≡ s.len
  short = length-take-le s.len s.dense.items inv.within

  pub sparse_place :
      (q : ℕ) → In q (take s.len s.dense.items)
      → (q < length s.sparse.items) × (get_or s.sparse.items q 0 ≡ place_in (take s.len s.dense.items) q)
  sparse_place q i =
      (inside, sym (ap (λ z. get_or s.sparse.items z 0) here) ∙ inv.back (place_in (take s.len s.dense.items) q) within)
    where
      at :
          (place_in (take s.len s.dense.items) q < length (take s.len s.dense.items))
          × (get_or (take s.len s.dense.items) (place_in (take s.len s.dense.items) q) 0 ≡ q)
      at = at_place (take s.len s.dense.items) q i

      within : place_in (take s.len s.dense.items) q < s.len
      within = omega (arith, at.0, short)

      here : get_or s.dense.items (place_in (take s.len s.dense.items) q) 0 ≡ q
      here = sym (get_or-take s.len s.dense.items (place_in (take s.len s.dense.items) q) 0 within) ∙ at.1

      inside : q < length s.sparse.items
      inside = let b = inv.below (place_in (take s.len s.dense.items) q) within in omega (arith, b, here, inv.same)

  -- A number is a member exactly if it is found at the index that was read for it.
  module _ (id at i here : ℕ) (same : at ≡ id) (place : i ≡ get_or s.sparse.items at i) where
    pub is_member : i < s.len → here ≡ get_or s.dense.items i here → here ≡ id → In id (take s.len s.dense.items)
    is_member l read e =
        subst (λ z. In z (take s.len s.dense.items))
        (get_or-take s.len s.dense.items i here l ∙ (sym read ∙ e))
        (In-get_or (take s.len s.dense.items) i here (omega (arith, l, short)))

    pub stands : In id (take s.len s.dense.items) → (i < s.len) × (get_or s.dense.items i 0 ≡ id)
    stands member = (omega (arith, spot, at_it.0, short), found)
      where
        p : (id < length s.sparse.items) × (get_or s.sparse.items id 0 ≡ place_in (take s.len s.dense.items) id)
        p = sparse_place id member

        at_it :
            (place_in (take s.len s.dense.items) id < length (take s.len s.dense.items))
            × (get_or (take s.len s.dense.items) (place_in (take s.len s.dense.items) id) 0 ≡ id)
        at_it = at_place (take s.len s.dense.items) id member

        spot : i ≡ place_in (take s.len s.dense.items) id
        spot = place ∙ (ap (λ z. get_or s.sparse.items z i) same ∙ (get_or_default s.sparse.items id i 0 p.0 ∙ p.1))

        found : get_or s.dense.items i 0 ≡ id
        found =
            ap (λ z. get_or s.dense.items z 0) spot
            ∙ (sym (get_or-take s.len s.dense.items (place_in (take s.len s.dense.items) id) 0
            (omega (arith, at_it.0, short))) ∙ at_it.1)

    pub is_other : here ≡ get_or s.dense.items i here → (here ≡ id → ⊥) → In id (take s.len s.dense.items) → ⊥
    is_other read other member =
        let w = stands member in
        other (read ∙ (get_or_default s.dense.items i here 0 (omega (arith, w.0, inv.within)) ∙ w.1))

module _ (s : Inside) (v : Members) (id : ℕ) (inv : IsSparse s) (view : members_of s ≡ v) (fits : id < v.capacity)
    (new : In id v.items → ⊥) where
  fits' : id < length s.dense.items
  fits' = subst (λ z. id < z) (sym (ap (λ w. w.capacity) view)) fits

  new' : In id (take s.len s.dense.items) → ⊥
  new' h = new (subst (λ z. In id z) (ap (λ w. w.items) view) h)

  pub room : s.len < length s.dense.items
  room = has_room s.dense.items s.sparse.items s.len inv.within inv.below inv.back id fits' new'

  pub below_more :
      (k : ℕ) → k < s.len + 1 → get_or (set s.dense.items s.len id) k 0 < length (set s.dense.items s.len id)
  below_more k l = below_set s.dense.items s.sparse.items s.len inv.within inv.below inv.back id k fits' room l

  pub back_more :
      (k : ℕ) → k < s.len + 1 → get_or (set s.sparse.items id s.len) (get_or (set s.dense.items s.len id) k 0) 0 ≡ k
  back_more k l =
      let both : length s.sparse.items ≡ length s.dense.items = inv.same in
      let at : id < length s.sparse.items = subst (λ z. id < z) (sym both) fits' in
      back_set s.dense.items s.sparse.items s.len inv.within inv.below inv.back id k at room new' l

  pub items_more : take (s.len + 1) (set s.dense.items s.len id) ≡ v.items ++ id ∷ []
  items_more = take_more_set s.dense.items s.len id room ∙ ap (λ w. w.items ++ id ∷ []) view

  pub lengths_more :
      (length (set s.dense.items s.len id) ≡ length s.dense.items)
      × (length (set s.sparse.items id s.len) ≡ length s.dense.items)
  lengths_more = (length-set s.dense.items s.len id, length-set s.sparse.items id s.len ∙ inv.same)
