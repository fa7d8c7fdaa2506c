-- How ranges are added to a segment tree.
use Rattle.std.proofs.Common.{ℕ, zero, suc, ◌≡◌, ◌<◌, ◌≤◌, ◌+◌, ◌/◌, ◌%◌, ◌↔◌, List, [], ◌∷◌, ◌⊎◌, inl, inr, refl, sym}
use Rattle.std.proofs.Common.{ap, ◌∙◌}
use Rattle.std.proofs.Common.{subst, arith, length}
use Rattle.std.proofs.lemmas.Bool.{cases_eq, cases_lt}
use Rattle.automata_base.specs.Lists.{In}
use Rattle.automata_base.specs.Retraced.ReversedEdges.{list_at, push_at}
use Rattle.automata_transform.specs.Retraced.Segments.{above, IsOnWay, IsPutFirst, BeginsWithPair, PutsAtFirst}
use Rattle.automata_transform.specs.Retraced.Segments.{IsPutLast}
use Rattle.automata_transform.specs.Retraced.Segments.{EndsWithPair, PutsAtLast}
use Rattle.automata_base.proofs.Nfas.Mirrors.Lists.{push_same, push_other}
use Rattle.automata_transform.proofs.Nfas.Mirrors.Lists.{push_length}
use Rattle.automata_base.proofs.Paths.FirstVisits.{in_right}
use Rattle.automata_base.proofs.Paths.Walks.{in_either, in_left}

-- A node further up has at most half the index.
falls : (s j leaf : ℕ) → s < j → above j leaf ≤ above s leaf / 2
falls s zero leaf l = absurd (omega (arith, l))
falls s (suc j) leaf l = go (cases_eq s j) (λ g. falls s j leaf g)
  where
    go : (s ≡ j) ⊎ (s ≡ j → ⊥) → (s < j → above j leaf ≤ above s leaf / 2) → above j leaf / 2 ≤ above s leaf / 2
    go (inl e) ih = subst (λ v. above j leaf / 2 ≤ above v leaf / 2) (sym e) (omega arith)
    go (inr f) ih = let k : above j leaf ≤ above s leaf / 2 = ih (omega (arith, l, f)) in omega (arith, k)

-- A level of the tree has `width` nodes, at the indices from `width` on.
abbrev pub IsLevel : (steps width : ℕ) → Type 0
IsLevel steps width =
    (leaf : ℕ) → 256 ≤ leaf → leaf < 512 → (width ≤ above steps leaf) × (above steps leaf < width + width)

-- Halving `width` this many times gives 1.
abbrev pub Halves : (times width : ℕ) → Type 0
Halves zero width = width ≡ 1
Halves (suc times) width = (half : ℕ) × (width ≡ half + half) × Halves times half

level_up : (steps width half : ℕ) → width ≡ half + half → IsLevel steps width → IsLevel (suc steps) half
level_up steps width half e l leaf a b =
    let k = l leaf a b in
    let low = k.0 in
    let high = k.1 in
    (omega (arith, low, e), omega (arith, high, e))

below_or : (a b : ℕ) → (a ≡ b → ⊥) → (a < b) ⊎ (b < a)
below_or a b f = go (cases_lt a b)
  where
    go : (a < b) ⊎ (b ≤ a) → (a < b) ⊎ (b < a)
    go (inl g) = inl g
    go (inr g) = inr (omega (arith, f, g))

-- A node belongs to only one level.
same_level :
    (steps width s node leaf : ℕ) → IsLevel steps width → width ≤ node → node < width + width → 256 ≤ leaf → leaf < 512
    → above s leaf ≡ node → above steps leaf ≡ node
same_level steps width s node leaf l low high a b e = go (cases_eq s steps)
  where
    k : (width ≤ above steps leaf) × (above steps leaf < width + width)
    k = l leaf a b

    go : (s ≡ steps) ⊎ (s ≡ steps → ⊥) → above steps leaf ≡ node
    go (inl f) = ap (λ v. above v leaf) (sym f) ∙ e
    go (inr f) = order (below_or s steps f)
      where
        order : (s < steps) ⊎ (steps < s) → above steps leaf ≡ node
        order (inl g) =
            let h = falls s steps leaf g in
            let c = k.0 in
            absurd (omega (arith, h, c, high, e))
        order (inr g) =
            let h = falls steps s leaf g in
            let c = k.1 in
            absurd (omega (arith, h, c, low, e))

-- One more state in the list of a node.
pushed :
    (lists : List (List ℕ)) (steps width node next leaf t : ℕ) → IsLevel steps width → width ≤ node
    → node < width + width
    → node < length lists → 256 ≤ leaf → leaf < 512
    → IsOnWay (push_at lists node next) leaf t ↔ (IsOnWay lists leaf t ⊎ ((t ≡ next) × (above steps leaf ≡ node)))
pushed lists steps width node next leaf t l low high few a b = (forth, back)
  where
    forth : IsOnWay (push_at lists node next) leaf t → IsOnWay lists leaf t ⊎ ((t ≡ next) × (above steps leaf ≡ node))
    forth w = go (cases_eq node (above w.0 leaf))
      where
        go :
            (node ≡ above w.0 leaf) ⊎ (node ≡ above w.0 leaf → ⊥) → IsOnWay lists leaf t
            ⊎ ((t ≡ next) × (above steps leaf ≡ node))
        go (inl e) =
            at
            (in_either t (list_at lists node) (next ∷ [])
            (subst (λ v. In t v) (push_same lists node next few)
            (subst (λ v. In t (list_at (push_at lists node next) v)) (sym e) w.1)))
          where
            at :
                In t (list_at lists node) ⊎ In t (next ∷ []) → IsOnWay lists leaf t
                ⊎ ((t ≡ next) × (above steps leaf ≡ node))
            at (inl i) = inl (w.0, subst (λ v. In t (list_at lists v)) e i)
            at (inr (inl i)) = inr (i, same_level steps width w.0 node leaf l low high a b (sym e))
            at (inr (inr i)) = absurd i
        go (inr f) = inl (w.0, subst (λ v. In t v) (push_other lists node (above w.0 leaf) next f) w.1)

    back : IsOnWay lists leaf t ⊎ ((t ≡ next) × (above steps leaf ≡ node)) → IsOnWay (push_at lists node next) leaf t
    back (inl w) = go (cases_eq node (above w.0 leaf))
      where
        go : (node ≡ above w.0 leaf) ⊎ (node ≡ above w.0 leaf → ⊥) → IsOnWay (push_at lists node next) leaf t
        go (inl e) = (
          w.0,
          subst (λ v. In t (list_at (push_at lists node next) v)) e
              (subst (λ v. In t v) (sym (push_same lists node next few))
              (in_left t (list_at lists node) (next ∷ []) (subst (λ v. In t (list_at lists v)) (sym e) w.1))),
        )
        go (inr f) = (w.0, subst (λ v. In t v) (sym (push_other lists node (above w.0 leaf) next f)) w.1)
    back (inr w) = (
      steps,
      subst (λ v. In t (list_at (push_at lists node next) v)) (sym w.1)
          (subst (λ v. In t v) (sym (push_same lists node next few))
          (in_right t (list_at lists node) (next ∷ []) (inl w.0))),
    )

-- What is stored already, together with the remaining nodes of a level, covers the old lists and the range.
abbrev pub Covers : (old now : List (List ℕ)) → (lo hi next steps left end : ℕ) → Type 0
Covers old now lo hi next steps left end =
    (u t : ℕ) → u < 256
    → (IsOnWay now (u + 256) t ⊎ ((t ≡ next) × (left ≤ above steps (u + 256)) × (above steps (u + 256) < end)))
    ↔ (IsOnWay old (u + 256) t ⊎ ((t ≡ next) × (lo ≤ u) × (u ≤ hi)))

-- The nodes from `left` up to `end`, exclusive, belong to one level, or there are none.
abbrev pub AreOfLevel : (steps left end : ℕ) → Type 0
AreOfLevel steps left end =
    (end ≤ left)
    ⊎ ((width times : ℕ) × IsLevel steps width × Halves times width × (width ≤ left) × (end ≤ width + width))

-- The range is stored except at the nodes from `left` up to `end`, exclusive.
pub record Putting (old now : List (List ℕ)) (lo hi next left end : ℕ) : Type 0 where
  pub steps : ℕ
  pub level : AreOfLevel steps left end
  pub covers : Covers old now lo hi next steps left end
  pub few : end ≤ 512

leaf_of : (u : ℕ) → u < 256 → (256 ≤ u + 256) × (u + 256 < 512)
leaf_of u l = (omega (arith, l), omega (arith, l))

-- The first remaining node is a right child, and is stored now.
covers_first :
    (old now : List (List ℕ)) (lo hi next steps left end width : ℕ) → IsLevel steps width → width ≤ left
    → left < width + width → left < length now → left < end
    → Covers old now lo hi next steps left end → Covers old (push_at now left next) lo hi next steps (left + 1) end
covers_first old now lo hi next steps left end width l low high few some c u t v =
    let leaf = leaf_of u v in
    let p = pushed now steps width left next (u + 256) t l low high few leaf.0 leaf.1 in
    ((λ w. (c u t v).0 (forth p.0 w)), λ w. back p.1 ((c u t v).1 w))
  where
    forth :
        (IsOnWay (push_at now left next) (u + 256) t → IsOnWay now (u + 256) t
        ⊎ ((t ≡ next) × (above steps (u + 256) ≡ left)))
        → IsOnWay (push_at now left next) (u + 256) t
        ⊎ ((t ≡ next) × (left + 1 ≤ above steps (u + 256)) × (above steps (u + 256) < end))
        → IsOnWay now (u + 256) t ⊎ ((t ≡ next) × (left ≤ above steps (u + 256)) × (above steps (u + 256) < end))
    forth p (inl w) = go (p w)
      where
        go :
            IsOnWay now (u + 256) t ⊎ ((t ≡ next) × (above steps (u + 256) ≡ left))
            → IsOnWay now (u + 256) t ⊎ ((t ≡ next) × (left ≤ above steps (u + 256)) × (above steps (u + 256) < end))
        go (inl x) = inl x
        go (inr x) = let e = x.1 in inr (x.0, omega (arith, e), omega (arith, e, some))
    forth p (inr w) = let e = w.1 in inr (w.0, omega (arith, e), w.2)

    back :
        (IsOnWay now (u + 256) t ⊎ ((t ≡ next) × (above steps (u + 256) ≡ left))
        → IsOnWay (push_at now left next) (u + 256) t)
        → IsOnWay now (u + 256) t ⊎ ((t ≡ next) × (left ≤ above steps (u + 256)) × (above steps (u + 256) < end))
        → IsOnWay (push_at now left next) (u + 256) t
        ⊎ ((t ≡ next) × (left + 1 ≤ above steps (u + 256)) × (above steps (u + 256) < end))
    back p (inl w) = inl (p (inl w))
    back p (inr w) = go (cases_eq (above steps (u + 256)) left)
      where
        go :
            (above steps (u + 256) ≡ left) ⊎ (above steps (u + 256) ≡ left → ⊥)
            → IsOnWay (push_at now left next) (u + 256) t
            ⊎ ((t ≡ next) × (left + 1 ≤ above steps (u + 256)) × (above steps (u + 256) < end))
        go (inl e) = inl (p (inr (w.0, e)))
        go (inr f) = let e = w.1 in inr (w.0, omega (arith, e, f), w.2)

-- The last remaining node is a left child, and is stored now.
covers_last :
    (old now : List (List ℕ)) (lo hi next steps left last end width : ℕ) → IsLevel steps width → width ≤ last
    → last < width + width → last < length now → left ≤ last → last + 1 ≡ end
    → Covers old now lo hi next steps left end → Covers old (push_at now last next) lo hi next steps left last
covers_last old now lo hi next steps left last end width l low high few some is c u t v =
    let leaf = leaf_of u v in
    let p = pushed now steps width last next (u + 256) t l low high few leaf.0 leaf.1 in
    ((λ w. (c u t v).0 (forth p.0 w)), λ w. back p.1 ((c u t v).1 w))
  where
    forth :
        (IsOnWay (push_at now last next) (u + 256) t → IsOnWay now (u + 256) t
        ⊎ ((t ≡ next) × (above steps (u + 256) ≡ last)))
        → IsOnWay (push_at now last next) (u + 256) t
        ⊎ ((t ≡ next) × (left ≤ above steps (u + 256)) × (above steps (u + 256) < last))
        → IsOnWay now (u + 256) t ⊎ ((t ≡ next) × (left ≤ above steps (u + 256)) × (above steps (u + 256) < end))
    forth p (inl w) = go (p w)
      where
        go :
            IsOnWay now (u + 256) t ⊎ ((t ≡ next) × (above steps (u + 256) ≡ last))
            → IsOnWay now (u + 256) t ⊎ ((t ≡ next) × (left ≤ above steps (u + 256)) × (above steps (u + 256) < end))
        go (inl x) = inl x
        go (inr x) = let e = x.1 in inr (x.0, omega (arith, e, some), omega (arith, e, is))
    forth p (inr w) = let e = w.2 in inr (w.0, w.1, omega (arith, e, is))

    back :
        (IsOnWay now (u + 256) t ⊎ ((t ≡ next) × (above steps (u + 256) ≡ last))
        → IsOnWay (push_at now last next) (u + 256) t)
        → IsOnWay now (u + 256) t ⊎ ((t ≡ next) × (left ≤ above steps (u + 256)) × (above steps (u + 256) < end))
        → IsOnWay (push_at now last next) (u + 256) t
        ⊎ ((t ≡ next) × (left ≤ above steps (u + 256)) × (above steps (u + 256) < last))
    back p (inl w) = inl (p (inl w))
    back p (inr w) = go (cases_eq (above steps (u + 256)) last)
      where
        go :
            (above steps (u + 256) ≡ last) ⊎ (above steps (u + 256) ≡ last → ⊥)
            → IsOnWay (push_at now last next) (u + 256) t
            ⊎ ((t ≡ next) × (left ≤ above steps (u + 256)) × (above steps (u + 256) < last))
        go (inl e) = inl (p (inr (w.0, e)))
        go (inr f) = let e = w.2 in inr (w.0, w.1, omega (arith, e, f, is))

-- Goes one level up if the remaining nodes are pairs of children.
covers_up :
    (old now : List (List ℕ)) (lo hi next steps left end : ℕ) → left % 2 ≡ 0 → end % 2 ≡ 0
    → Covers old now lo hi next steps left end → Covers old now lo hi next (suc steps) (left / 2) (end / 2)
covers_up old now lo hi next steps left end a b c u t v = ((λ w. (c u t v).0 (forth w)), λ w. back ((c u t v).1 w))
  where
    forth :
        IsOnWay now (u + 256) t
        ⊎ ((t ≡ next) × (left / 2 ≤ above steps (u + 256) / 2) × (above steps (u + 256) / 2 < end / 2))
        → IsOnWay now (u + 256) t ⊎ ((t ≡ next) × (left ≤ above steps (u + 256)) × (above steps (u + 256) < end))
    forth (inl w) = inl w
    forth (inr w) = let e = w.1 in let f = w.2 in inr (w.0, omega (arith, a, e), omega (arith, b, f))

    back :
        IsOnWay now (u + 256) t ⊎ ((t ≡ next) × (left ≤ above steps (u + 256)) × (above steps (u + 256) < end))
        → IsOnWay now (u + 256) t
        ⊎ ((t ≡ next) × (left / 2 ≤ above steps (u + 256) / 2) × (above steps (u + 256) / 2 < end / 2))
    back (inl w) = inl w
    back (inr w) = let e = w.1 in let f = w.2 in inr (w.0, omega (arith, e), omega (arith, b, f))

pub put_begin : (old : List (List ℕ)) (lo hi next : ℕ) → hi < 256 → Putting old old lo hi next (lo + 256) (hi + 256 + 1)
put_begin old lo hi next l = record {
  steps = 0;
  level = inr (
    256,
    8,
    (λ leaf a b. (a, omega (arith, b))),
    (128, refl, (64, refl, (32, refl, (16, refl, (8, refl, (4, refl, (2, refl, (1, refl, refl)))))))),
    omega arith,
    omega (arith, l),
  );
  covers = λ u t v. (forth u t, back u t);
  few = omega (arith, l);
}
  where
    forth :
        (u t : ℕ)
        → IsOnWay old (u + 256) t ⊎ ((t ≡ next) × (lo + 256 ≤ u + 256) × (u + 256 < hi + 256 + 1))
        → IsOnWay old (u + 256) t ⊎ ((t ≡ next) × (lo ≤ u) × (u ≤ hi))
    forth u t (inl w) = inl w
    forth u t (inr w) = let e = w.1 in let f = w.2 in inr (w.0, omega (arith, e), omega (arith, f))

    back :
        (u t : ℕ)
        → IsOnWay old (u + 256) t ⊎ ((t ≡ next) × (lo ≤ u) × (u ≤ hi))
        → IsOnWay old (u + 256) t ⊎ ((t ≡ next) × (lo + 256 ≤ u + 256) × (u + 256 < hi + 256 + 1))
    back u t (inl w) = inl w
    back u t (inr w) = let e = w.1 in let f = w.2 in inr (w.0, omega (arith, e), omega (arith, f))

module _ (old now mid new : List (List ℕ)) (lo hi next left end first last : ℕ) (some : left < end)
    (few : length now ≡ 512)
    (f : IsPutFirst now mid left next first) (g : IsPutLast mid new end next last) where
  first_even : first % 2 ≡ 0
  first_even = go f
    where
      go : IsPutFirst now mid left next first → first % 2 ≡ 0
      go (BeginsWithPair a b e) = omega (arith, a, b)
      go (PutsAtFirst a b e) = omega (arith, a, b)

  last_even : last % 2 ≡ 0
  last_even = go g
    where
      go : IsPutLast mid new end next last → last % 2 ≡ 0
      go (EndsWithPair a b e) = omega (arith, a, b)
      go (PutsAtLast a b e) = omega (arith, a, b)

  first_from : (left ≤ first) × (first ≤ left + 1)
  first_from = go f
    where
      go : IsPutFirst now mid left next first → (left ≤ first) × (first ≤ left + 1)
      go (BeginsWithPair a b e) = (omega (arith, b), omega (arith, b))
      go (PutsAtFirst a b e) = (omega (arith, b), omega (arith, b))

  last_to : (last ≤ end) × (end ≤ last + 1)
  last_to = go g
    where
      go : IsPutLast mid new end next last → (last ≤ end) × (end ≤ last + 1)
      go (EndsWithPair a b e) = (omega (arith, b), omega (arith, b))
      go (PutsAtLast a b e) = (omega (arith, b), omega (arith, b))

  mid_length : length mid ≡ 512
  mid_length = go f
    where
      go : IsPutFirst now mid left next first → length mid ≡ 512
      go (BeginsWithPair a b e) = ap (λ (z : List (List ℕ)). length z) e ∙ few
      go (PutsAtFirst a b e) = ap (λ (z : List (List ℕ)). length z) e ∙ (push_length now left next ∙ few)

  covers_mid :
      (steps width : ℕ) → IsLevel steps width → width ≤ left → end ≤ width + width → end ≤ 512
      → Covers old now lo hi next steps left end → Covers old mid lo hi next steps first end
  covers_mid steps width l low high short c = go f
    where
      go : IsPutFirst now mid left next first → Covers old mid lo hi next steps first end
      go (BeginsWithPair a b e) =
          subst (λ (z : List (List ℕ)). Covers old z lo hi next steps first end) (sym e)
          (subst (λ v. Covers old now lo hi next steps v end) (sym b) c)
      go (PutsAtFirst a b e) =
          subst (λ (z : List (List ℕ)). Covers old z lo hi next steps first end) (sym e)
          (subst (λ v. Covers old (push_at now left next) lo hi next steps v end) (sym b)
          (covers_first old now lo hi next steps left end width l low (omega (arith, some, high))
          (omega (arith, some, short, few)) some c))

  covers_new :
      (steps width : ℕ) → IsLevel steps width → width ≤ left → end ≤ width + width → end ≤ 512
      → Covers old mid lo hi next steps first end → Covers old new lo hi next steps first last
  covers_new steps width l low high short c = go g
    where
      go : IsPutLast mid new end next last → Covers old new lo hi next steps first last
      go (EndsWithPair a b e) =
          subst (λ (z : List (List ℕ)). Covers old z lo hi next steps first last) (sym e)
          (subst (λ v. Covers old mid lo hi next steps first v) (sym b) c)
      go (PutsAtLast odd is e) =
          let even = first_even in
          let from = first_from.1 in
          let long = mid_length in
          subst (λ (z : List (List ℕ)). Covers old z lo hi next steps first last) (sym e)
          (covers_last old mid lo hi next steps first last end width l (omega (arith, is, some, low))
          (omega (arith, is, high)) (omega (arith, is, short, long)) (omega (arith, is, some, odd, even, from)) is c)

  level_next : (steps width times : ℕ) → IsLevel steps width → Halves times width → width ≤ left → end ≤ width + width
      → AreOfLevel (suc steps) (first / 2) (last / 2)
  level_next steps width zero l h low high =
      let even = first_even in
      let from = first_from.0 in
      let to = last_to.0 in
      inl (omega (arith, h, low, high, some, even, from, to))
  level_next steps width (suc times) l h low high =
      let e = h.1 in
      let from = first_from.0 in
      let to = last_to.0 in
      inr (
        h.0,
        times,
        level_up steps width h.0 h.1 l,
        h.2,
        omega (arith, e, low, from),
        omega (arith, e, high, to),
      )

  pub put_step : Putting old now lo hi next left end → Putting old new lo hi next (first / 2) (last / 2)
  put_step p = go p.level
    where
      go : AreOfLevel p.steps left end → Putting old new lo hi next (first / 2) (last / 2)
      go (inl h) = absurd (omega (arith, h, some))
      go (inr h) = record {
        steps = suc p.steps;
        level = level_next p.steps h.0 h.1 h.2 h.3 h.4 h.5;
        covers =
            covers_up old new lo hi next p.steps first last first_even last_even
            (covers_new p.steps h.0 h.2 h.4 h.5 p.few (covers_mid p.steps h.0 h.2 h.4 h.5 p.few p.covers));
        few = let a = p.few in let b = last_to.0 in omega (arith, a, b);
      }

pub put_done :
    (old now : List (List ℕ)) (lo hi next left end : ℕ) → Putting old now lo hi next left end → end ≤ left → (u t : ℕ)
    → u < 256
    → IsOnWay now (u + 256) t ↔ (IsOnWay old (u + 256) t ⊎ ((t ≡ next) × (lo ≤ u) × (u ≤ hi)))
put_done old now lo hi next left end p none u t l =
    ((λ w. (p.covers u t l).0 (inl w)), λ w. back ((p.covers u t l).1 w))
  where
    back :
        IsOnWay now (u + 256) t ⊎ ((t ≡ next) × (left ≤ above p.steps (u + 256)) × (above p.steps (u + 256) < end))
        → IsOnWay now (u + 256) t
    back (inl w) = w
    back (inr w) = let a = w.1 in let b = w.2 in absurd (omega (arith, a, b, none))
