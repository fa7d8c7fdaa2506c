-- A set that marks the numbers of a list below its bound.
use Rattle.std.proofs.Common.{ℕ, ◌≡◌, ◌<◌, ◌≤◌, ◌⊎◌, inl, inr, ◌++◌, List, [], ◌∷◌, Bool, true, false, not, cond}
use Rattle.std.proofs.Common.{refl, sym, ap, ◌∙◌, subst, arith, append-nil}
use Rattle.automata_base.specs.Lists.{In}
use Rattle.automata_base.specs.Powersets.Members.{Members, AreMarks}
use Rattle.automata_base.specs.Retraced.Computed.{is_in}
use Rattle.automata_base.proofs.Paths.Fuels.{is_in_true, is_in_false}
use Rattle.automata_base.proofs.Paths.FirstVisits.{in_right}
use Rattle.automata_base.proofs.Paths.Walks.{in_left, in_either}

-- A number that is in the list is found there.
pub found : (p : ℕ) (ys : List ℕ) → In p ys → is_in p ys ≡ true
found p ys i = decide (is_in p ys) refl
  where
    decide : (b : Bool) → is_in p ys ≡ b → is_in p ys ≡ true
    decide true e = e
    decide false e = elim (is_in_false p ys e i) [ ]

-- A number that is not in the list is not found there.
pub not_found : (p : ℕ) (ys : List ℕ) → (In p ys → ⊥) → is_in p ys ≡ false
not_found p ys out = decide (is_in p ys) refl
  where
    decide : (b : Bool) → is_in p ys ≡ b → is_in p ys ≡ false
    decide true e = elim (out (is_in_true p ys e)) [ ]
    decide false e = e

-- If the number is marked, nothing is added.
pub marks_had :
    (p : ℕ) (ys : List ℕ) (old new : Members) → AreMarks ys old → p < old.capacity → In p old.items
    → new.items ≡ old.items → new.capacity ≡ old.capacity
    → (is_in p ys ≡ true) × AreMarks (ys ++ cond (is_in p ys) [] (p ∷ [])) new
marks_had p ys old new marks below i same whole =
    let there : is_in p ys ≡ true = found p ys ((marks p below).0 i) in (
      there,
      λ q low.
          let both = marks q (subst (λ z. q < z) whole low) in
          let list : ys ++ cond (is_in p ys) [] (p ∷ []) ≡ ys =
          ap (λ b. ys ++ cond b [] (p ∷ [])) there ∙ append-nil ys in (
            λ j. subst (λ z. In q z) (sym list) (both.0 (subst (λ z. In q z) same j)),
            λ j. subst (λ z. In q z) (sym same) (both.1 (subst (λ z. In q z) list j)),
          ),
    )

-- If the number is not marked, it is added to both.
pub marks_added :
    (p : ℕ) (ys : List ℕ) (old new : Members) → AreMarks ys old → p < old.capacity → (In p old.items → ⊥)
    → new.items ≡ old.items ++ p ∷ []
    → new.capacity ≡ old.capacity → (is_in p ys ≡ false) × AreMarks (ys ++ cond (is_in p ys) [] (p ∷ [])) new
marks_added p ys old new marks below out more whole =
    let there : is_in p ys ≡ false = not_found p ys (λ i. out ((marks p below).1 i)) in (
      there,
      λ q low.
          let both = marks q (subst (λ z. q < z) whole low) in
          let list : ys ++ cond (is_in p ys) [] (p ∷ []) ≡ ys ++ p ∷ [] = ap (λ b. ys ++ cond b [] (p ∷ [])) there in (
            λ j. subst (λ z. In q z) (sym list)
                (one q ys (both.0) (in_either q old.items (p ∷ []) (subst (λ z. In q z) more j))),
            λ j. subst (λ z. In q z) (sym more) (two q (both.1) (in_either q ys (p ∷ []) (subst (λ z. In q z) list j))),
          ),
    )
  where
    one : (q : ℕ) (zs : List ℕ) → (In q old.items → In q zs) → In q old.items ⊎ In q (p ∷ []) → In q (zs ++ p ∷ [])
    one q zs f (inl i) = in_left q zs (p ∷ []) (f i)
    one q zs f (inr i) = in_right q zs (p ∷ []) i

    two : (q : ℕ) → (In q ys → In q old.items) → In q ys ⊎ In q (p ∷ []) → In q (old.items ++ p ∷ [])
    two q f (inl i) = in_left q old.items (p ∷ []) (f i)
    two q f (inr i) = in_right q old.items (p ∷ []) i

-- A number past the bound leaves the marks as they are.
pub marks_past :
    (p : ℕ) (ys : List ℕ) (m : Members) → AreMarks ys m → m.capacity ≤ p
    → AreMarks (ys ++ cond (is_in p ys) [] (p ∷ [])) m
marks_past p ys m marks past q low =
    (λ i. in_left q ys _ ((marks q low).0 i), λ i. (marks q low).1 (back (is_in p ys) (in_either q ys _ i)))
  where
    back : (b : Bool) → In q ys ⊎ In q (cond b [] (p ∷ [])) → In q ys
    back b (inl i) = i
    back true (inr i) = elim i [ ]
    back false (inr (inl e)) = let wrong : ⊥ = omega (arith, e, low, past) in elim wrong [ ]
    back false (inr (inr i)) = elim i [ ]

-- A number below the bound is added exactly if the list does not contain it.
pub marked :
    (p id : ℕ) (ys : List ℕ) (old new : Members) (r : Bool) → id ≡ p → AreMarks ys old → p < old.capacity
    → (r ≡ true → In id old.items → ⊥) → (r ≡ true → new.items ≡ old.items ++ id ∷ []) → (r ≡ false → In id old.items)
    → (r ≡ false → new.items ≡ old.items) → new.capacity ≡ old.capacity
    → (r ≡ not (is_in p ys)) × AreMarks (ys ++ cond (is_in p ys) [] (p ∷ [])) new
marked p id ys old new true e marks below out more had same whole =
    let h =
    marks_added p ys old new marks below (λ i. out refl (subst (λ z. In z old.items) (sym e) i))
    (more refl ∙ ap (λ z. old.items ++ z ∷ []) e) whole in
    (sym (ap not h.0), h.1)
marked p id ys old new false e marks below out more had same whole =
    let h = marks_had p ys old new marks below (subst (λ z. In z old.items) e (had refl)) (same refl) whole in
    (sym (ap not h.0), h.1)

-- The list after one more number, which it may already have.
pub marks_next :
    (p : ℕ) (ys slice more : List ℕ) (m : Members) (r : Bool) → slice ≡ ys → r ≡ not (is_in p slice)
    → AreMarks (slice ++ cond (is_in p slice) [] (p ∷ [])) m → more ≡ ys ++ cond (not r) [] (p ∷ []) → AreMarks more m
marks_next p ys slice more m r e new marks next =
    subst (λ z. AreMarks z m)
    (sym (next ∙ same (is_in p slice) r new ∙ ap (λ z. z ++ cond (is_in p slice) [] (p ∷ [])) (sym e))) marks
  where
    same : (b r : Bool) → r ≡ not b → ys ++ cond (not r) [] (p ∷ []) ≡ ys ++ cond b [] (p ∷ [])
    same true r h = ap (λ z. ys ++ cond (not z) [] (p ∷ [])) h
    same false r h = ap (λ z. ys ++ cond (not z) [] (p ∷ [])) h
