-- The members of a sparse set, by its two lists.
use Rattle.std.proofs.Common.{◌≡◌, ◌<◌, ◌≤◌, ◌+◌, ◌⊎◌, ℕ, List, [], ◌∷◌, ◌++◌, length, get_or, set, take, sym, ap, ◌∙◌}
use Rattle.std.proofs.Common.{subst, inl, inr, arith, length-append}
use Rattle.std.specs.Prelude.{AllPairs, ◌≢◌}
use Rattle.std.proofs.lemmas.Bool.{cases_eq}
use Rattle.std.proofs.lemmas.List.{get_or-take, length-take-le, get_or_default, length-set, get_or-set_same}
use Rattle.std.proofs.lemmas.List.{get_or-set_other}
use Rattle.automata_base.specs.Lists.{In, Distinct}
use Rattle.automata_base.proofs.Powersets.Distinct.{Contains-In, In-Contains, pairs_distinct, distinct_append}
use Rattle.automata_base.proofs.Powersets.Distinct.{distinct_below}
use Rattle.automata_base.proofs.Paths.Walks.{in_either}

module _ (dense sparse : List ℕ) (len : ℕ) (within : len ≤ length dense)
    (below : (k : ℕ) → k < len → get_or dense k 0 < length dense)
    (back : (k : ℕ) → k < len → get_or sparse (get_or dense k 0) 0 ≡ k) where
  taken : (k d : ℕ) → k < len → get_or (take len dense) k d ≡ get_or dense k 0
  taken k d l = get_or-take len dense k d l ∙ get_or_default dense k d 0 (let h : k < length dense = omega arith in h)

  apart : AllPairs (λ x y. x ≢ y) (take len dense)
  apart i j d l m e =
      let n : length (take len dense) ≡ len = length-take-le len dense within in
      let lj : j < len = omega arith in
      let li : i < len = omega arith in
      let same : get_or dense i 0 ≡ get_or dense j 0 = sym (taken i d li) ∙ (e ∙ taken j d lj) in
      let at : i ≡ j = sym (back i li) ∙ (ap (λ z. get_or sparse z 0) same ∙ back j lj) in
      omega arith

  pub members_distinct : Distinct (take len dense)
  members_distinct = pairs_distinct (take len dense) apart

  pub members_below : (x : ℕ) → In x (take len dense) → x < length dense
  members_below x i =
      let (k, l, e) = Contains-In x (take len dense) i in
      let n : length (take len dense) ≡ len = length-take-le len dense within in
      let lk : k < len = omega arith in
      let at : get_or dense k 0 ≡ x = sym (taken k x lk) ∙ e in
      let b : get_or dense k 0 < length dense = below k lk in
      omega arith

  -- If a number below the capacity is not a member, there is room for it.
  pub has_room : (id : ℕ) → id < length dense → (In id (take len dense) → ⊥) → len < length dense
  has_room id l new =
      let most : length (take len dense ++ id ∷ []) ≤ length dense =
      distinct_below (length dense) (take len dense ++ id ∷ []) all (λ x i. small x i) in
      let parts : length (take len dense ++ id ∷ []) ≡ length (take len dense) + 1 =
      length-append (take len dense) (id ∷ []) in
      let n : length (take len dense) ≡ len = length-take-le len dense within in
      omega arith
    where
      only : (x : ℕ) → In x (take len dense) → In x (id ∷ []) → ⊥
      only x i (inl e) = new (subst (λ z. In z (take len dense)) e i)
      only x i (inr j) = j

      all : Distinct (take len dense ++ id ∷ [])
      all = distinct_append (take len dense) (id ∷ []) members_distinct ((λ i. i), tt) only

      split : (x : ℕ) → In x (take len dense) ⊎ In x (id ∷ []) → x < length dense
      split x (inl i) = members_below x i
      split x (inr (inl e)) = subst (λ z. z < length dense) (sym e) l
      split x (inr (inr i)) = elim i [ ]

      small : (x : ℕ) → In x (take len dense ++ id ∷ []) → x < length dense
      small x i = split x (in_either x (take len dense) (id ∷ []) i)

  pub below_set :
      (id k : ℕ) → id < length dense → len < length dense → k < len + 1
      → get_or (set dense len id) k 0 < length (set dense len id)
  below_set id k l room m = go (cases_eq k len)
    where
      go : (k ≡ len) ⊎ (k ≡ len → ⊥) → get_or (set dense len id) k 0 < length (set dense len id)
      go (inl e) =
          let at : get_or (set dense len id) k 0 ≡ id =
          ap (λ z. get_or (set dense len id) z 0) e ∙ get_or-set_same dense len id 0 room in
          let n : length (set dense len id) ≡ length dense = length-set dense len id in
          omega arith
      go (inr ne) =
          let at : get_or (set dense len id) k 0 ≡ get_or dense k 0 = get_or-set_other dense len k id 0 ne in
          let n : length (set dense len id) ≡ length dense = length-set dense len id in
          let lk : k < len = omega arith in
          let b : get_or dense k 0 < length dense = below k lk in
          omega arith

  pub back_set : (id k : ℕ) → id < length sparse → len < length dense → (In id (take len dense) → ⊥) → k < len + 1 →
      get_or (set sparse id len) (get_or (set dense len id) k 0) 0 ≡ k
  back_set id k l room new m = go (cases_eq k len)
    where
      go : (k ≡ len) ⊎ (k ≡ len → ⊥) → get_or (set sparse id len) (get_or (set dense len id) k 0) 0 ≡ k
      go (inl e) =
          ap (λ z. get_or (set sparse id len) z 0)
          (ap (λ z. get_or (set dense len id) z 0) e ∙ get_or-set_same dense len id 0 room)
          ∙ (get_or-set_same sparse id len 0 l ∙ sym e)
      go (inr ne) =
          let lk : k < len = omega arith in
          let other : get_or dense k 0 ≡ id → ⊥ =
          λ e. new
          (In-Contains id (take len dense) (
            k,
            (let n : length (take len dense) ≡ len = length-take-le len dense within in
                let h : k < length (take len dense) = omega arith in h),
            taken k id lk ∙ e,
          )) in
          ap (λ z. get_or (set sparse id len) z 0) (get_or-set_other dense len k id 0 ne)
          ∙ (get_or-set_other sparse id (get_or dense k 0) len 0 other ∙ back k lk)
