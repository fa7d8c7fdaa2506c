-- The members of a sparse set after a list was appended.
use Rattle.std.proofs.Common.{◌≡◌, ◌<◌, ◌≤◌, ◌+◌, ℕ, zero, suc, List, [], ◌∷◌, ◌++◌, length, get_or, set, take, refl}
use Rattle.std.proofs.Common.{sym, ap, ◌∙◌}
use Rattle.std.proofs.Common.{subst, ⊎_elim, arith, length-append}
use Rattle.std.proofs.lemmas.Bool.{cases_eq}
use Rattle.std.proofs.lemmas.List.{get_or-take, get_or_append_left, length-take-le, get_or-set_same, get_or-set_other}
use Rattle.std.proofs.lemmas.List.{get_or_default}
use Rattle.automata_base.specs.Lists.{In, Distinct}
use Rattle.automata_base.specs.Powersets.Members.{Members}
use Rattle.automata_base.specs.Powersets.SparseSet.{members_of, IsSparse}
use Rattle.automata_base.specs.declared.util.sparse_set.SparseSet.TheInside.{Inside}
use Rattle.automata_base.proofs.Powersets.Distinct.{In-get_or, distinct_append, distinct_below}
use Rattle.automata_base.proofs.Powersets.Holding.{members_below, members_distinct}
use Rattle.automata_base.proofs.Paths.Walks.{in_either}

distinct_at : (xs : List ℕ) (i j : ℕ) → Distinct xs → i < j → j < length xs → get_or xs i 0 ≡ get_or xs j 0 → ⊥
distinct_at [] i j d l m e = absurd (omega (arith, m))
distinct_at (x ∷ xs) i zero d l m e = absurd (omega (arith, l))
distinct_at (x ∷ xs) zero (suc j) d l m e = d.0 (subst (λ z. In z xs) (sym e) (In-get_or xs j 0 (omega (arith, m))))
distinct_at (x ∷ xs) (suc i) (suc j) d l m e = distinct_at xs i j d.1 (omega (arith, l)) (omega (arith, m)) e

module _ (dense sparse : List ℕ) (len : ℕ) (within : len ≤ length dense)
    (below : (k : ℕ) → k < len → get_or dense k 0 < length dense)
    (back : (k : ℕ) → k < len → get_or sparse (get_or dense k 0) 0 ≡ k)
    (list : List ℕ) (small : (q : ℕ) → In q list → q < length dense) (distinct : Distinct list)
    (apart : (q : ℕ) → In q list → In q (take len dense) → ⊥) where
  all : Distinct (take len dense ++ list)
  all =
      distinct_append (take len dense) list (members_distinct dense sparse len within below back) distinct
      (λ x i j. apart x j i)

  low : (q : ℕ) → In q (take len dense ++ list) → q < length dense
  low q i =
      ⊎_elim (λ (k : In q (take len dense)). members_below dense sparse len within below back q k)
      (λ (k : In q list). small q k)
      (in_either q (take len dense) list i)

  both : length (take len dense ++ list) ≡ len + length list
  both = length-append (take len dense) list ∙ ap (λ z. z + length list) (length-take-le len dense within)

  -- There is room for the list.
  pub list_fits : len + length list ≤ length dense
  list_fits = let most = distinct_below (length dense) (take len dense ++ list) all low in omega (arith, most, both)

  -- The list follows the members, and the previous members keep their indices.
  module _ (end : ℕ) (more : List ℕ) (at_end : end ≡ len + length list) (taken : take end more ≡ take len dense ++ list)
      (long : length more ≡ length dense) where
    here : (k : ℕ) → k < end → get_or more k 0 ≡ get_or (take len dense ++ list) k 0
    here k l = sym (get_or-take end more k 0 l) ∙ ap (λ z. get_or z k 0) taken

    pub more_below : (k : ℕ) → k < end → get_or more k 0 < length more
    more_below k l =
        let b =
        low (get_or (take len dense ++ list) k 0)
        (In-get_or (take len dense ++ list) k 0 (omega (arith, l, at_end, both))) in
        let h = here k l in
        omega (arith, b, h, long)

    pub places_init : (k : ℕ) → k < len → get_or sparse (get_or more k 0) 0 ≡ k
    places_init k l =
        let n = length-take-le len dense within in
        ap (λ z. get_or sparse z 0)
        (here k (omega (arith, l, at_end))
        ∙ (get_or_append_left (take len dense) list 0 k (omega (arith, l, n)) ∙ get_or-take len dense k 0 l))
        ∙ back k l

    pub places_next :
        (places : List ℕ) (i id : ℕ) → i < end → id ≡ get_or more i id → length places ≡ length dense
        → ((k : ℕ) → k < i → get_or places (get_or more k 0) 0 ≡ k)
        → (k : ℕ) → k < i + 1 → get_or (set places id i) (get_or more k 0) 0 ≡ k
    places_next places i id l read same old k m =
        ⊎_elim
        (λ (e : k ≡ i).
        ap (λ z. get_or (set places id i) z 0) (ap (λ z. get_or more z 0) e ∙ sym at)
        ∙ (get_or-set_same places id i 0 (omega (arith, low_id, long, same)) ∙ sym e))
        (λ (ne : k ≡ i → ⊥).
        let first : k < i = omega arith in
        get_or-set_other places id (get_or more k 0) i 0 (λ e. other first (e ∙ at)) ∙ old k first)
        (cases_eq k i)
      where
        at : id ≡ get_or more i 0
        at = read ∙ get_or_default more i id 0 (let n = room in omega (arith, l, n))
          where
            room : end ≤ length more
            room = let f = list_fits in omega (arith, f, at_end, long)

        low_id : id < length more
        low_id = let b = more_below i l in omega (arith, b, at)

        other : k < i → get_or more k 0 ≡ get_or more i 0 → ⊥
        other first e =
            distinct_at (take len dense ++ list) k i all first (omega (arith, l, at_end, both))
            (sym (here k (omega (arith, first, l))) ∙ (e ∙ here i l))

-- The same for a sparse set.
module _ (s : Inside) (v : Members) (list : List ℕ) (inv : IsSparse s) (view : members_of s ≡ v)
    (fits : (q : ℕ) → In q list → q < v.capacity)
    (distinct : Distinct list) (new : (q : ℕ) → In q list → In q v.items → ⊥) where
  fits' : (q : ℕ) → In q list → q < length s.dense.items
  fits' q i = subst (λ z. q < z) (sym (ap (λ w. w.capacity) view)) (fits q i)

  new' : (q : ℕ) → In q list → In q (take s.len s.dense.items) → ⊥
  new' q i j = new q i (subst (λ z. In q z) (ap (λ w. w.items) view) j)

  pub set_fits : s.len + length list ≤ length s.dense.items
  set_fits = list_fits s.dense.items s.sparse.items s.len inv.within inv.below inv.back list fits' distinct new'

  module _ (more : List ℕ) (taken : take (s.len + length list) more ≡ v.items ++ list)
      (long : length more ≡ v.capacity) where
    taken' : take (s.len + length list) more ≡ take s.len s.dense.items ++ list
    taken' = taken ∙ ap (λ w. w.items ++ list) (sym view)

    long' : length more ≡ length s.dense.items
    long' = long ∙ ap (λ w. w.capacity) (sym view)

    pub set_below : (k : ℕ) → k < s.len + length list → get_or more k 0 < length more
    set_below =
        more_below s.dense.items s.sparse.items s.len inv.within inv.below inv.back list fits' distinct new'
        (s.len + length list) more refl taken' long'

    pub set_id : (i id : ℕ) → i < s.len + length list → id ≡ get_or more i id → id < v.capacity
    set_id i id l read =
        let b = set_below i l in
        let f = set_fits in
        let at : get_or more i id ≡ get_or more i 0 = get_or_default more i id 0 (omega (arith, l, f, long')) in
        omega (arith, b, read, at, long)

    pub set_init : (k : ℕ) → k < s.len → get_or s.sparse.items (get_or more k 0) 0 ≡ k
    set_init =
        places_init s.dense.items s.sparse.items s.len inv.within inv.below inv.back list fits' distinct new'
        (s.len + length list) more refl taken' long'

    pub set_next :
        (places : List ℕ) (i id : ℕ) → i < s.len + length list → id ≡ get_or more i id → length places ≡ v.capacity
        → ((k : ℕ) → k < i → get_or places (get_or more k 0) 0 ≡ k)
        → (k : ℕ) → k < i + 1 → get_or (set places id i) (get_or more k 0) 0 ≡ k
    set_next places i id l read same =
        places_next s.dense.items s.sparse.items s.len inv.within inv.below inv.back list fits' distinct new'
        (s.len + length list) more refl taken' long'
        places i id l read (same ∙ ap (λ w. w.capacity) (sym view))
