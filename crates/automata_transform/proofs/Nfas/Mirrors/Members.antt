-- Targets and edges, IDs of copies, and the reversed states by their IDs.
use Rattle.std.proofs.Common.{ℕ, zero, suc, ◌≡◌, ◌<◌, ◌+◌, ◌⊎◌, Bool, true, false, cond, eqb, List, [], ◌∷◌}
use Rattle.std.proofs.Common.{◌++◌, length, get_or, map, Option, Some, None, inl, inr, refl, sym, ap, ◌∙◌, subst}
use Rattle.std.proofs.Common.{arith}
use Rattle.std.proofs.lemmas.Bool.Decides.{eqb_tells}
use Rattle.automata_base.specs.declared.nfa.thompson.state.State.{State}
use Rattle.automata_base.specs.declared.nfa.thompson.state.State.TheVariants as is
use Rattle.automata_base.specs.declared.nfa.thompson.reach.Edges.TheVariants.{Every}
use Rattle.automata_base.specs.Lists.{In, Distinct}
use Rattle.std.specs.Prelude.{slice_get}
use Rattle.automata_transform.specs.Nfas.Mirrors.{Label, Free, Asks, Reads, HasRange, HasArcAt}
use Rattle.automata_base.specs.Nfas.Nfa.{Node, Range, Split, Assert, Read, Accept, node_or_fail, accepts_at}
use Rattle.automata_base.specs.Nfas.Nodes.{node_of, nodes_of, ranges_of}
use Rattle.automata_base.specs.Retraced.Reach.{targets_at, targets_of, nexts}
use Rattle.automata_transform.specs.Retraced.DenseRuns.{ranged, ranged_nodes, runs_from}
use Rattle.automata_base.specs.Retraced.ReversedEdges.{place_in, list_at}
use Rattle.automata_transform.specs.Retraced.ReversedEdges.{is_of, matches_in, IsHead, AreHeads}
use Rattle.automata_base.proofs.Nfas.Reach.InRange.{node_is}
use Rattle.automata_transform.proofs.Nfas.Mirrors.Runs.{runs_next, next_runs}
use Rattle.automata_base.proofs.Paths.Orders.{some_inj, none_some}
use Rattle.automata_base.proofs.Paths.Sets.{nth_in}
use Rattle.automata_base.proofs.Paths.Walks.{in_left, in_either}

range_next : (ranges : List Range) (lo hi r : ℕ) → HasRange ranges lo hi r → In r (nexts ranges)
range_next [] lo hi r h = absurd (none_some h.1)
range_next (x ∷ xs) lo hi r (zero, e) = inl (sym (ap (λ (v : Range). v.next) (some_inj e)))
range_next (x ∷ xs) lo hi r (suc k, e) = inr (range_next xs lo hi r (k, e))

-- An edge leads to a target.
arc_target : (x : Node) (l : Label) (r : ℕ) → HasArcAt x l r → In r (targets_at Every x)
arc_target (Split alternates) Free r h = in_left r alternates [] h
arc_target (Split alternates) (Asks look) r h = absurd h
arc_target (Split alternates) (Reads lo hi) r h = absurd h
arc_target (Assert asked to) Free r h = absurd h
arc_target (Assert asked to) (Asks look) r h = inl (sym h.1)
arc_target (Assert asked to) (Reads lo hi) r h = absurd h
arc_target (Read ranges) Free r h = absurd h
arc_target (Read ranges) (Asks look) r h = absurd h
arc_target (Read ranges) (Reads lo hi) r h = range_next ranges lo hi r h
arc_target (Accept p) Free r h = absurd h
arc_target (Accept p) (Asks look) r h = absurd h
arc_target (Accept p) (Reads lo hi) r h = absurd h

-- A state with its edges as ranges has the same targets, and matches the same pattern.
pub ranged_is :
    (states : List State) (q : ℕ) → node_or_fail (slice_get (ranged_nodes states) q) ≡ ranged (get_or states q is.Fail)
ranged_is [] q = refl
ranged_is (x ∷ xs) zero = refl
ranged_is (x ∷ xs) (suc q) = ranged_is xs q

pub ranged_length : (states : List State) → length (ranged_nodes states) ≡ length states
ranged_length [] = refl
ranged_length (x ∷ xs) = ap suc (ranged_length xs)

target_same : (s : State) (r : ℕ) → In r (targets_at Every (ranged s)) → In r (targets_at Every (node_of s))
target_same (is.ByteRange lo hi next) r i = i
target_same (is.Sparse ts) r i = i
target_same (is.Dense targets) r i = runs_next targets.value 0 0 r i
target_same (is.Look look next) r i = i
target_same (is.Union alternates) r i = i
target_same (is.BinaryUnion alt1 alt2) r i = i
target_same (is.Capture next pattern index slot) r i = i
target_same is.Fail r i = i
target_same (is.Match pattern) r i = i

pub arc_is_target :
    (states : List State) (s : ℕ) (l : Label) (r : ℕ) → HasArcAt (node_or_fail (slice_get (ranged_nodes states) s)) l r
    → In r (targets_at Every (node_or_fail (slice_get (nodes_of states) s)))
arc_is_target states s l r h =
    subst (λ v. In r (targets_at Every v)) (sym (node_is states s))
    (target_same (get_or states s is.Fail) r
    (subst (λ v. In r (targets_at Every v)) (ranged_is states s)
    (arc_target (node_or_fail (slice_get (ranged_nodes states) s)) l r h)))

pub accept_same : (s : State) → accepts_at (ranged s) ≡ accepts_at (node_of s)
accept_same (is.ByteRange lo hi next) = refl
accept_same (is.Sparse ts) = refl
accept_same (is.Dense targets) = refl
accept_same (is.Look look next) = refl
accept_same (is.Union alternates) = refl
accept_same (is.BinaryUnion alt1 alt2) = refl
accept_same (is.Capture next pattern index slot) = refl
accept_same is.Fail = refl
accept_same (is.Match pattern) = refl

pub in_map : (f : ℕ → ℕ) (xs : List ℕ) (y : ℕ) → In y xs → In (f y) (map f xs)
in_map f [] y i = absurd i
in_map f (x ∷ xs) y (inl e) = inl (ap f e)
in_map f (x ∷ xs) y (inr i) = inr (in_map f xs y i)

pub of_map : (f : ℕ → ℕ) (xs : List ℕ) (x : ℕ) → In x (map f xs) → (y : ℕ) × In y xs × (x ≡ f y)
of_map f [] x i = absurd i
of_map f (y ∷ ys) x (inl e) = (y, inl refl, e)
of_map f (y ∷ ys) x (inr i) = let w = of_map f ys x i in (w.0, inr w.1, w.2)

pub nth_place : (items : List ℕ) (q : ℕ) → In q items → slice_get items (place_in items q) ≡ Some q
nth_place [] q i = absurd i
nth_place (x ∷ xs) q i = go (eqb_tells x q) i (nth_place xs q)
  where
    go :
        ((eqb x q ≡ true) × (x ≡ q)) ⊎ ((eqb x q ≡ false) × (x ≡ q → ⊥)) → In q (x ∷ xs)
        → (In q xs → slice_get xs (place_in xs q) ≡ Some q) → slice_get (x ∷ xs) (place_in (x ∷ xs) q) ≡ Some q
    go (inl e) i ih = ap (λ b. slice_get (x ∷ xs) (cond b 0 (suc (place_in xs q)))) e.0 ∙ ap Some e.1
    go (inr e) (inl f) ih = absurd (e.1 (sym f))
    go (inr e) (inr j) ih = ap (λ b. slice_get (x ∷ xs) (cond b 0 (suc (place_in xs q)))) e.0 ∙ ih j

-- Different members have different indices.
pub place_same : (items : List ℕ) (q r : ℕ) → In q items → In r items → place_in items q ≡ place_in items r → q ≡ r
place_same items q r i j e =
    some_inj (sym (nth_place items q i) ∙ (ap (λ k. slice_get items k) e ∙ nth_place items r j))

pub place_nth : (items : List ℕ) (k q : ℕ) → Distinct items → slice_get items k ≡ Some q → place_in items q ≡ k
place_nth items k q d e = one items k (place_in items q) q d e (nth_place items q (nth_in items k q e))
  where
    one :
        (items : List ℕ) (k l q : ℕ) → Distinct items → slice_get items k ≡ Some q → slice_get items l ≡ Some q → l ≡ k
    one [] k l q d e f = absurd (none_some e)
    one (x ∷ xs) zero zero q d e f = refl
    one (x ∷ xs) zero (suc l) q d e f =
        absurd (d.0 (subst (λ z. In z xs) (sym (some_inj e)) (nth_in xs l q f)))
    one (x ∷ xs) (suc k) zero q d e f =
        absurd (d.0 (subst (λ z. In z xs) (sym (some_inj f)) (nth_in xs k q e)))
    one (x ∷ xs) (suc k) (suc l) q d e f = ap suc (one xs k l q d.1 e f)

pub map_distinct :
    (f : ℕ → ℕ) (xs : List ℕ) → ((x y : ℕ) → In x xs → In y xs → f x ≡ f y → x ≡ y) → Distinct xs → Distinct (map f xs)
map_distinct f [] g d = tt
map_distinct f (x ∷ xs) g d = (
  (λ i.
      let w = of_map f xs (f x) i in
      d.0 (subst (λ z. In z xs) (sym (g x w.0 (inl refl) (inr w.1) w.2)) w.1)),
  map_distinct f xs (λ y z i j. g y z (inr i) (inr j)) d.1,
)

-- Some edge leads to each target.
next_range : (ranges : List Range) (r : ℕ) → In r (nexts ranges) → (lo hi : ℕ) × HasRange ranges lo hi r
next_range [] r h = absurd h
next_range (x ∷ xs) r (inl e) =
    let same =
    subst
    (λ (v : ℕ). ◌≡◌ {A = Option Range} (Some x) (Some (record { lo = x.lo; hi = x.hi; next = v })))
    (sym e) refl in
    (x.lo, x.hi, (0, same))
next_range (x ∷ xs) r (inr h) = let w = next_range xs r h in (w.0, w.1, (suc w.2.0, w.2.1))

next_read : (ranges : List Range) (r : ℕ) → In r (nexts ranges) → (l : Label) × HasArcAt (Read ranges) l r
next_read ranges r h = let w = next_range ranges r h in (Reads w.0 w.1, w.2)

next_free : (xs : List ℕ) (r : ℕ) → In r (xs ++ []) → (l : Label) × HasArcAt (Split xs) l r
next_free xs r i = (Free, go (in_either r xs [] i))
  where
    go : In r xs ⊎ In r [] → In r xs
    go (inl j) = j
    go (inr b) = absurd b

target_arc : (s : State) (r : ℕ) → In r (targets_at Every (node_of s)) → (l : Label) × HasArcAt (ranged s) l r
target_arc (is.ByteRange lo hi next) r i = next_read (record { lo = lo; hi = hi; next = next } ∷ []) r i
target_arc (is.Sparse ts) r i = next_read (ranges_of ts.items) r i
target_arc (is.Dense targets) r i =
    next_read (ranges_of (runs_from 0 0 targets.value)) r (next_runs targets.value 0 0 r i)
target_arc (is.Look look next) r (inl e) = (Asks look, (refl, sym e))
target_arc (is.Look look next) r (inr b) = absurd b
target_arc (is.Union alternates) r i = next_free alternates.items r i
target_arc (is.BinaryUnion alt1 alt2) r i = next_free (alt1 ∷ alt2 ∷ []) r i
target_arc (is.Capture next pattern index slot) r i = next_free (next ∷ []) r i
target_arc is.Fail r i = absurd i
target_arc (is.Match pattern) r i = absurd i

pub target_has_arc :
    (states : List State) (s r : ℕ) → In r (targets_of Every states s)
    → (l : Label) × HasArcAt (node_or_fail (slice_get (ranged_nodes states) s)) l r
target_has_arc states s r i =
    let w = target_arc (get_or states s is.Fail) r (subst (λ v. In r (targets_at Every v)) (node_is states s) i) in
    (w.0, subst (λ v. HasArcAt v w.0 r) (sym (ranged_is states s)) w.1)

-- The match states of a pattern.
module _ (states : List State) (p : ℕ) where
  one_is : (o : Option ℕ) → is_of o p ≡ true → o ≡ Some p
  one_is None e = absurd (no e)
    where
      no : false ≡ true → ⊥
      no e = cc
  one_is (Some x) e = go (eqb_tells x p)
    where
      go : ((eqb x p ≡ true) × (x ≡ p)) ⊎ ((eqb x p ≡ false) × (x ≡ p → ⊥)) → Some x ≡ Some p
      go (inl h) = ap Some h.1
      go (inr h) = let k : false ≡ true = sym h.0 ∙ e in cc

  is_one : (o : Option ℕ) → o ≡ Some p → is_of o p ≡ true
  is_one None e = absurd (none_some e)
  is_one (Some x) e = go (eqb_tells x p)
    where
      go : ((eqb x p ≡ true) × (x ≡ p)) ⊎ ((eqb x p ≡ false) × (x ≡ p → ⊥)) → eqb x p ≡ true
      go (inl h) = h.0
      go (inr h) = absurd (h.1 (some_inj e))

  abbrev reported_by : ℕ → Bool
  reported_by q = is_of (accepts_at (node_of (get_or states q is.Fail))) p

  pub matches_are :
      (ids : List ℕ) (q : ℕ) → In q (matches_in states p ids)
      → In q ids × (accepts_at (node_of (get_or states q is.Fail)) ≡ Some p)
  matches_are [] q i = absurd i
  matches_are (x ∷ xs) q i = go (reported_by x) refl i (matches_are xs q)
    where
      go :
          (b : Bool) → reported_by x ≡ b → In q (cond b (x ∷ matches_in states p xs) (matches_in states p xs))
          → (In q (matches_in states p xs) → In q xs × (accepts_at (node_of (get_or states q is.Fail)) ≡ Some p))
          → In q (x ∷ xs) × (accepts_at (node_of (get_or states q is.Fail)) ≡ Some p)
      go true t (inl e) ih = (
        inl e,
        ap (λ v. accepts_at (node_of (get_or states v is.Fail))) e
            ∙ one_is (accepts_at (node_of (get_or states x is.Fail))) t,
      )
      go true t (inr j) ih = let w = ih j in (inr w.0, w.1)
      go false t j ih = let w = ih j in (inr w.0, w.1)

  pub are_matches :
      (ids : List ℕ) (q : ℕ) → In q ids → accepts_at (node_of (get_or states q is.Fail)) ≡ Some p
      → In q (matches_in states p ids)
  are_matches [] q i a = i
  are_matches (x ∷ xs) q (inl e) a =
      subst (λ b. In q (cond b (x ∷ matches_in states p xs) (matches_in states p xs)))
      (sym (is_one (accepts_at (node_of (get_or states x is.Fail)))
      (ap (λ v. accepts_at (node_of (get_or states v is.Fail))) (sym e) ∙ a)))
      (inl e)
  are_matches (x ∷ xs) q (inr i) a = go (reported_by x) (are_matches xs q i a)
    where
      go :
          (b : Bool) → In q (matches_in states p xs)
          → In q (cond b (x ∷ matches_in states p xs) (matches_in states p xs))
      go true h = inr h
      go false h = h

  pub matches_distinct : (ids : List ℕ) → Distinct ids → Distinct (matches_in states p ids)
  matches_distinct [] d = tt
  matches_distinct (x ∷ xs) d = go (reported_by x) (matches_distinct xs d.1)
    where
      go :
          (b : Bool) → Distinct (matches_in states p xs)
          → Distinct (cond b (x ∷ matches_in states p xs) (matches_in states p xs))
      go true ih = ((λ i. d.0 (matches_are xs x i).0), ih)
      go false ih = ih

-- The reversed states by their IDs.
pub head_at :
    (n : ℕ) (hs : List State) (lists : List (List ℕ)) (heads more : List State) (k : ℕ) → AreHeads n hs lists heads
    → k < length lists → IsHead n hs (list_at lists k) (get_or (heads ++ more) k is.Fail)
head_at n hs [] heads more k a l = absurd (omega (arith, l))
head_at n hs (xs ∷ rest) [] more k a l = absurd a
head_at n hs (xs ∷ rest) (s ∷ ss) more zero a l = a.0
head_at n hs (xs ∷ rest) (s ∷ ss) more (suc k) a l = head_at n hs rest ss more k a.1 (omega (arith, l))

pub heads_length :
    (n : ℕ) (hs : List State) (lists : List (List ℕ)) (heads : List State) → AreHeads n hs lists heads
    → length heads ≡ length lists
heads_length n hs [] [] a = refl
heads_length n hs [] (s ∷ ss) a = absurd a
heads_length n hs (xs ∷ rest) [] a = absurd a
heads_length n hs (xs ∷ rest) (s ∷ ss) a = ap suc (heads_length n hs rest ss a.1)

pub helper_at :
    (heads hs : List State) (n j : ℕ) (h : State) → length heads ≡ n → slice_get hs j ≡ Some h
    → get_or (heads ++ hs) (n + j) is.Fail ≡ h
helper_at [] hs n j h l e = ap (λ k. get_or hs k is.Fail) (none n j l) ∙ at hs j e
  where
    none : (n j : ℕ) → 0 ≡ n → n + j ≡ j
    none n j l = omega (arith, l)

    at : (hs : List State) (j : ℕ) → slice_get hs j ≡ Some h → get_or hs j is.Fail ≡ h
    at [] j e = absurd (no e)
      where
        no : ◌≡◌ {A = Option State} None (Some h) → ⊥
        no e = cc
    at (x ∷ xs) zero e = one e
      where
        one : ◌≡◌ {A = Option State} (Some x) (Some h) → x ≡ h
        one e = cc
    at (x ∷ xs) (suc j) e = at xs j e
helper_at (s ∷ ss) hs zero j h l e = absurd (omega (arith, l))
helper_at (s ∷ ss) hs (suc n) j h l e =
    ap (λ k. get_or (s ∷ (ss ++ hs)) k is.Fail) (suc_add n j) ∙ helper_at ss hs n j h (omega (arith, l)) e
  where
    suc_add : (n j : ℕ) → suc n + j ≡ suc (n + j)
    suc_add n j = omega arith

pub same_helper : (hs : List State) (j : ℕ) (g h : State) → slice_get hs j ≡ Some g → slice_get hs j ≡ Some h → g ≡ h
same_helper hs j g h e f = one (sym e ∙ f)
  where
    one : ◌≡◌ {A = Option State} (Some g) (Some h) → g ≡ h
    one e = cc
