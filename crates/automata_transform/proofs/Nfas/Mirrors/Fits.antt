-- `NFA::from_states` accepts the copied states.
use Rattle.std.proofs.Common.{ℕ, suc, ◌≡◌, ◌<◌, ◌≤◌, ◌+◌, ◌*◌, ◌^◌, ◌&&◌, ◌↔◌, ◌⊎◌, true, false, leb, List, [], ◌∷◌}
use Rattle.std.proofs.Common.{◌++◌, length, length-append, get_or, map, None, inl, inr, refl, sym, ap, ap₂, ◌∙◌, subst}
use Rattle.std.proofs.Common.{arith}
use Rattle.std.specs.Prelude.{sum_by}
use Rattle.std.proofs.Math.Nat.{suc-mul, mul-suc, mul-le-mul_left, mul-le-mul_right}
use Rattle.std.proofs.lemmas.Bool.{lt-ltb, le-leb, leb-true, leb-false}
use Rattle.std.proofs.lemmas.List.{length-map}
use Rattle.std.proofs.lemmas.List.Sums.{sum_by-cons, sum_by-append}
use Rattle.automata_base.specs.declared.nfa.thompson.state.NfaError.TheVariants.{PatternRange}
use Rattle.automata_base.specs.declared.nfa.thompson.state.State.{State}
use Rattle.automata_base.specs.declared.nfa.thompson.state.State.TheVariants as is
use Rattle.automata_base.specs.declared.nfa.thompson.state.Transition.{Transition}
use Rattle.automata_base.specs.declared.nfa.thompson.reach.Edges.TheVariants.{Every}
use Rattle.automata_transform.specs.Retraced.Copies.{IsAdded, IsPartAdded, IsOneRange, IsPlain, ArePlain, width}
use Rattle.automata_transform.specs.Retraced.Copies.{AreParts}
use Rattle.automata_transform.specs.Retraced.Copies.{IsFit}
use Rattle.automata_base.specs.Lists.{In, all_below, Distinct}
use Rattle.automata_base.specs.Nfas.Nfa.{Node, Range, Split, Assert, Read, Accept}
use Rattle.automata_base.specs.Nfas.Nodes.{node_of, nodes_of, ranges_of}
use Rattle.automata_base.specs.Retraced.Reach.{IsReached, targets_at, nexts}
use Rattle.automata_base.specs.Nfas.Errors.{alternates_of, states_below, ordered_from, state_ordered, states_ordered}
use Rattle.automata_base.specs.Nfas.Errors.{match_below, matches_below, is_small, is_narrow, starts_below, states_error}
use Rattle.automata_base.specs.Nfas.Errors.{unless}
use Rattle.automata_transform.specs.Nfas.ReversedSizes.{asking_edges, free_edges}
use Rattle.automata_transform.specs.Retraced.ReversedEdges.{copied, copies, copy_of, IsCopied}
use Rattle.automata_base.proofs.Nfas.Reach.InRange.{state_is_below, node_is}
use Rattle.automata_base.proofs.Powersets.Walking.{nodes_length}
use Rattle.automata_base.proofs.Powersets.Sparsely.{at_place}
use Rattle.automata_transform.proofs.Nfas.Mirrors.Copies.{part_made, reached_closed, reached_roots}
use Rattle.automata_transform.proofs.Nfas.Mirrors.Members.{of_map}
use Rattle.automata_transform.proofs.Nfas.Mirrors.Sizes.{sum_at, ordered_at}
use Rattle.automata_transform.proofs.Nfas.Mirrors.Sums.{sum_some}
use Rattle.automata_base.proofs.Nfas.Reach.Refused.{refusal_is, goes_on}
use Rattle.automata_base.proofs.Powersets.Belows.{all_below_from}

copies_length :
    (f : ℕ → ℕ) (p : ℕ) (turned : List State) (items : List ℕ) → length (copies f p turned items) ≡ length items
copies_length f p turned [] = refl
copies_length f p turned (q ∷ qs) = ap suc (copies_length f p turned qs)

pub copied_length :
    (old out : List State) (f : ℕ → ℕ) (p : ℕ) (turned : List State) (items : List ℕ)
    → nodes_of out ≡ nodes_of old ++ copies f p turned items → length out ≡ length old + length items
copied_length old out f p turned items e =
    let a = nodes_length out in
    let b = nodes_length old in
    let c : length (nodes_of out) ≡ length (nodes_of old) + length (copies f p turned items) =
    ap (λ z. length z) e ∙ length-append (nodes_of old) (copies f p turned items) in
    let d = copies_length f p turned items in
    omega (arith, a, b, c, d)

-- A part that was made.
pub part_added :
    (old mid new : List Node) (turned : List State) (roots items alternates : List ℕ) (p base entry : ℕ)
    → ((q : ℕ) → In q items ↔ IsReached Every turned roots q) → Distinct items
    → ((q : ℕ) → In q items → q < length turned)
    → length items ≤ length turned
    → base ≡ length old → mid ≡ old ++ copies (copy_of base items) p turned items
    → entry ≡ length mid → alternates ≡ map (copy_of base items) roots → new ≡ mid ++ Split alternates ∷ []
    → IsAdded old new turned roots p entry items
part_added old mid new turned roots items alternates p base entry reached distinct below few b m e a n = record {
  reached = reached;
  distinct = distinct;
  below = below;
  few = few;
  nodes = n ∙ ap₂ (λ x y. x ++ Split y ∷ []) from (a ∙ ap (λ z. map (copy_of z items) roots) b);
  enters =
      e
      ∙ (ap (λ z. length z) from
      ∙ (length-append old (copies (copy_of (length old) items) p turned items)
      ∙ ap (λ z. length old + z) (copies_length (copy_of (length old) items) p turned items)));
}
  where
    from : mid ≡ old ++ copies (copy_of (length old) items) p turned items
    from = m ∙ ap (λ z. old ++ copies (copy_of z items) p turned items) b

pub added_copies :
    (old new : List Node) (turned : List State) (roots : List ℕ) (p entry : ℕ) (items : List ℕ)
    → IsAdded old new turned roots p entry items → IsCopied new turned roots p entry (length old) items
added_copies old new turned roots p entry items w =
    part_made old (old ++ copies (copy_of (length old) items) p turned items) new turned roots items
    (map (copy_of (length old) items) roots) p
    (length old) entry w.reached w.distinct refl refl
    (w.enters
    ∙ sym (length-append old (copies (copy_of (length old) items) p turned items)
    ∙ ap (λ z. length old + z) (copies_length (copy_of (length old) items) p turned items)))
    refl w.nodes w.enters

pub added_length :
    (old new : List Node) (turned : List State) (roots : List ℕ) (p entry : ℕ) (items : List ℕ)
    → IsAdded old new turned roots p entry items → length new ≡ suc entry
added_length old new turned roots p entry items w =
    let a : length new ≡ length (old ++ copies (copy_of (length old) items) p turned items) + 1 =
    ap (λ z. length z) w.nodes
    ∙ length-append (old ++ copies (copy_of (length old) items) p turned items)
    (Split (map (copy_of (length old) items) roots) ∷ []) in
    let b = length-append old (copies (copy_of (length old) items) p turned items) in
    let c = copies_length (copy_of (length old) items) p turned items in
    let d = w.enters in
    omega (arith, a, b, c, d)

-- The nodes that a part adds.
abbrev pub added_nodes : (old : List Node) → (turned : List State) → (roots : List ℕ) → (p : ℕ) → (items : List ℕ)
    → List Node
added_nodes old turned roots p items =
    copies (copy_of (length old) items) p turned items ++ Split (map (copy_of (length old) items) roots) ∷ []

append_two : (xs ys zs : List Node) → (xs ++ ys) ++ zs ≡ xs ++ (ys ++ zs)
append_two [] ys zs = refl
append_two (x ∷ xs) ys zs = ap (λ z. x ∷ z) (append_two xs ys zs)

pub added_more :
    (old new : List Node) (turned : List State) (roots : List ℕ) (p entry : ℕ) (items : List ℕ)
    → IsAdded old new turned roots p entry items → new ≡ old ++ added_nodes old turned roots p items
added_more old new turned roots p entry items w =
    w.nodes
    ∙ append_two old (copies (copy_of (length old) items) p turned items)
    (Split (map (copy_of (length old) items) roots) ∷ [])

-- A plain node stays plain when the bound grows.
node_more : (n m P : ℕ) (x : Node) → n ≤ m → IsPlain n P x → IsPlain m P x
node_more n m P (Split alternates) l h = λ x i. let k = h x i in omega (arith, k, l)
node_more n m P (Assert look next) l h = omega (arith, h, l)
node_more n m P (Read ranges) l h = one_more ranges h
  where
    one_more : (rs : List Range) → IsOneRange n rs → IsOneRange m rs
    one_more [] h = h
    one_more (r ∷ []) h = (h.0, let k = h.1 in omega (arith, k, l))
    one_more (r ∷ s ∷ rest) h = h
node_more n m P (Accept p) l h = h

plain_more : (n m P : ℕ) (xs : List Node) → n ≤ m → ArePlain n P xs → ArePlain m P xs
plain_more n m P [] l h = h
plain_more n m P (x ∷ xs) l h = (node_more n m P x l h.0, plain_more n m P xs l h.1)

plain_append : (n P : ℕ) (xs ys : List Node) → ArePlain n P xs → ArePlain n P ys → ArePlain n P (xs ++ ys)
plain_append n P [] ys h g = g
plain_append n P (x ∷ xs) ys h g = (h.0, plain_append n P xs ys h.1 g)

module _ (turned : List State) (items : List ℕ) (base n P p : ℕ) (room : base + length items ≤ n) (less : p < P) where
  copy_below : (q : ℕ) → In q items → copy_of base items q < n
  copy_below q i = let k = (at_place items q i).0 in omega (arith, k, room)

  map_below : (xs : List ℕ) → ((q : ℕ) → In q xs → In q items) → (x : ℕ) → In x (map (copy_of base items) xs) → x < n
  map_below xs f x i =
      let w = of_map (copy_of base items) xs x i in
      subst (λ v. v < n) (sym w.2) (copy_below w.0 (f w.0 w.1))

  copied_plain :
      (s : State) → ((q : ℕ) → In q (targets_at Every (node_of s)) → In q items) → state_ordered s ≡ true
      → IsPlain n P (copied (copy_of base items) p s)
  copied_plain (is.ByteRange lo hi next) f o =
      (leb-true lo hi o, copy_below next (f next (inl refl)))
  copied_plain (is.Sparse ts) f o = λ x i. absurd i
  copied_plain (is.Dense targets) f o = λ x i. absurd i
  copied_plain (is.Look look next) f o = copy_below next (f next (inl refl))
  copied_plain (is.Union alternates) f o = map_below alternates.items (λ q i. f q (in_front q alternates.items i))
    where
      in_front : (q : ℕ) (xs : List ℕ) → In q xs → In q (xs ++ [])
      in_front q [] i = i
      in_front q (y ∷ ys) (inl e) = inl e
      in_front q (y ∷ ys) (inr i) = inr (in_front q ys i)
  copied_plain (is.BinaryUnion alt1 alt2) f o = λ x i. absurd i
  copied_plain (is.Capture next pattern index slot) f o = λ x i. absurd i
  copied_plain is.Fail f o = λ x i. absurd i
  copied_plain (is.Match pattern) f o = less

  copies_plain :
      (qs : List ℕ) → ((q r : ℕ) → In q qs → In r (targets_at Every (node_of (get_or turned q is.Fail))) → In r items)
      → states_ordered turned ≡ true → ArePlain n P (copies (copy_of base items) p turned qs)
  copies_plain [] f o = tt
  copies_plain (q ∷ qs) f o = (
    copied_plain (get_or turned q is.Fail) (λ r i. f q r (inl refl) i) (ordered_at turned q o),
    copies_plain qs (λ s r i j. f s r (inr i) j) o,
  )

-- A copy has at most as many alternates as its state.
copied_width : (f : ℕ → ℕ) (p : ℕ) (s : State) → width (copied f p s) ≤ alternates_of s
copied_width f p (is.ByteRange lo hi next) = omega arith
copied_width f p (is.Sparse ts) = omega arith
copied_width f p (is.Dense targets) = omega arith
copied_width f p (is.Look look next) = omega arith
copied_width f p (is.Union alternates) = let e = length-map alternates.items f in omega (arith, e)
copied_width f p (is.BinaryUnion alt1 alt2) = omega arith
copied_width f p (is.Capture next pattern index slot) = omega arith
copied_width f p is.Fail = omega arith
copied_width f p (is.Match pattern) = omega arith

copies_width :
    (f : ℕ → ℕ) (p : ℕ) (turned : List State) (qs : List ℕ)
    → sum_by width (copies f p turned qs) ≤ sum_at alternates_of turned qs
copies_width f p turned [] = omega arith
copies_width f p turned (q ∷ qs) =
    let a : sum_by width (copies f p turned (q ∷ qs)) ≡ width (copied f p (get_or turned q is.Fail))
    + sum_by width (copies f p turned qs) =
    sum_by-cons width (copied f p (get_or turned q is.Fail)) (copies f p turned qs) in
    let b : sum_at alternates_of turned (q ∷ qs) ≡ alternates_of (get_or turned q is.Fail)
    + sum_at alternates_of turned qs =
    sum_by-cons (λ q. alternates_of (get_or turned q is.Fail)) q qs in
    let c = copied_width f p (get_or turned q is.Fail) in
    let d = copies_width f p turned qs in
    omega (arith, a, b, c, d)

more_mul : (p m : ℕ) → (p + 1) * m ≡ p * m + m
more_mul p m = ap (λ z. z * m) (one p) ∙ suc-mul p m
  where
    one : (p : ℕ) → p + 1 ≡ suc p
    one p = omega arith

-- One more part.
pub part_fits :
    (turned : List State) (most P p : ℕ) (old new : List Node) (entries entries' roots : List ℕ) (entry : ℕ)
    → states_ordered turned ≡ true → p < P → length roots ≤ most → IsPartAdded old new turned roots p entry
    → entries' ≡ entries ++ entry ∷ [] → AreParts turned most P p old entries
    → AreParts turned most P (p + 1) new entries'
part_fits turned most P p old new entries entries' roots entry ordered less short (items, w) e had = record {
  plain =
      subst (λ z. ArePlain (length new) P z) (sym w.nodes)
      (plain_append (length new) P (old ++ copies (copy_of (length old) items) p turned items)
      (Split (map (copy_of (length old) items) roots) ∷ [])
      (plain_append (length new) P old (copies (copy_of (length old) items) p turned items)
      (plain_more (length old) (length new) P old (omega (arith, long)) had.plain)
      (copies_plain turned items (length old) (length new) P p (omega (arith, long)) less items
      (λ q r i j. reached_closed Every turned roots items w.reached q r i
      (subst (λ v. In r (targets_at Every v)) (sym (node_is turned q)) j))
      ordered)) (
        map_below turned items (length old) (length new) P p (omega (arith, long)) less roots
            (reached_roots Every turned roots items w.reached),
        tt,
      ));
  few =
      let a = had.few in
      let b = more_mul p (length turned + 1) in
      let c = w.few in
      omega (arith, a, b, c, long);
  narrow =
      let a = had.narrow in
      let b = more_mul p (sum_by alternates_of turned + most) in
      omega (arith, a, b, wide);
  entered = λ x i. entered x (either x entries (subst (λ z. In x z) e i));
}
  where
    long : length new ≡ length old + length items + 1
    long =
        let a : length new ≡ length (old ++ copies (copy_of (length old) items) p turned items) + 1 =
        ap (λ z. length z) w.nodes
        ∙ length-append (old ++ copies (copy_of (length old) items) p turned items)
        (Split (map (copy_of (length old) items) roots) ∷ []) in
        let b = length-append old (copies (copy_of (length old) items) p turned items) in
        let c = copies_length (copy_of (length old) items) p turned items in
        omega (arith, a, b, c)

    wide : sum_by width new ≤ sum_by width old + (sum_by alternates_of turned + most)
    wide =
        let a : sum_by width new ≡ sum_by width (old ++ copies (copy_of (length old) items) p turned items)
        + sum_by width (Split (map (copy_of (length old) items) roots) ∷ []) =
        ap (sum_by width) w.nodes
        ∙ sum_by-append width (old ++ copies (copy_of (length old) items) p turned items)
        (Split (map (copy_of (length old) items) roots) ∷ []) in
        let b = sum_by-append width old (copies (copy_of (length old) items) p turned items) in
        let c = copies_width (copy_of (length old) items) p turned items in
        let d : sum_at alternates_of turned items ≤ sum_by alternates_of turned =
        sum_some alternates_of is.Fail turned items w.distinct w.below in
        let f : sum_by width (Split (map (copy_of (length old) items) roots) ∷ [])
        ≡ length (map (copy_of (length old) items) roots) + sum_by width [] =
        sum_by-cons width (Split (map (copy_of (length old) items) roots)) [] in
        let g = length-map roots (copy_of (length old) items) in
        omega (arith, a, b, c, d, f, g, short)

    either : (x : ℕ) (xs : List ℕ) → In x (xs ++ entry ∷ []) → In x xs ⊎ (x ≡ entry)
    either x [] (inl k) = inr k
    either x [] (inr k) = absurd k
    either x (y ∷ ys) (inl k) = inl (inl k)
    either x (y ∷ ys) (inr i) = go (either x ys i)
      where
        go : In x ys ⊎ (x ≡ entry) → In x (y ∷ ys) ⊎ (x ≡ entry)
        go (inl j) = inl (inr j)
        go (inr k) = inr k

    entered : (x : ℕ) → In x entries ⊎ (x ≡ entry) → x < length new
    entered x (inl i) = let k = had.entered x i in omega (arith, k, long)
    entered x (inr k) = let a = w.enters in omega (arith, k, a, long)

-- If there is no room for a part, the parts together are too large.
pub part_large :
    (turned : List State) (most P p : ℕ) (old : List Node) (entries : List ℕ) (len : ℕ) → p < P
    → AreParts turned most P p old entries → len ≡ length old → 2 ^ 27 < len + length turned + 1
    → 2 ^ 27 < P * (length turned + 1)
part_large turned most P p old entries len less had e l =
    let a = had.few in
    let b = more_mul p (length turned + 1) in
    let c : (p + 1) * (length turned + 1) ≤ P * (length turned + 1) =
    mul-le-mul_right (length turned + 1) (omega (arith, less)) in
    omega (arith, a, b, c, e, l)

-- The states of plain nodes pass the tests.
one_ordered : (n : ℕ) (ts : List Transition) → IsOneRange n (ranges_of ts) → ordered_from 0 ts ≡ true
one_ordered n [] h = absurd h
one_ordered n (t ∷ []) h =
    ap (λ v. v && leb t.lo t.hi && true) (le-leb 0 t.lo (omega arith)) ∙ ap (λ v. v && true) (le-leb t.lo t.hi h.0)
one_ordered n (t ∷ s ∷ ts) h = absurd h

plain_ordered : (n P : ℕ) (s : State) → IsPlain n P (node_of s) → state_ordered s ≡ true
plain_ordered n P (is.ByteRange lo hi next) h = le-leb lo hi h.0
plain_ordered n P (is.Sparse ts) h = one_ordered n ts.items h
plain_ordered n P (is.Dense targets) h = refl
plain_ordered n P (is.Look look next) h = refl
plain_ordered n P (is.Union alternates) h = refl
plain_ordered n P (is.BinaryUnion alt1 alt2) h = refl
plain_ordered n P (is.Capture next pattern index slot) h = refl
plain_ordered n P is.Fail h = refl
plain_ordered n P (is.Match pattern) h = refl

one_below : (n : ℕ) (ranges : List Range) (r : ℕ) → IsOneRange n ranges → In r (nexts ranges) → r < n
one_below n [] r h i = absurd h
one_below n (x ∷ []) r h (inl e) = subst (λ v. v < n) (sym e) h.1
one_below n (x ∷ []) r h (inr i) = absurd i
one_below n (x ∷ y ∷ rest) r h i = absurd h

plain_target : (n P : ℕ) (x : Node) (r : ℕ) → IsPlain n P x → In r (targets_at Every x) → r < n
plain_target n P (Split alternates) r h i = h r (in_either r alternates i)
  where
    in_either : (r : ℕ) (xs : List ℕ) → In r (xs ++ []) → In r xs
    in_either r [] i = i
    in_either r (x ∷ xs) (inl e) = inl e
    in_either r (x ∷ xs) (inr i) = inr (in_either r xs i)
plain_target n P (Assert look next) r h (inl e) = subst (λ v. v < n) (sym e) h
plain_target n P (Assert look next) r h (inr i) = absurd i
plain_target n P (Read ranges) r h i = one_below n ranges r h i
plain_target n P (Accept p) r h i = absurd i

plain_match : (n P : ℕ) (s : State) → IsPlain n P (node_of s) → match_below P s ≡ true
plain_match n P (is.ByteRange lo hi next) h = refl
plain_match n P (is.Sparse ts) h = refl
plain_match n P (is.Dense targets) h = refl
plain_match n P (is.Look look next) h = refl
plain_match n P (is.Union alternates) h = refl
plain_match n P (is.BinaryUnion alt1 alt2) h = refl
plain_match n P (is.Capture next pattern index slot) h = refl
plain_match n P is.Fail h = refl
plain_match n P (is.Match pattern) h = lt-ltb pattern P h

pub plain_tests :
    (n P : ℕ) (xs : List State) → 0 < n → ArePlain n P (nodes_of xs)
    → (states_below n xs ≡ true) × (states_ordered xs ≡ true) × (matches_below P xs ≡ true)
plain_tests n P [] z h = (refl, refl, refl)
plain_tests n P (x ∷ xs) z h =
    let w = plain_tests n P xs z h.1 in (
      ap (λ v. v && states_below n xs) (state_is_below n x z (λ r i. plain_target n P (node_of x) r h.0 i)) ∙ w.0,
      ap (λ v. v && states_ordered xs) (plain_ordered n P x h.0) ∙ w.1,
      ap (λ v. v && matches_below P xs) (plain_match n P x h.0) ∙ w.2,
    )

-- A state has at most as many alternates as its node.
state_width : (s : State) → alternates_of s ≤ width (node_of s)
state_width (is.ByteRange lo hi next) = omega arith
state_width (is.Sparse ts) = omega arith
state_width (is.Dense targets) = omega arith
state_width (is.Look look next) = omega arith
state_width (is.Union alternates) = omega arith
state_width (is.BinaryUnion alt1 alt2) = omega arith
state_width (is.Capture next pattern index slot) = omega arith
state_width is.Fail = omega arith
state_width (is.Match pattern) = omega arith

states_width : (xs : List State) → sum_by alternates_of xs ≤ sum_by width (nodes_of xs)
states_width [] = omega arith
states_width (x ∷ xs) =
    let a : sum_by alternates_of (x ∷ xs) ≡ alternates_of x + sum_by alternates_of xs =
    sum_by-cons alternates_of x xs in
    let b : sum_by width (nodes_of (x ∷ xs)) ≡ width (node_of x) + sum_by width (nodes_of xs) =
    sum_by-cons width (node_of x) (nodes_of xs) in
    let c = state_width x in
    let d = states_width xs in
    omega (arith, a, b, c, d)

-- The parts and the root together.
pub made_fits :
    (states turned made : List State) (reached : List ℕ) (P : ℕ) (nodes : List Node) (entries entries' : List ℕ)
    (root len : ℕ)
    → AreParts turned (length reached) P P nodes entries → nodes_of made ≡ nodes ++ Split entries ∷ []
    → root ≡ len → len ≡ length nodes → length made ≤ 2 ^ 27 → entries' ≡ entries → length entries ≡ P
    → length reached ≤ length states → length turned ≤ length states + sum_by asking_edges states + 1
    → sum_by alternates_of turned ≤ sum_by asking_edges states + sum_by free_edges states + 1
    → IsFit states P made entries' root
made_fits states turned made reached P nodes entries entries' root len parts n r q small e count few long wide =
    record {
      plain =
          subst (λ z. ArePlain (length made) z (nodes_of made)) (sym (ap (λ z. length z) e ∙ count))
          (subst (λ z. ArePlain (length made) P z) (sym n)
          (plain_append (length made) P nodes (Split entries ∷ [])
          (plain_more (length nodes) (length made) P nodes (omega (arith, size)) parts.plain)
          ((λ x i. let k = parts.entered x i in omega (arith, k, size)), tt)));
      small = small;
      entered = λ x i. let k = parts.entered x (subst (λ z. In x z) e i) in omega (arith, k, size);
      starts = omega (arith, r, q, size);
      few =
          let a = parts.few in
          let b = more_mul P (length states + sum_by asking_edges states + 2) in
          let c : P * (length turned + 1) ≤ P * (length states + sum_by asking_edges states + 2) =
          mul-le-mul_left P (omega (arith, long)) in
          omega (arith, a, b, c, size);
      narrow =
          let a = parts.narrow in
          let b = more_mul P (length states + sum_by asking_edges states + sum_by free_edges states + 2) in
          let c : P * (sum_by alternates_of turned + length reached + 1)
          ≤ P * (length states + sum_by asking_edges states + sum_by free_edges states + 2) =
          mul-le-mul_left P (omega (arith, wide, few)) in
          let d : P * (sum_by alternates_of turned + length reached + 1)
          ≡ P * (sum_by alternates_of turned + length reached) + P =
          mul_more P (sum_by alternates_of turned + length reached) in
          let f = states_width made in
          let g : sum_by width (nodes_of made) ≡ sum_by width nodes + sum_by width (Split entries ∷ []) =
          ap (sum_by width) n ∙ sum_by-append width nodes (Split entries ∷ []) in
          let h : sum_by width (Split entries ∷ []) ≡ length entries + sum_by width [] =
          sum_by-cons width (Split entries) [] in
          omega (arith, a, b, c, d, f, g, h, count);
    }
  where
    size : length made ≡ length nodes + 1
    size = sym (nodes_length made) ∙ (ap (λ z. length z) n ∙ length-append nodes (Split entries ∷ []))

    mul_more : (p m : ℕ) → p * (m + 1) ≡ p * m + p
    mul_more p m = ap (λ z. p * z) (one m) ∙ mul-suc p m
      where
        one : (m : ℕ) → m + 1 ≡ suc m
        one m = omega arith

-- If the parts are too large, so is the bound computed from the states and edges of the NFA.
pub parts_large :
    (states turned : List State) (P : ℕ) → length turned ≤ length states + sum_by asking_edges states + 1
    → 2 ^ 27 < P * (length turned + 1) → 2 ^ 27 < (P + 1) * (length states + sum_by asking_edges states + 2)
parts_large states turned P long l =
    let b = more_mul P (length states + sum_by asking_edges states + 2) in
    let c : P * (length turned + 1) ≤ P * (length states + sum_by asking_edges states + 2) =
    mul-le-mul_left P (omega (arith, long)) in
    omega (arith, b, c, l)

pub root_large :
    (states turned : List State) (reached : List ℕ) (P : ℕ) (nodes : List Node) (entries : List ℕ) (len : ℕ)
    → AreParts turned (length reached) P P nodes entries → len ≡ length nodes
    → length turned ≤ length states + sum_by asking_edges states + 1
    → 2 ^ 27 ≤ len → 2 ^ 27 < (P + 1) * (length states + sum_by asking_edges states + 2)
root_large states turned reached P nodes entries len parts e long l =
    let a = parts.few in
    let b = more_mul P (length states + sum_by asking_edges states + 2) in
    let c : P * (length turned + 1) ≤ P * (length states + sum_by asking_edges states + 2) =
    mul-le-mul_left P (omega (arith, long)) in
    omega (arith, a, b, c, e, l)

pub turned_large :
    (states : List State) (P : ℕ) → 2 ^ 27 < length states + sum_by asking_edges states + 1
    → 2 ^ 27 < (P + 1) * (length states + sum_by asking_edges states + 2)
turned_large states P l =
    let b = more_mul P (length states + sum_by asking_edges states + 2) in
    omega (arith, b, l)

-- The tests of `NFA::from_states` pass.
pub fit_passes :
    (states made : List State) (P : ℕ) (entries : List ℕ) (root : ℕ) → IsFit states P made entries root
    → length entries ≤ 2 ^ 27 → is_narrow made ≡ true → states_error made root root entries ≡ None
fit_passes states made P entries root fit few narrow =
    refusal_is made root root entries
    ∙ (goes_on (is_small made entries) (is_narrow made) (starts_below (length made) root root entries)
    (states_below (length made) made)
    (states_ordered made) (matches_below (length entries) made) small narrow starts tests.0 tests.1
    ∙ ap (λ z. unless z PatternRange None) tests.2)
  where
    tests :
        (states_below (length made) made ≡ true) × (states_ordered made ≡ true)
        × (matches_below (length entries) made ≡ true)
    tests = plain_tests (length made) (length entries) made (let k = fit.starts in omega (arith, k)) fit.plain

    small : is_small made entries ≡ true
    small =
        ap (λ v. v && leb (length entries) (2 ^ 27)) (le-leb (length made) (2 ^ 27) fit.small)
        ∙ le-leb (length entries) (2 ^ 27) few

    starts : starts_below (length made) root root entries ≡ true
    starts =
        ap (λ v. v && v && all_below (length made) entries) (lt-ltb root (length made) fit.starts)
        ∙ all_below_from (length made) entries fit.entered

pub fit_large :
    (states made : List State) (P : ℕ) (entries : List ℕ) (root : ℕ) → IsFit states P made entries root
    → is_narrow made ≡ false
    → 2 ^ 31 < (P + 1) * (length states + sum_by asking_edges states + sum_by free_edges states + 2)
fit_large states made P entries root fit wide =
    let a = leb-false (sum_by alternates_of made) (2 ^ 31) wide in
    let b = fit.narrow in
    omega (arith, a, b)
