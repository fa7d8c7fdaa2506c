-- Copies of reversed states, and their IDs.
use Rattle.std.proofs.Common.{ℕ, zero, suc, ◌≡◌, ◌<◌, ◌≤◌, ◌+◌, ◌⊎◌, ◌↔◌, ◌&&◌, ltb, Bool, true, false, cond, List}
use Rattle.std.proofs.Common.{[], ◌∷◌, ◌++◌, length, length-append, get_or, drop, map, Vec, Option, Some, None, inl}
use Rattle.std.proofs.Common.{inr, refl, sym}
use Rattle.std.proofs.Common.{ap, ◌∙◌, subst, arith, append_assoc, append-nil, slice_set}
use Rattle.std.proofs.lemmas.List.{get_or_default, drop_more, drop_all}
use Rattle.automata_base.specs.declared.nfa.thompson.state.State.{State}
use Rattle.automata_base.specs.declared.nfa.thompson.state.State.TheVariants as is
use Rattle.automata_base.specs.Lists.{In, Distinct, all_below}
use Rattle.std.specs.Prelude.{nat_eq, slice_get}
use Rattle.automata_base.specs.Nfas.Nfa.{Node, Split, accepts_at}
use Rattle.automata_base.specs.Nfas.Nodes.{node_of, nodes_of}
use Rattle.automata_base.specs.Retraced.Reach.{IsReached, targets_at, targets_of}
use Rattle.automata_base.specs.declared.nfa.thompson.reach.Edges.{Edges}
use Rattle.automata_base.specs.declared.nfa.thompson.reach.Edges.TheVariants.{Every}
use Rattle.automata_base.proofs.Powersets.Walking.{node_at, nodes_length}
use Rattle.automata_base.proofs.Paths.Orders.{some_inj, none_some}
use Rattle.std.proofs.lemmas.Bool.{ltb-true, ltb-false, lt-ltb}
use Rattle.std.proofs.lemmas.Bool.Decides.{nat_tests}
use Rattle.automata_base.proofs.Paths.Walks.{in_either}
use Rattle.automata_transform.specs.Retraced.ReversedEdges.{copied, copies, copy_of, is_of, matches_in, IsCopied}
use Rattle.automata_transform.specs.Retraced.ReversedEdges.{Copied, HaveCopies, part_at}
use Rattle.automata_base.specs.Retraced.ReversedEdges.{list_at, lists_of}
use Rattle.std.specs.declared.alloc.Global.{Global}
use Rattle.automata_base.proofs.Nfas.Mirrors.Lists.{list_item}
use Rattle.std.proofs.lemmas.Bool.{and_parts}
use Rattle.automata_base.proofs.Nfas.Reach.Walked.{way_more}

pub nodes_more : (xs : List State) (x : State) → nodes_of (xs ++ x ∷ []) ≡ nodes_of xs ++ node_of x ∷ []
nodes_more [] x = refl
nodes_more (y ∷ ys) x = ap (λ z. node_of y ∷ z) (nodes_more ys x)

pub in_slice : (xs : List ℕ) (i x : ℕ) → i < length xs → x ≡ get_or xs i x → In x xs
in_slice [] i x l e = absurd (omega (arith, l))
in_slice (y ∷ ys) zero x l e = inl e
in_slice (y ∷ ys) (suc i) x l e = inr (in_slice ys i x (omega (arith, l)) e)

-- The state of a list at an index.
pub state_same :
    (states : List State) (at id : ℕ) (s : State) → at < length states → at ≡ id → s ≡ get_or states at s
    → s ≡ get_or states id is.Fail
state_same states at id s k a f = f ∙ (get_or_default states at s is.Fail k ∙ ap (λ z. get_or states z is.Fail) a)

-- One more member.
pub map_next :
    (f : ℕ → ℕ) (xs out new w : List ℕ) (i x y : ℕ) → i < length xs → x ≡ get_or xs i x → y ≡ f x
    → new ≡ out ++ y ∷ [] → out ++ map f (drop i xs) ≡ w → new ++ map f (drop (i + 1) xs) ≡ w
map_next f xs out new w i x y l e g n h =
    ap (λ z. z ++ map f (drop (i + 1) xs)) (n ∙ ap (λ z. out ++ z ∷ []) g)
    ∙ (append_assoc out (f x ∷ []) (map f (drop (i + 1) xs))
    ∙ (sym (ap (λ z. out ++ map f z) (drop_more xs i x l ∙ ap (λ z. z ∷ drop (i + 1) xs) (sym e))) ∙ h))

pub map_done : (f : ℕ → ℕ) (xs out w : List ℕ) (i : ℕ) → length xs ≤ i → out ++ map f (drop i xs) ≡ w → out ≡ w
map_done f xs out w i l h = sym (append-nil out) ∙ (sym (ap (λ z. out ++ map f z) (drop_all i xs l)) ∙ h)

-- The numbers, of which the first `n` are replaced.
abbrev pub replaced : (f : ℕ → ℕ) → (n : ℕ) → List ℕ → List ℕ
replaced f n [] = []
replaced f zero (x ∷ xs) = x ∷ xs
replaced f (suc n) (x ∷ xs) = f x ∷ replaced f n xs

pub none_replaced : (f : ℕ → ℕ) (xs : List ℕ) → replaced f 0 xs ≡ xs
none_replaced f [] = refl
none_replaced f (x ∷ xs) = refl

pub all_replaced : (f : ℕ → ℕ) (xs : List ℕ) → replaced f (length xs) xs ≡ map f xs
all_replaced f [] = refl
all_replaced f (x ∷ xs) = ap (λ z. f x ∷ z) (all_replaced f xs)

pub replaced_next :
    (f : ℕ → ℕ) (xs : List ℕ) (i d y : ℕ) → i < length xs → y ≡ f (get_or (replaced f i xs) i d)
    → slice_set (replaced f i xs) i y ≡ replaced f (suc i) xs
replaced_next f [] i d y l e = absurd (omega (arith, l))
replaced_next f (x ∷ xs) zero d y l e = ap (λ z. z ∷ xs) e ∙ ap (λ z. f x ∷ z) (sym (none_replaced f xs))
replaced_next f (x ∷ xs) (suc i) d y l e = ap (λ z. f x ∷ z) (replaced_next f xs i d y (omega (arith, l)) e)

-- The next of the numbers is not replaced yet.
pub replaced_at :
    (f : ℕ → ℕ) (xs : List ℕ) (i d : ℕ) → i < length xs → In (get_or (replaced f i xs) i d) xs
replaced_at f [] i d l = absurd (omega (arith, l))
replaced_at f (x ∷ xs) zero d l = inl refl
replaced_at f (x ∷ xs) (suc i) d l = inr (replaced_at f xs i d (omega (arith, l)))

distinct_drop : (i : ℕ) (xs : List ℕ) → Distinct xs → Distinct (drop i xs)
distinct_drop zero xs d = d
distinct_drop (suc i) [] d = d
distinct_drop (suc i) (x ∷ xs) d = distinct_drop i xs d.1

-- The members after one of them are other members.
pub after_member :
    (xs : List ℕ) (i x : ℕ) → Distinct xs → i < length xs → x ≡ get_or xs i x
    → (q : ℕ) → In q (drop (i + 1) xs) → In q (drop i xs) × (q ≡ x → ⊥)
after_member xs i x d l e q h = (
  subst (λ z. In q z) (sym begins) (inr h),
  λ same. (subst (λ z. Distinct z) begins (distinct_drop i xs d)).0 (subst (λ z. In z (drop (i + 1) xs)) same h),
)
  where
    begins : drop i xs ≡ x ∷ drop (i + 1) xs
    begins = drop_more xs i x l ∙ ap (λ z. z ∷ drop (i + 1) xs) (sym e)

-- The next member is one of those that are left.
pub next_member : (xs : List ℕ) (i x : ℕ) → i < length xs → x ≡ get_or xs i x → In x (drop i xs)
next_member xs i x l e =
    subst (λ z. In x z) (sym (drop_more xs i x l ∙ ap (λ z. z ∷ drop (i + 1) xs) (sym e))) (inl refl)

-- A state that is still what it was leads only to members.
pub closed_at :
    (turned now : List State) (items : List ℕ) (x q : ℕ) → x < length turned
    → get_or now x is.Fail ≡ get_or turned x is.Fail
    → ((x q : ℕ) → In x items → In q (targets_of Every turned x) → In q items) → In x items
    → In q (targets_at Every (node_of (get_or now x is.Fail))) → In q items
closed_at turned now items x q l e closed member i =
    closed x q member
    (subst (λ z. In q (targets_at Every z))
    (ap node_of e ∙ sym (node_at turned x (get_or turned x is.Fail) is.Fail l refl)) i)

pub copies_next :
    (f : ℕ → ℕ) (p : ℕ) (turned : List State) (xs : List ℕ) (out new w : List Node) (i id at : ℕ) (s : State) (y : Node)
    → i < length xs → id ≡ get_or xs i id → at < length turned → at ≡ id → s ≡ get_or turned at s → y ≡ copied f p s
    → new ≡ out ++ y ∷ [] → out ++ copies f p turned (drop i xs) ≡ w → new ++ copies f p turned (drop (i + 1) xs) ≡ w
copies_next f p turned xs out new w i id at s y l e k a g c n h =
    ap (λ z. z ++ copies f p turned (drop (i + 1) xs))
    (n ∙ ap (λ z. out ++ z ∷ []) (c ∙ ap (copied f p) (state_same turned at id s k a g)))
    ∙ (append_assoc out (copied f p (get_or turned id is.Fail) ∷ []) (copies f p turned (drop (i + 1) xs))
    ∙ (sym (ap (λ z. out ++ copies f p turned z) (drop_more xs i id l ∙ ap (λ z. z ∷ drop (i + 1) xs) (sym e))) ∙ h))

pub copies_done :
    (f : ℕ → ℕ) (p : ℕ) (turned : List State) (xs : List ℕ) (out w : List Node) (i : ℕ)
    → length xs ≤ i → out ++ copies f p turned (drop i xs) ≡ w → out ≡ w
copies_done f p turned xs out w i l h =
    sym (append-nil out) ∙ (sym (ap (λ z. out ++ copies f p turned z) (drop_all i xs l)) ∙ h)

pub matches_next :
    (states : List State) (p : ℕ) (xs out new w : List ℕ) (i id at : ℕ) (s : State) (b : Bool)
    → i < length xs → id ≡ get_or xs i id → at < length states → at ≡ id → s ≡ get_or states at s
    → b ≡ is_of (accepts_at (node_of s)) p → new ≡ out ++ cond b (id ∷ []) []
    → out ++ matches_in states p (drop i xs) ≡ w → new ++ matches_in states p (drop (i + 1) xs) ≡ w
matches_next states p xs out new w i id at s b l e k a g c n h =
    ap (λ z. z ++ matches_in states p (drop (i + 1) xs)) n
    ∙ (append_assoc out (cond b (id ∷ []) []) (matches_in states p (drop (i + 1) xs))
    ∙ (ap (λ z. out ++ z) (pulled b)
    ∙ (ap (λ z. out ++ cond z (id ∷ matches_in states p (drop (i + 1) xs)) (matches_in states p (drop (i + 1) xs)))
    (c ∙ ap (λ z. is_of (accepts_at (node_of z)) p) (state_same states at id s k a g))
    ∙ (sym (ap (λ z. out ++ matches_in states p z) (drop_more xs i id l ∙ ap (λ z. z ∷ drop (i + 1) xs) (sym e)))
    ∙ h))))
  where
    pulled :
        (b : Bool)
        → cond b (id ∷ []) [] ++ matches_in states p (drop (i + 1) xs)
        ≡ cond b (id ∷ matches_in states p (drop (i + 1) xs)) (matches_in states p (drop (i + 1) xs))
    pulled true = refl
    pulled false = refl

pub matches_done :
    (states : List State) (p : ℕ) (xs out w : List ℕ) (i : ℕ) → length xs ≤ i
    → out ++ matches_in states p (drop i xs) ≡ w → out ≡ w
matches_done states p xs out w i l h =
    sym (append-nil out) ∙ (sym (ap (λ z. out ++ matches_in states p z) (drop_all i xs l)) ∙ h)

-- The listed roots of a pattern.
pub roots_are :
    (vs : List (Vec ℕ Global)) (states : List State) (reached roots : List ℕ) (v : Vec ℕ Global) (patterns p q : ℕ)
    → roots ≡ v.items → p < patterns → length vs ≡ patterns → v ≡ get_or vs p v
    → ((p : ℕ) → p < patterns → list_at (lists_of vs) p ≡ matches_in states p reached) → q ≡ p
    → roots ≡ matches_in states q reached
roots_are vs states reached roots v patterns p q r l few e m same =
    r
    ∙ (sym (list_item vs p v (omega (arith, l, few)) e)
    ∙ (m p l ∙ ap (λ z. matches_in states z reached) (sym same)))

pub nth_more : {A : Type 0} (xs ys : List A) (j : ℕ) (a : A) → slice_get xs j ≡ Some a → slice_get (xs ++ ys) j ≡ Some a
nth_more [] ys j a e = absurd (none_of e)
  where
    none_of : {A : Type 0} {a : A} → ◌≡◌ {A = Option A} None (Some a) → ⊥
    none_of e = cc
nth_more (x ∷ xs) ys zero a e = e
nth_more (x ∷ xs) ys (suc j) a e = nth_more xs ys j a e

nth_after :
    {A : Type 0} (xs ys : List A) (j : ℕ) (a : A) → slice_get ys j ≡ Some a
    → slice_get (xs ++ ys) (length xs + j) ≡ Some a
nth_after [] ys j a e = ap (λ n. slice_get ys n) (zero_add j) ∙ e
  where
    zero_add : (j : ℕ) → 0 + j ≡ j
    zero_add j = omega arith
nth_after (x ∷ xs) ys j a e = ap (λ n. slice_get (x ∷ (xs ++ ys)) n) (suc_add (length xs) j) ∙ nth_after xs ys j a e
  where
    suc_add : (n j : ℕ) → suc n + j ≡ suc (n + j)
    suc_add n j = omega arith

pub nth_last : {A : Type 0} (xs : List A) (a : A) → slice_get (xs ++ a ∷ []) (length xs) ≡ Some a
nth_last [] a = refl
nth_last (x ∷ xs) a = nth_last xs a

nth_copies :
    (f : ℕ → ℕ) (p : ℕ) (turned : List State) (items : List ℕ) (k q : ℕ) → slice_get items k ≡ Some q
    → slice_get (copies f p turned items) k ≡ Some (copied f p (get_or turned q is.Fail))
nth_copies f p turned [] k q e = absurd (none_some e)
nth_copies f p turned (x ∷ xs) zero q e = ap (λ v. Some (copied f p (get_or turned v is.Fail))) (some_inj e)
nth_copies f p turned (x ∷ xs) (suc k) q e = nth_copies f p turned xs k q e

-- A part that was made.
pub part_made :
    (old mid new : List Node) (turned : List State) (roots items alternates : List ℕ) (p base entry : ℕ)
    → ((q : ℕ) → In q items ↔ IsReached Every turned roots q) → Distinct items
    → base ≡ length old → mid ≡ old ++ copies (copy_of base items) p turned items
    → entry ≡ length mid → alternates ≡ map (copy_of base items) roots → new ≡ mid ++ Split alternates ∷ []
    → entry ≡ base + length items → IsCopied new turned roots p entry base items
part_made old mid new turned roots items alternates p base entry reached distinct b m e a n ends = record {
  reached = reached;
  distinct = distinct;
  each = λ k q i.
      ap (λ z. slice_get z (base + k)) n
      ∙ nth_more mid (Split alternates ∷ []) (base + k) (copied (copy_of base items) p (get_or turned q is.Fail))
      (ap (λ z. slice_get z (base + k)) m
      ∙ (ap (λ z. slice_get (old ++ copies (copy_of base items) p turned items) (z + k)) b
      ∙ nth_after old (copies (copy_of base items) p turned items) k
      (copied (copy_of base items) p (get_or turned q is.Fail))
      (nth_copies (copy_of base items) p turned items k q i)));
  enters =
      ap (λ z. slice_get z entry) n
      ∙ (ap (λ z. slice_get (mid ++ Split alternates ∷ []) z) e
      ∙ (nth_last mid (Split alternates) ∙ ap (λ z. Some (Split z)) a));
  ends = ends;
}

-- A part stays a part when more nodes are added.
pub copied_more :
    (nodes new more : List Node) (turned : List State) (roots : List ℕ) (p entry base : ℕ) (items : List ℕ)
    → new ≡ nodes ++ more → IsCopied nodes turned roots p entry base items
    → IsCopied new turned roots p entry base items
copied_more nodes new more turned roots p entry base items n h = record {
  reached = h.reached;
  distinct = h.distinct;
  each = λ k q i.
      ap (λ z. slice_get z (base + k)) n
      ∙ nth_more nodes more (base + k) (copied (copy_of base items) p (get_or turned q is.Fail)) (h.each k q i);
  enters = ap (λ z. slice_get z entry) n ∙ nth_more nodes more entry (Split (map (copy_of base items) roots)) h.enters;
  ends = h.ends;
}

nth_either :
    (xs : List ℕ) (a k x : ℕ) → slice_get (xs ++ a ∷ []) k ≡ Some x → (slice_get xs k ≡ Some x)
    ⊎ ((k ≡ length xs) × (x ≡ a))
nth_either [] a zero x e = inr (refl, sym (some_inj e))
nth_either [] a (suc k) x e = absurd (none_some e)
nth_either (y ∷ ys) a zero x e = inl e
nth_either (y ∷ ys) a (suc k) x e = go (nth_either ys a k x e)
  where
    go :
        (slice_get ys k ≡ Some x) ⊎ ((k ≡ length ys) × (x ≡ a)) → (slice_get ys k ≡ Some x)
        ⊎ ((suc k ≡ suc (length ys)) × (x ≡ a))
    go (inl h) = inl h
    go (inr h) = inr (ap suc h.0, h.1)

-- A list without repeats stays so when an element that it does not contain is added at the end.
pub distinct_last : (xs : List ℕ) (y : ℕ) → Distinct xs → (In y xs → ⊥) → Distinct (xs ++ y ∷ [])
distinct_last [] y d f = ((λ i. i), tt)
distinct_last (x ∷ xs) y d f = ((λ i. go (in_either x xs (y ∷ []) i)), distinct_last xs y d.1 (λ i. f (inr i)))
  where
    go : In x xs ⊎ In x (y ∷ []) → ⊥
    go (inl i) = d.0 i
    go (inr (inl e)) = f (inl (sym e))
    go (inr (inr b)) = b

part_left :
    (parts : List Copied) (c : Copied) (p : ℕ) → p < length parts → part_at (parts ++ c ∷ []) p ≡ part_at parts p
part_left [] c p l = absurd (omega (arith, l))
part_left (x ∷ xs) c zero l = refl
part_left (x ∷ xs) c (suc p) l = part_left xs c p (omega (arith, l))

part_last : (parts : List Copied) (c : Copied) → part_at (parts ++ c ∷ []) (length parts) ≡ c
part_last [] c = refl
part_last (x ∷ xs) c = part_last xs c

nth_inside : (xs : List ℕ) (k x : ℕ) → slice_get xs k ≡ Some x → k < length xs
nth_inside [] k x e = absurd (none_some e)
nth_inside (y ∷ ys) zero x e = omega arith
nth_inside (y ∷ ys) (suc k) x e = let l = nth_inside ys k x e in omega (arith, l)

-- A pattern that another one follows is not the last.
pub before_last : (p patterns : ℕ) → p + 1 < patterns → nat_eq (p + 1) patterns ≡ false
before_last p patterns l = grind (arith, nat_tests)

pub have_none : (states turned : List State) (reached : List ℕ) → HaveCopies [] states turned reached []
have_none states turned reached = record {
  parts = [];
  few = refl;
  each = λ p entry e. absurd (none_some e);
  only = λ x l. absurd (omega (arith, l));
  inside = λ e i. absurd i;
  distinct = tt;
}

-- The node belongs to a part, or is its entry.
abbrev IsIn : List ℕ → List Copied → ℕ → Type 0
IsIn entries parts x =
    (q y : ℕ) × (slice_get entries q ≡ Some y) × ((part_at parts q).base ≤ x) × (x ≤ y)

-- The copies for one more pattern.
pub have_more :
    (nodes new more : List Node) (states turned : List State) (reached entries entries' : List ℕ) (p entry base : ℕ)
    (items : List ℕ)
    → new ≡ nodes ++ more → p ≡ length entries → entries' ≡ entries ++ entry ∷ [] → base ≡ length nodes
    → length new ≡ suc entry
    → IsCopied new turned (matches_in states p reached) p entry base items
    → HaveCopies nodes states turned reached entries
    → HaveCopies new states turned reached entries'
have_more nodes new more states turned reached entries entries' p entry base items n l e begins long made had =
    subst (λ z. HaveCopies new states turned reached z) (sym e) (record {
      parts = had.parts ++ c ∷ [];
      few =
          length-append had.parts (c ∷ [])
          ∙ (ap (λ z. z + 1) had.few ∙ sym (length-append entries (entry ∷ [])));
      each = λ q x i. each q x (nth_either entries entry q x i);
      only = λ x k. only x (ltb x (length nodes)) refl k;
      inside = λ x i. inside x (in_either x entries (entry ∷ []) i);
      distinct =
          distinct_last entries entry had.distinct
          (λ i. let k = had.inside entry i in omega (arith, k, begins, made.ends));
    })
  where
    c : Copied
    c = record { base = base; items = items }

    count : length had.parts ≡ length entries
    count = had.few

    each :
        (q x : ℕ) → (slice_get entries q ≡ Some x) ⊎ ((q ≡ length entries) × (x ≡ entry))
        → IsCopied new turned (matches_in states q reached) q x (part_at (had.parts ++ c ∷ []) q).base
        (part_at (had.parts ++ c ∷ []) q).items
    each q x (inl h) =
        subst (λ (d : Copied). IsCopied new turned (matches_in states q reached) q x d.base d.items)
        (sym (part_left had.parts c q (let k = nth_inside entries q x h in omega (arith, k, count))))
        (copied_more nodes new more turned (matches_in states q reached) q x (part_at had.parts q).base
        (part_at had.parts q).items n
        (had.each q x h))
    each q x (inr h) =
        subst (λ v. IsCopied new turned (matches_in states v reached) v x (part_at (had.parts ++ c ∷ []) v).base
        (part_at (had.parts ++ c ∷ []) v).items)
        (count ∙ sym h.0)
        (subst (λ (d : Copied). IsCopied new turned (matches_in states (length had.parts) reached) (length had.parts) x
        d.base d.items)
        (sym (part_last had.parts c))
        (subst (λ v. IsCopied new turned (matches_in states v reached) v x base items) (l ∙ sym count)
        (subst (λ v. IsCopied new turned (matches_in states p reached) p v base items) (sym h.1) made)))

    before : (x : ℕ) → IsIn entries had.parts x → IsIn (entries ++ entry ∷ []) (had.parts ++ c ∷ []) x
    before x (q, y, i, b, f) = (
      q,
      y,
      nth_more entries (entry ∷ []) q y i,
      subst (λ (d : Copied). d.base ≤ x)
          (sym (part_left had.parts c q (let k = nth_inside entries q y i in omega (arith, k, count)))) b,
      f,
    )

    only :
        (x : ℕ) (b : Bool) → ltb x (length nodes) ≡ b → x < length new
        → IsIn (entries ++ entry ∷ []) (had.parts ++ c ∷ []) x
    only x true t k = before x (had.only x (ltb-true x (length nodes) t))
    only x false t k = (
      length entries,
      entry,
      nth_last entries entry,
      subst (λ v. (part_at (had.parts ++ c ∷ []) v).base ≤ x) count
          (subst (λ (d : Copied). d.base ≤ x) (sym (part_last had.parts c))
          (let f = ltb-false x (length nodes) t in omega (arith, f, begins))),
      omega (arith, k, long),
    )

    inside : (x : ℕ) → In x entries ⊎ In x (entry ∷ []) → x < length new
    inside x (inl i) = let k = had.inside x i in omega (arith, k, long, begins, made.ends)
    inside x (inr (inl f)) = omega (arith, f, long)
    inside x (inr (inr b)) = absurd b

pub matches_few : (states : List State) (p : ℕ) (ids : List ℕ) → length (matches_in states p ids) ≤ length ids
matches_few states p [] = omega arith
matches_few states p (q ∷ qs) = go (is_of (accepts_at (node_of (get_or states q is.Fail))) p) (matches_few states p qs)
  where
    go :
        (b : Bool) → length (matches_in states p qs) ≤ length qs
        → length (cond b (q ∷ matches_in states p qs) (matches_in states p qs)) ≤ length (q ∷ qs)
    go true h = omega (arith, h)
    go false h = omega (arith, h)

-- Roots are in range.
pub matches_below :
    (n m : ℕ) (states : List State) (p : ℕ) (ids : List ℕ) → n ≤ m → all_below n ids ≡ true
    → all_below m (matches_in states p ids) ≡ true
matches_below n m states p [] l b = refl
matches_below n m states p (q ∷ qs) l b =
    go (is_of (accepts_at (node_of (get_or states q is.Fail))) p) (matches_below n m states p qs l c.1)
  where
    c : (ltb q n ≡ true) × (all_below n qs ≡ true)
    c = and_parts (ltb q n) (all_below n qs) b

    go :
        (t : Bool) → all_below m (matches_in states p qs) ≡ true
        → all_below m (cond t (q ∷ matches_in states p qs) (matches_in states p qs)) ≡ true
    go true h =
        ap (λ v. v && all_below m (matches_in states p qs))
        (lt-ltb q m (let k = ltb-true q n c.0 in omega (arith, k, l)))
        ∙ h
    go false h = h

pub reached_closed :
    (edges : Edges) (states : List State) (roots items : List ℕ)
    → ((q : ℕ) → In q items ↔ IsReached edges states roots q)
    → (x q : ℕ) → In x items → In q (targets_of edges states x) → In q items
reached_closed edges states roots items r x q i t =
    let h = (r x).0 i in
    let m = way_more (targets_of edges states) h.0 h.1 x q h.3 t in
    (r q).1 (h.0, m.0, h.2, m.1)

pub reached_roots :
    (edges : Edges) (states : List State) (roots items : List ℕ)
    → ((q : ℕ) → In q items ↔ IsReached edges states roots q)
    → (q : ℕ) → In q roots → In q items
reached_roots edges states roots items r q i = (r q).1 (q, [], i, refl)

pub id_length : (len n base : ℕ) (xs : List State) → len ≡ length xs → n ≡ len → base ≡ n → base ≡ length (nodes_of xs)
id_length len n base xs l m e = e ∙ (m ∙ (l ∙ sym (nodes_length xs)))
