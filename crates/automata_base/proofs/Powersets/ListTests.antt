-- Loops that test each element of a list.
use Rattle.std.proofs.Common.{ℕ, zero, suc, ◌≡◌, ◌<◌, ◌≤◌, ◌+◌, ◌||◌, ◌&&◌, Bool, true, false, ltb, List, [], ◌∷◌}
use Rattle.std.proofs.Common.{length, get_or, drop, Option, Some, None, refl, sym, ap, ◌∙◌, subst, arith}
use Rattle.std.proofs.lemmas.List.{at_drop_more, drop_all, take_all}
use Rattle.std.proofs.lemmas.List.Sums.{sum_by_more}
use Rattle.std.proofs.Common.{leb, take, ◌-◌}
use Rattle.std.specs.Prelude.{sum_by, slice_get}
use Rattle.std.proofs.lemmas.Bool.{ltb-true}
use Rattle.automata_base.specs.Haystacks.Looks.{Look}
use Rattle.automata_base.specs.Nfas.Nfa.{node_or_fail, accepts_at, looks_at, any_node}
use Rattle.automata_base.specs.Lists.{all_below}
use Rattle.automata_base.proofs.Paths.Checks.{node_below, nodes_below, ranges_below}
use Rattle.automata_base.specs.declared.nfa.thompson.state.State.{State}
use Rattle.automata_base.specs.declared.nfa.thompson.state.State.TheVariants.{ByteRange, Sparse, Dense}
use Rattle.automata_base.specs.declared.nfa.thompson.state.State.TheVariants.{Look as LookState}
use Rattle.automata_base.specs.declared.nfa.thompson.state.State.TheVariants.{Union, BinaryUnion, Capture, Fail, Match}
use Rattle.automata_base.specs.declared.nfa.thompson.state.Transition.{Transition}
use Rattle.automata_base.specs.Nfas.Nodes.{node_of, nodes_of, ranges_of, dense_from, extra_of, stack_room}
use Rattle.automata_base.specs.Nfas.Nodes.{Automaton, nfa_of}
use Rattle.std.specs.Prelude.{All}
use Rattle.automata_base.specs.Nfas.Accepted.{IsInRange}
use Rattle.automata_base.proofs.Paths.Checked.{in_range, below_in}
use Rattle.automata_base.proofs.Powersets.Walking.{nodes_length}
use Rattle.automata_base.proofs.Powersets.Distinct.{In-get_or}
use Rattle.automata_base.specs.Nfas.Errors.{transitions_below, state_below, states_below, match_below, matches_below}
use Rattle.automata_base.specs.Nfas.Errors.{ordered_from, alternates_of}
use Rattle.std.proofs.lemmas.Bool.{and_parts}
use Rattle.std.proofs.Math.Bool.{or-false}
use Rattle.automata_base.proofs.Paths.Machines.{and_true}

pub test_fails :
    {X : Type 0} (F : List X → Bool) (T : X → Bool) (xs : List X) (i : ℕ) (x : X) (w : Bool)
    → ((y : X) (ys : List X) → F (y ∷ ys) ≡ (T y && F ys)) → i < length xs → x ≡ get_or xs i x → T x ≡ false
    → w ≡ F (drop i xs) → false ≡ w
test_fails F T xs i x w cons l e t h =
    sym (h ∙ (at_drop_more F xs i x l
    ∙ (cons (get_or xs i x) (drop (i + 1) xs) ∙ ap (λ b. b && F (drop (i + 1) xs)) (ap T (sym e) ∙ t))))

pub test_next :
    {X : Type 0} (F : List X → Bool) (T : X → Bool) (xs : List X) (i : ℕ) (x : X) (w : Bool)
    → ((y : X) (ys : List X) → F (y ∷ ys) ≡ (T y && F ys)) → i < length xs → x ≡ get_or xs i x → T x ≡ true
    → w ≡ F (drop i xs) → w ≡ F (drop (i + 1) xs)
test_next F T xs i x w cons l e t h =
    h ∙ (at_drop_more F xs i x l
    ∙ (cons (get_or xs i x) (drop (i + 1) xs) ∙ ap (λ b. b && F (drop (i + 1) xs)) (ap T (sym e) ∙ t)))

pub or_move : (a t r : Bool) → (a || t) || r ≡ t || (a || r)
or_move true true r = refl
or_move true false r = refl
or_move false t r = refl

pub any_next :
    (f : Look → Bool) (xs : List State) (i : ℕ) (x : State) (t more w : Bool)
    → i < length xs → x ≡ get_or xs i x → more ≡ (looks_at f (node_of x) || t)
    → (t || any_node f (nodes_of (drop i xs))) ≡ w → (more || any_node f (nodes_of (drop (i + 1) xs))) ≡ w
any_next f xs i x t more w l e m h =
    ap (λ z. z || any_node f (nodes_of (drop (i + 1) xs))) m
    ∙ (or_move (looks_at f (node_of x)) t (any_node f (nodes_of (drop (i + 1) xs)))
    ∙ (ap (λ z. t || (looks_at f (node_of z) || any_node f (nodes_of (drop (i + 1) xs)))) e
    ∙ (sym (at_drop_more (λ z. t || any_node f (nodes_of z)) xs i x l) ∙ h)))

pub any_done :
    (f : Look → Bool) (xs : List State) (i : ℕ) (t : Bool) → length xs ≤ i
    → (t || any_node f (nodes_of (drop i xs))) ≡ any_node f (nodes_of xs) → t ≡ any_node f (nodes_of xs)
any_done f xs i t l h = sym (ap (λ z. t || any_node f (nodes_of z)) (drop_all i xs l) ∙ or-false t) ∙ h

ranges_fit : (n : ℕ) (ts : List Transition) → transitions_below n ts ≡ true → ranges_below n (ranges_of ts) ≡ true
ranges_fit n [] h = refl
ranges_fit n (t ∷ ts) h =
    let w = and_parts (ltb t.next n) (transitions_below n ts) h in
    and_true (ltb t.next n) (ranges_below n (ranges_of ts)) w.0 (ranges_fit n ts w.1)

dense_fit : (n k : ℕ) (xs : List ℕ) → all_below n xs ≡ true → ranges_below n (dense_from k xs) ≡ true
dense_fit n k [] h = refl
dense_fit n k (zero ∷ xs) h = let w = and_parts (ltb 0 n) (all_below n xs) h in dense_fit n (suc k) xs w.1
dense_fit n k (suc m ∷ xs) h =
    let w = and_parts (ltb (suc m) n) (all_below n xs) h in
    and_true (ltb (suc m) n) (ranges_below n (dense_from (suc k) xs)) w.0 (dense_fit n (suc k) xs w.1)

pub node_fits : (n : ℕ) (s : State) → state_below n s ≡ true → node_below n (node_of s) ≡ true
node_fits n (ByteRange lo hi next) h = and_true (ltb next n) true h refl
node_fits n (Sparse ts) h = ranges_fit n ts.items h
node_fits n (Dense targets) h = dense_fit n 0 targets.value h
node_fits n (LookState look next) h = h
node_fits n (Union alternates) h = h
node_fits n (BinaryUnion alt1 alt2) h =
    let w = and_parts (ltb alt1 n) (ltb alt2 n) h in
    and_true (ltb alt1 n) (ltb alt2 n && true) w.0 (and_true (ltb alt2 n) true w.1 refl)
node_fits n (Capture next pattern index slot) h = and_true (ltb next n) true h refl
node_fits n Fail h = refl
node_fits n (Match pattern) h = refl

pub nodes_fit : (n : ℕ) (xs : List State) → states_below n xs ≡ true → nodes_below n (nodes_of xs) ≡ true
nodes_fit n [] h = refl
nodes_fit n (x ∷ xs) h =
    let w = and_parts (state_below n x) (states_below n xs) h in
    and_true (node_below n (node_of x)) (nodes_below n (nodes_of xs)) (node_fits n x w.0) (nodes_fit n xs w.1)

none_apart : (p : ℕ) → ◌≡◌ {A = Option ℕ} None (Some p) → ⊥
none_apart p e = cc

pub some_same : (x y : ℕ) → ◌≡◌ {A = Option ℕ} (Some x) (Some y) → x ≡ y
some_same x y e = cc

match_fits : (P : ℕ) (s : State) (p : ℕ) → match_below P s ≡ true → accepts_at (node_of s) ≡ Some p → p < P
match_fits P (ByteRange lo hi next) p h e = absurd (none_apart p e)
match_fits P (Sparse ts) p h e = absurd (none_apart p e)
match_fits P (Dense targets) p h e = absurd (none_apart p e)
match_fits P (LookState look next) p h e = absurd (none_apart p e)
match_fits P (Union alternates) p h e = absurd (none_apart p e)
match_fits P (BinaryUnion alt1 alt2) p h e = absurd (none_apart p e)
match_fits P (Capture next pattern index slot) p h e = absurd (none_apart p e)
match_fits P Fail p h e = absurd (none_apart p e)
match_fits P (Match pattern) p h e = subst (λ z. z < P) (some_same pattern p e) (ltb-true pattern P h)

pub patterns_fit :
    (P : ℕ) (xs : List State) (q p : ℕ) → matches_below P xs ≡ true
    → accepts_at (node_or_fail (slice_get (nodes_of xs) q)) ≡ Some p → p < P
patterns_fit P [] q p h e = absurd (none_apart p e)
patterns_fit P (x ∷ xs) zero p h e = match_fits P x p (and_parts (match_below P x) (matches_below P xs) h).0 e
patterns_fit P (x ∷ xs) (suc q) p h e = patterns_fit P xs q p (and_parts (match_below P x) (matches_below P xs) h).1 e

pub ordered_fails :
    (xs : List Transition) (i low : ℕ) (x : Transition) (w : Bool)
    → i < length xs → x ≡ get_or xs i x → leb low x.lo && leb x.lo x.hi ≡ false → w ≡ ordered_from low (drop i xs)
    → false ≡ w
ordered_fails xs i low x w l e t h =
    sym (h ∙ (at_drop_more (ordered_from low) xs i x l
    ∙ (ap (λ (z : Transition). leb low z.lo && leb z.lo z.hi && ordered_from (z.hi + 1) (drop (i + 1) xs)) (sym e)
    ∙ ap (λ b. b && ordered_from (x.hi + 1) (drop (i + 1) xs)) t)))

pub ordered_next :
    (xs : List Transition) (i low : ℕ) (x : Transition) (w : Bool)
    → i < length xs → x ≡ get_or xs i x → leb low x.lo && leb x.lo x.hi ≡ true → w ≡ ordered_from low (drop i xs)
    → w ≡ ordered_from (x.hi + 1) (drop (i + 1) xs)
ordered_next xs i low x w l e t h =
    h ∙ (at_drop_more (ordered_from low) xs i x l
    ∙ (ap (λ (z : Transition). leb low z.lo && leb z.lo z.hi && ordered_from (z.hi + 1) (drop (i + 1) xs)) (sym e)
    ∙ ap (λ b. b && ordered_from (x.hi + 1) (drop (i + 1) xs)) t))

pub extra_is : (s : State) → extra_of s ≡ alternates_of s - 1
extra_is (ByteRange lo hi next) = omega arith
extra_is (Sparse ts) = omega arith
extra_is (Dense targets) = omega arith
extra_is (LookState look next) = omega arith
extra_is (Union alternates) = refl
extra_is (BinaryUnion alt1 alt2) = omega arith
extra_is (Capture next pattern index slot) = omega arith
extra_is Fail = omega arith
extra_is (Match pattern) = omega arith

pub sum_next :
    (f : State → ℕ) (xs : List State) (i : ℕ) (x : State) → i < length xs → x ≡ get_or xs i x
    → sum_by f (take (i + 1) xs) ≡ sum_by f (take i xs) + f x
sum_next f xs i x l e = sum_by_more f xs i x l ∙ ap (λ z. sum_by f (take i xs) + f z) (sym e)

pub sum_all : (f : State → ℕ) (xs : List State) (i : ℕ) → length xs ≤ i → sum_by f (take i xs) ≡ sum_by f xs
sum_all f xs i l = ap (sum_by f) (take_all i xs l)

pub room_all :
    (xs : List State) (i room : ℕ) → length xs ≤ i → room ≡ 1 + sum_by extra_of (take i xs) → room ≡ stack_room xs
unfolding stack_room
room_all xs i room l h = h ∙ ap (λ z. 1 + z) (sum_all extra_of xs i l)

pub checked_range : (a : Automaton) → states_below (length a.states) a.states ≡ true → IsInRange (nfa_of a)
checked_range a h =
    in_range (nfa_of a)
    (subst (λ n. nodes_below n (nodes_of a.states) ≡ true) (sym (nodes_length a.states))
    (nodes_fit (length a.states) a.states h))

pub checked_starts : (n : ℕ) (xs : List ℕ) → all_below n xs ≡ true → All (λ s. s < n) xs
checked_starts n xs h k d l = below_in n xs (get_or xs k d) h (In-get_or xs k d l)
