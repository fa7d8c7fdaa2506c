-- The steps of the walk over a stack with fixed room.
use Rattle.std.proofs.Common.{◌≡◌, ◌<◌, ◌≤◌, ◌+◌, ◌⊎◌, Bool, true, false, ℕ, zero, suc, List, [], ◌∷◌, ◌++◌, length}
use Rattle.std.proofs.Common.{get_or, take, refl, sym, ap, ◌∙◌, subst, inl, inr, arith, length-append, reverse}
use Rattle.std.proofs.Common.{append_assoc, Some}
use Rattle.std.specs.Prelude.{sum_by, slice_index_or, slice_get}
use Rattle.std.proofs.lemmas.Option.{get_or_from_slice_get}
use Rattle.std.proofs.lemmas.Bool.{cond_both}
use Rattle.std.proofs.lemmas.List.{take_all, reverse-append, length-reverse}
use Rattle.std.proofs.lemmas.List.Sums.{sum_by_more}
use Rattle.automata_base.specs.declared.nfa.thompson.state.State.{State}
use Rattle.automata_base.specs.declared.nfa.thompson.state.State.TheVariants.{ByteRange, Sparse, Dense, Look, Union}
use Rattle.automata_base.specs.declared.nfa.thompson.state.State.TheVariants.{BinaryUnion, Capture, Fail, Match}
use Rattle.automata_base.specs.Nfas.Nodes.{Automaton, nfa_of, nodes_of, node_of, extra_of, stack_room}
use Rattle.automata_base.specs.Haystacks.LookSets.{truth_of}
use Rattle.automata_base.specs.Nfas.Accepted.{IsChecked}
use Rattle.automata_base.specs.Lists.{In}
use Rattle.automata_base.specs.Nfas.Nfa.{Truth, node_or_fail}
use Rattle.automata_base.specs.Powersets.Closure.{children, children_at, IsUnderWay}
use Rattle.automata_base.proofs.Paths.Loops.{under_way_skip, under_way_visit}
use Rattle.automata_base.proofs.Powersets.Distinct.{unvisited, unvisited_push}
use Rattle.automata_base.proofs.Powersets.Distinct.{unvisited_most, among}
use Rattle.automata_base.proofs.Paths.Walks.{in_either}

pub nodes_length : (states : List State) → length (nodes_of states) ≡ length states
nodes_length [] = refl
nodes_length (x ∷ xs) = ap suc (nodes_length xs)

-- A state that was read at an index.
pub state_read : (states : List State) (q : ℕ) (s : State) → slice_get states q ≡ Some s → s ≡ get_or states q s
state_read states q s e = sym (get_or_from_slice_get states q s s e)

pub node_at :
    (states : List State) (x : ℕ) (s d : State) → x < length states → s ≡ get_or states x d
    → node_or_fail (slice_get (nodes_of states) x) ≡ node_of s
node_at [] x s d l e = absurd (omega (arith, l))
node_at (y ∷ ys) zero s d l e = ap (λ v. node_of v) (sym e)
node_at (y ∷ ys) (suc x) s d l e = node_at ys x s d (omega (arith, l)) e

abbrev pub extra_at : List State → ℕ → ℕ
extra_at states q = extra_of (slice_index_or states q Fail)

pub record Walking (a : Automaton) (looks : ℕ) (old : List ℕ) (start : ℕ) (order stack : List ℕ) : Type 0 where
  pub way : (roots tail : List ℕ) → IsUnderWay (nfa_of a) (truth_of looks) roots (start ∷ tail) old
      → IsUnderWay (nfa_of a) (truth_of looks) roots (stack ++ tail) order
  pub room : length stack + unvisited (extra_at a.states) order (length a.states) ≤ stack_room a.states
  pub below : (q : ℕ) → In q stack → q < length a.states

unfoldable pub work : Automaton → List ℕ → List ℕ → ℕ
work a order stack = length stack + unvisited (λ q. suc (extra_at a.states q)) order (length a.states)

unvisited_take :
    (states : List State) (n : ℕ) → n ≤ length states
    → unvisited (extra_at states) [] n ≡ sum_by extra_of (take n states)
unfolding unvisited among
unvisited_take states zero l = refl
unvisited_take states (suc n) l =
    let rest : unvisited (extra_at states) [] n ≡ sum_by extra_of (take n states) =
    unvisited_take states n (omega arith) in
    let more : sum_by extra_of (take (n + 1) states) ≡ sum_by extra_of (take n states)
    + extra_of (get_or states n Fail) = sum_by_more extra_of states n Fail (omega arith) in
    let one : n + 1 ≡ suc n = omega arith in
    let more' : sum_by extra_of (take (suc n) states) ≡ sum_by extra_of (take n states)
    + extra_of (get_or states n Fail) =
    subst (λ z. sum_by extra_of (take z states) ≡ sum_by extra_of (take n states) + extra_of (get_or states n Fail))
    one more in
    omega arith

room_is : (states : List State) → 1 + unvisited (extra_at states) [] (length states) ≡ stack_room states
unfolding stack_room
room_is states =
    let all : unvisited (extra_at states) [] (length states) ≡ sum_by extra_of (take (length states) states) =
    unvisited_take states (length states) (omega arith) in
    let whole : sum_by extra_of (take (length states) states) ≡ sum_by extra_of states =
    ap (sum_by extra_of) (take_all (length states) states (omega arith)) in
    omega arith

children_few : (state : State) (A : Truth) → length (children_at (node_of state) A) ≤ extra_of state + 1
children_few (ByteRange lo hi next) A = omega arith
children_few (Sparse ts) A = omega arith
children_few (Dense ts) A = omega arith
children_few (Look look next) A =
    cond_both (A look) (next ∷ []) [] (λ xs. length xs ≤ 0 + 1) (λ e. omega arith) (λ e. omega arith)
children_few (Union alternates) A = omega arith
children_few (BinaryUnion alt1 alt2) A = omega arith
children_few (Capture next pattern index slot) A = omega arith
children_few Fail A = omega arith
children_few (Match pattern) A = omega arith

few :
    (a : Automaton) (A : Truth) (q : ℕ) → q < length a.states
    → length (children (nfa_of a) A q) ≤ extra_at a.states q + 1
few a A q l =
    subst (λ n. length (children_at n A) ≤ extra_at a.states q + 1)
    (sym (node_at a.states q (get_or a.states q Fail) Fail l refl))
    (children_few (get_or a.states q Fail) A)

pub walk_begins :
    (a : Automaton) (looks : ℕ) (old : List ℕ) (start : ℕ) → start < length a.states
    → Walking a looks old start old (start ∷ [])
walk_begins a looks old start l =
    record {
      way = λ roots tail u. u;
      room =
          (let most : unvisited (extra_at a.states) old (length a.states)
          ≤ unvisited (extra_at a.states) [] (length a.states) =
          unvisited_most (extra_at a.states) old (length a.states) in
          let all : 1 + unvisited (extra_at a.states) [] (length a.states) ≡ stack_room a.states = room_is a.states in
          omega arith);
      below = below;
    }
  where
    below : (q : ℕ) → In q (start ∷ []) → q < length a.states
    below q (inl e) = subst (λ z. z < length a.states) (sym e) l
    below q (inr i) = elim i [ ]

walk_skips : (a : Automaton) (looks : ℕ) (old : List ℕ) (start : ℕ) (order stack : List ℕ) (q : ℕ) → In q order →
    Walking a looks old start order (q ∷ stack) → Walking a looks old start order stack
walk_skips a looks old start order stack q had w =
    record {
      way =
          λ roots tail u. under_way_skip (nfa_of a) (truth_of looks) roots q (stack ++ tail) order had
          (w.way roots tail u);
      room =
          (let room : suc (length stack) + unvisited (extra_at a.states) order (length a.states)
          ≤ stack_room a.states = w.room in omega arith);
      below = λ p i. w.below p (inr i);
    }

walk_visits :
    (a : Automaton) (looks : ℕ) (old : List ℕ) (start : ℕ) (order stack : List ℕ) (q : ℕ) → IsChecked a
    → (In q order → ⊥) →
    Walking a looks old start order (q ∷ stack)
    → Walking a looks old start (order ++ q ∷ []) (children (nfa_of a) (truth_of looks) q ++ stack)
walk_visits a looks old start order stack q checked new w =
    record {
      way = λ roots tail u.
          subst (λ s. IsUnderWay (nfa_of a) (truth_of looks) roots s (order ++ q ∷ []))
          (sym (append_assoc (children (nfa_of a) (truth_of looks) q) stack tail))
          (under_way_visit (nfa_of a) (truth_of looks) roots q (stack ++ tail) order new (w.way roots tail u));
      room =
          (let room : suc (length stack) + unvisited (extra_at a.states) order (length a.states)
          ≤ stack_room a.states = w.room in
          let took : unvisited (extra_at a.states) (order ++ q ∷ []) (length a.states) + extra_at a.states q
          ≡ unvisited (extra_at a.states) order (length a.states) =
          unvisited_push (extra_at a.states) order q (length a.states) (w.below q (inl refl)) new in
          let short : length (children (nfa_of a) (truth_of looks) q) ≤ extra_at a.states q + 1 =
          few a (truth_of looks) q (w.below q (inl refl)) in
          let both : length (children (nfa_of a) (truth_of looks) q ++ stack)
          ≡ length (children (nfa_of a) (truth_of looks) q) + length stack =
          length-append (children (nfa_of a) (truth_of looks) q) stack in
          omega arith);
      below = λ p i. below p (in_either p (children (nfa_of a) (truth_of looks) q) stack i);
    }
  where
    below : (p : ℕ) → In p (children (nfa_of a) (truth_of looks) q) ⊎ In p stack → p < length a.states
    below p (inl i) = subst (λ z. p < z) (nodes_length a.states) (checked.range.0 q p (truth_of looks) i)
    below p (inr i) = w.below p (inr i)

pub walk_ends :
    (a : Automaton) (looks : ℕ) (old : List ℕ) (start : ℕ) (order : List ℕ) → Walking a looks old start order [] →
    (roots tail : List ℕ) → IsUnderWay (nfa_of a) (truth_of looks) roots (start ∷ tail) old
    → IsUnderWay (nfa_of a) (truth_of looks) roots tail order
walk_ends a looks old start order w roots tail u = w.way roots tail u

work_skips : (a : Automaton) (order stack : List ℕ) (q : ℕ) → work a order stack < work a order (q ∷ stack)
unfolding work
work_skips a order stack q = omega arith

work_visits : (a : Automaton) (looks : ℕ) (order stack : List ℕ) (q : ℕ) → q < length a.states → (In q order → ⊥) →
    work a (order ++ q ∷ []) (children (nfa_of a) (truth_of looks) q ++ stack) < work a order (q ∷ stack)
unfolding work
work_visits a looks order stack q l new =
    let took : unvisited (λ p. suc (extra_at a.states p)) (order ++ q ∷ []) (length a.states)
    + suc (extra_at a.states q) ≡ unvisited (λ p. suc (extra_at a.states p)) order (length a.states) =
    unvisited_push (λ p. suc (extra_at a.states p)) order q (length a.states) l new in
    let short : length (children (nfa_of a) (truth_of looks) q) ≤ extra_at a.states q + 1 =
    few a (truth_of looks) q l in
    let both : length (children (nfa_of a) (truth_of looks) q ++ stack)
    ≡ length (children (nfa_of a) (truth_of looks) q) + length stack =
    length-append (children (nfa_of a) (truth_of looks) q) stack in
    omega arith

pub pushed_top : (xs ys : List ℕ) (x : ℕ) → xs ≡ ys ++ x ∷ [] → reverse xs ≡ x ∷ reverse ys
pushed_top xs ys x e = ap reverse e ∙ reverse-append ys (x ∷ [])

pub read_children :
    (a : Automaton) (A : Truth) (q : ℕ) (state : State) → q < length a.states → state ≡ get_or a.states q state
    → children_at (node_of state) A ≡ children (nfa_of a) A q
read_children a A q state l is = sym (ap (λ n. children_at n A) (node_at a.states q state state l is))

-- A new state: its children are pushed on the stack.
pub new_step :
    (a : Automaton) (looks : ℕ) (old : List ℕ) (start : ℕ) (order order' stack stack' : List ℕ) (q : ℕ) (state : State)
    →
    IsChecked a → state ≡ get_or a.states q state → (In q order → ⊥) → order' ≡ order ++ q ∷ []
    → stack' ≡ children_at (node_of state) (truth_of looks) ++ stack →
    Walking a looks old start order (q ∷ stack) →
    Walking a looks old start order' stack' × (work a order' stack' < work a order (q ∷ stack))
new_step a looks old start order order' stack stack' q state checked is new grown put w =
    let below : q < length a.states = w.below q (inl refl) in
    let put' : stack' ≡ children (nfa_of a) (truth_of looks) q ++ stack =
    put ∙ ap (λ z. z ++ stack) (read_children a (truth_of looks) q state below is) in
    let P : List ℕ → List ℕ → Type 0 = λ o s. Walking a looks old start o s × (work a o s < work a order (q ∷ stack)) in
    subst (λ o. P o stack') (sym grown) (subst (P (order ++ q ∷ [])) (sym put')
    (walk_visits a looks old start order stack q checked new w, work_visits a looks order stack q below new))

-- A state that was visited before.
pub old_step : (a : Automaton) (looks : ℕ) (old : List ℕ) (start : ℕ) (order order' stack : List ℕ) (q : ℕ) →
    In q order → order' ≡ order → Walking a looks old start order (q ∷ stack) →
    Walking a looks old start order' stack × (work a order' stack < work a order (q ∷ stack))
old_step a looks old start order order' stack q had same w =
    let P : List ℕ → Type 0 = λ o. Walking a looks old start o stack × (work a o stack < work a order (q ∷ stack)) in
    subst P (sym same) (walk_skips a looks old start order stack q had w, work_skips a order stack q)

-- A state without epsilon edges: the set contains it, and nothing remains.
pub leaf_step : (a : Automaton) (looks : ℕ) (old : List ℕ) (start : ℕ) (after : List ℕ) (state : State) (added : Bool) →
    IsChecked a → state ≡ get_or a.states start state → children_at (node_of state) (truth_of looks) ≡ []
    → start < length a.states →
    (added ≡ true → In start old → ⊥) → (added ≡ true → after ≡ old ++ start ∷ []) →
    (added ≡ false → In start old) → (added ≡ false → after ≡ old) → Walking a looks old start after []
leaf_step a looks old start after state true checked is leaf below new grown had same =
    (new_step a looks old start old after [] [] start state checked is (new refl) (grown refl)
    (ap (λ z. z ++ []) (sym leaf)) (walk_begins a looks old start below)).0
leaf_step a looks old start after state false checked is leaf below new grown had same =
    (old_step a looks old start old after [] start (had refl) (same refl) (walk_begins a looks old start below)).0

-- There is room for the children of a new state.
pub step_room :
    (a : Automaton) (looks : ℕ) (old : List ℕ) (start : ℕ) (order items : List ℕ) (q : ℕ) (state : State)
    → state ≡ get_or a.states q state → (In q order → ⊥) →
    Walking a looks old start order (q ∷ reverse items)
    → length items + length (children_at (node_of state) (truth_of looks)) ≤ stack_room a.states
step_room a looks old start order items q state is new w =
    let below : q < length a.states = w.below q (inl refl) in
    let room : suc (length (reverse items)) + unvisited (extra_at a.states) order (length a.states)
    ≤ stack_room a.states = w.room in
    let took : unvisited (extra_at a.states) (order ++ q ∷ []) (length a.states) + extra_at a.states q
    ≡ unvisited (extra_at a.states) order (length a.states) =
    unvisited_push (extra_at a.states) order q (length a.states) below new in
    let short : length (children (nfa_of a) (truth_of looks) q) ≤ extra_at a.states q + 1 =
    few a (truth_of looks) q below in
    let same : length (children_at (node_of state) (truth_of looks)) ≡ length (children (nfa_of a) (truth_of looks) q) =
    ap length (read_children a (truth_of looks) q state below is) in
    let turned : length (reverse items) ≡ length items = length-reverse items in
    omega arith
