-- The number of states and alternates after reversing.
use Rattle.std.proofs.Common.{ℕ, zero, suc, ◌≡◌, ◌<◌, ◌≤◌, ◌+◌, ◌^◌, ◌&&◌, Bool, true, false, cond, leb, List, [], ◌∷◌}
use Rattle.std.proofs.Common.{◌++◌, drop, length}
use Rattle.std.proofs.Common.{length-append, get_or, Option, Some, None, refl, sym, ap, ◌∙◌, subst, arith}
use Rattle.std.specs.Prelude.{sum_by, slice_get}
use Rattle.std.proofs.lemmas.List.Sums.{sum_by-cons, sum_by-append}
use Rattle.automata_base.specs.declared.nfa.thompson.state.State.{State}
use Rattle.automata_base.specs.declared.nfa.thompson.state.State.TheVariants as is
use Rattle.automata_base.specs.declared.nfa.thompson.state.Transition.{Transition}
use Rattle.automata_base.specs.Lists.{all_below, Distinct}
use Rattle.automata_transform.specs.Nfas.Mirrors.{flip}
use Rattle.automata_base.specs.Nfas.Errors.{alternates_of, ordered_from, state_ordered, states_ordered}
use Rattle.automata_transform.specs.Nfas.ReversedSizes.{asking_edges, free_edges}
use Rattle.automata_transform.specs.Retraced.DenseRuns.{runs_from}
use Rattle.automata_transform.specs.Retraced.ReversedEdges.{Turns, ends_in, put_at, turn_free, turn_by}
use Rattle.automata_base.specs.Retraced.ReversedEdges.{no_lists, push_at}
use Rattle.automata_transform.specs.Retraced.ReversedEdges.{turn_all}
use Rattle.automata_transform.specs.Retraced.ReversedEdges.{turn_ranges, turn_state, turn_states, size, IsHead}
use Rattle.automata_transform.specs.Retraced.ReversedEdges.{AreHeads}
use Rattle.automata_transform.specs.Retraced.ReversedEdges.{IsUnionOfAll, IsOnlyHelper}
use Rattle.automata_transform.specs.Retraced.ReversedEdges.{AreTurned}
use Rattle.automata_transform.proofs.Nfas.Mirrors.Lists.{push_length, put_length, states_next}
use Rattle.automata_transform.proofs.Nfas.Mirrors.Members.{heads_length}
use Rattle.automata_transform.proofs.Nfas.Mirrors.Runs.{runs_ordered}
use Rattle.automata_transform.proofs.Nfas.Mirrors.Sums.{sum_some}
use Rattle.automata_base.proofs.Paths.Checked.{below_in}
use Rattle.std.proofs.lemmas.Bool.{and_parts}

-- The number of alternates in all lists.
abbrev pub total : List (List ℕ) → ℕ
total [] = 0
total (xs ∷ rest) = length xs + total rest

total_push : (lists : List (List ℕ)) (to x : ℕ) → total (push_at lists to x) ≤ suc (total lists)
total_push [] to x = omega arith
total_push (xs ∷ rest) zero x =
    let e : length (xs ++ x ∷ []) ≡ length xs + 1 = length-append xs (x ∷ []) in omega (arith, e)
total_push (xs ∷ rest) (suc to) x = let k = total_push rest to x in omega (arith, k)

total_put : (lists : List (List ℕ)) (to x : ℕ) → total (put_at lists to x) ≤ suc (total lists)
total_put [] to x = omega arith
total_put (xs ∷ rest) zero x = go (ends_in xs x)
  where
    go : (b : Bool) → length (cond b xs (xs ++ x ∷ [])) + total rest ≤ suc (length xs + total rest)
    go true = omega arith
    go false = total_push (xs ∷ rest) 0 x
total_put (xs ∷ rest) (suc to) x = let k = total_put rest to x in omega (arith, k)

pub size_free : (t : Turns) (x to : ℕ) → size (turn_free t x to) ≡ size t
size_free t x to = ap (λ n. n + length t.helpers) (put_length t.lists to x)

pub size_by : (t : Turns) (h : State) (to : ℕ) → size (turn_by t h to) ≡ suc (size t)
size_by t h to =
    let a = push_length t.lists to (length t.lists + length t.helpers) in
    let b : length (t.helpers ++ h ∷ []) ≡ length t.helpers + 1 = length-append t.helpers (h ∷ []) in
    omega (arith, a, b)

pub size_all : (t : Turns) (from : ℕ) (xs : List ℕ) → size (turn_all t from xs) ≡ size t
size_all t from [] = refl
size_all t from (x ∷ xs) = size_all (turn_free t from x) from xs ∙ size_free t from x

pub size_ranges : (t : Turns) (from : ℕ) (rs : List Transition) → size (turn_ranges t from rs) ≡ size t + length rs
size_ranges t from [] = omega arith
size_ranges t from (r ∷ rs) =
    let a = size_ranges (turn_by t (is.ByteRange r.lo r.hi from) r.next) from rs in
    let b = size_by t (is.ByteRange r.lo r.hi from) r.next in
    omega (arith, a, b)

pub size_state : (t : Turns) (from : ℕ) (s : State) → size (turn_state t from s) ≡ size t + asking_edges s
size_state t from (is.ByteRange lo hi next) = let a = size_by t (is.ByteRange lo hi from) next in omega (arith, a)
size_state t from (is.Sparse ts) = size_ranges t from ts.items
size_state t from (is.Dense targets) = size_ranges t from (runs_from 0 0 targets.value)
size_state t from (is.Look look next) = let a = size_by t (is.Look (flip look) from) next in omega (arith, a)
size_state t from (is.Union alternates) = let a = size_all t from alternates.items in omega (arith, a)
size_state t from (is.BinaryUnion alt1 alt2) = let a = size_all t from (alt1 ∷ alt2 ∷ []) in omega (arith, a)
size_state t from (is.Capture next pattern index slot) = let a = size_all t from (next ∷ []) in omega (arith, a)
size_state t from is.Fail = omega arith
size_state t from (is.Match pattern) = omega arith

-- The sum of `f` over the states with these IDs.
abbrev pub sum_at : (State → ℕ) → List State → List ℕ → ℕ
sum_at f states ids = sum_by (λ q. f (get_or states q is.Fail)) ids

pub size_states :
    (t : Turns) (states : List State) (ids : List ℕ)
    → size (turn_states t states ids) ≡ size t + sum_at asking_edges states ids
size_states t states [] = omega arith
size_states t states (q ∷ qs) =
    let a = size_states (turn_state t q (get_or states q is.Fail)) states qs in
    let b = size_state t q (get_or states q is.Fail) in
    let c : sum_at asking_edges states (q ∷ qs) ≡ asking_edges (get_or states q is.Fail)
    + sum_at asking_edges states qs =
    sum_by-cons (λ q. asking_edges (get_or states q is.Fail)) q qs in
    omega (arith, a, b, c)

total_all : (t : Turns) (from : ℕ) (xs : List ℕ) → total (turn_all t from xs).lists ≤ total t.lists + length xs
total_all t from [] = omega arith
total_all t from (x ∷ xs) =
    let a = total_all (turn_free t from x) from xs in
    let b = total_put t.lists x from in
    omega (arith, a, b)

total_by : (t : Turns) (h : State) (to : ℕ) → total (turn_by t h to).lists ≤ suc (total t.lists)
total_by t h to = total_push t.lists to (length t.lists + length t.helpers)

total_ranges :
    (t : Turns) (from : ℕ) (rs : List Transition) → total (turn_ranges t from rs).lists ≤ total t.lists + length rs
total_ranges t from [] = omega arith
total_ranges t from (r ∷ rs) =
    let a = total_ranges (turn_by t (is.ByteRange r.lo r.hi from) r.next) from rs in
    let b = total_by t (is.ByteRange r.lo r.hi from) r.next in
    omega (arith, a, b)

total_state :
    (t : Turns) (from : ℕ) (s : State)
    → total (turn_state t from s).lists ≤ total t.lists + (asking_edges s + free_edges s)
total_state t from (is.ByteRange lo hi next) = let a = total_by t (is.ByteRange lo hi from) next in omega (arith, a)
total_state t from (is.Sparse ts) = let a = total_ranges t from ts.items in omega (arith, a)
total_state t from (is.Dense targets) = let a = total_ranges t from (runs_from 0 0 targets.value) in omega (arith, a)
total_state t from (is.Look look next) = let a = total_by t (is.Look (flip look) from) next in omega (arith, a)
total_state t from (is.Union alternates) = let a = total_all t from alternates.items in omega (arith, a)
total_state t from (is.BinaryUnion alt1 alt2) = let a = total_all t from (alt1 ∷ alt2 ∷ []) in omega (arith, a)
total_state t from (is.Capture next pattern index slot) = let a = total_all t from (next ∷ []) in omega (arith, a)
total_state t from is.Fail = omega arith
total_state t from (is.Match pattern) = omega arith

total_states :
    (t : Turns) (states : List State) (ids : List ℕ)
    → total (turn_states t states ids).lists ≤ total t.lists
    + (sum_at asking_edges states ids + sum_at free_edges states ids)
total_states t states [] = omega arith
total_states t states (q ∷ qs) =
    let a = total_states (turn_state t q (get_or states q is.Fail)) states qs in
    let b = total_state t q (get_or states q is.Fail) in
    let c : sum_at asking_edges states (q ∷ qs) ≡ asking_edges (get_or states q is.Fail)
    + sum_at asking_edges states qs =
    sum_by-cons (λ q. asking_edges (get_or states q is.Fail)) q qs in
    let d : sum_at free_edges states (q ∷ qs) ≡ free_edges (get_or states q is.Fail) + sum_at free_edges states qs =
    sum_by-cons (λ q. free_edges (get_or states q is.Fail)) q qs in
    omega (arith, a, b, c, d)

total_none : (n : ℕ) → total (no_lists n) ≡ 0
total_none zero = refl
total_none (suc n) = let h = total_none n in omega (arith, h)

none_length : (n : ℕ) → length (no_lists n) ≡ n
none_length zero = refl
none_length (suc n) = ap suc (none_length n)

-- Helpers have no alternates, and their ranges are in order.
abbrev pub IsHelperOf : State → Type 0
IsHelperOf h = (alternates_of h ≡ 0) × (state_ordered h ≡ true)

abbrev pub AreHelpers : List State → Type 0
AreHelpers [] = Unit {0}
AreHelpers (h ∷ hs) = IsHelperOf h × AreHelpers hs

helpers_more : (hs : List State) (h : State) → AreHelpers hs → IsHelperOf h → AreHelpers (hs ++ h ∷ [])
helpers_more [] h a b = (b, tt)
helpers_more (x ∷ hs) h a b = (a.0, helpers_more hs h a.1 b)

module _ (from : ℕ) where
  helpers_all : (xs : List ℕ) (t : Turns) → AreHelpers t.helpers → AreHelpers (turn_all t from xs).helpers
  helpers_all [] t a = a
  helpers_all (x ∷ xs) t a = helpers_all xs (turn_free t from x) a

  helpers_ranges :
      (rs : List Transition) (low : ℕ) (t : Turns) → ordered_from low rs ≡ true → AreHelpers t.helpers
      → AreHelpers (turn_ranges t from rs).helpers
  helpers_ranges [] low t o a = a
  helpers_ranges (r ∷ rs) low t o a =
      let k = and_parts (leb low r.lo && leb r.lo r.hi) (ordered_from (r.hi + 1) rs) o in
      helpers_ranges rs (r.hi + 1) (turn_by t (is.ByteRange r.lo r.hi from) r.next) k.1
      (helpers_more t.helpers (is.ByteRange r.lo r.hi from) a (refl, (and_parts (leb low r.lo) (leb r.lo r.hi) k.0).1))

  helpers_state :
      (s : State) (t : Turns) → state_ordered s ≡ true → AreHelpers t.helpers → AreHelpers (turn_state t from s).helpers
  helpers_state (is.ByteRange lo hi next) t o a = helpers_more t.helpers (is.ByteRange lo hi from) a (refl, o)
  helpers_state (is.Sparse ts) t o a = helpers_ranges ts.items 0 t o a
  helpers_state (is.Dense targets) t o a =
      helpers_ranges (runs_from 0 0 targets.value) 0 t (runs_ordered targets.value 0 0 0 (omega arith) (omega arith)) a
  helpers_state (is.Look look next) t o a = helpers_more t.helpers (is.Look (flip look) from) a (refl, refl)
  helpers_state (is.Union alternates) t o a = helpers_all alternates.items t a
  helpers_state (is.BinaryUnion alt1 alt2) t o a = helpers_all (alt1 ∷ alt2 ∷ []) t a
  helpers_state (is.Capture next pattern index slot) t o a = helpers_all (next ∷ []) t a
  helpers_state is.Fail t o a = a
  helpers_state (is.Match pattern) t o a = a

pub ordered_at :
    (states : List State) (q : ℕ) → states_ordered states ≡ true → state_ordered (get_or states q is.Fail) ≡ true
ordered_at [] q o = refl
ordered_at (x ∷ xs) zero o = (and_parts (state_ordered x) (states_ordered xs) o).0
ordered_at (x ∷ xs) (suc q) o = ordered_at xs q (and_parts (state_ordered x) (states_ordered xs) o).1

helpers_states :
    (states : List State) (ids : List ℕ) (t : Turns) → states_ordered states ≡ true → AreHelpers t.helpers
    → AreHelpers (turn_states t states ids).helpers
helpers_states states [] t o a = a
helpers_states states (q ∷ qs) t o a =
    helpers_states states qs (turn_state t q (get_or states q is.Fail)) o
    (helpers_state q (get_or states q is.Fail) t (ordered_at states q o) a)

helpers_none : (hs : List State) → AreHelpers hs → sum_by alternates_of hs ≡ 0
helpers_none [] a = refl
helpers_none (h ∷ hs) a =
    let c : sum_by alternates_of (h ∷ hs) ≡ alternates_of h + sum_by alternates_of hs =
    sum_by-cons alternates_of h hs in
    let d = helpers_none hs a.1 in
    omega (arith, c, d, a.0.0)

nth_helper : (hs : List State) (j : ℕ) (h : State) → AreHelpers hs → slice_get hs j ≡ Some h → IsHelperOf h
nth_helper [] j h a e = absurd (no e)
  where
    no : ◌≡◌ {A = Option State} None (Some h) → ⊥
    no e = cc
nth_helper (x ∷ xs) zero h a e = subst IsHelperOf (one e) a.0
  where
    one : ◌≡◌ {A = Option State} (Some x) (Some h) → x ≡ h
    one e = cc
nth_helper (x ∷ xs) (suc j) h a e = nth_helper xs j h a.1 e

heads_sum :
    (m : ℕ) (hs : List State) (lists : List (List ℕ)) (heads : List State) → AreHeads m hs lists heads → AreHelpers hs
    → sum_by alternates_of heads ≤ total lists
heads_sum m hs [] [] a h = omega arith
heads_sum m hs [] (s ∷ ss) a h = absurd a
heads_sum m hs (xs ∷ rest) [] a h = absurd a
heads_sum m hs (xs ∷ rest) (s ∷ ss) a h =
    let c : sum_by alternates_of (s ∷ ss) ≡ alternates_of s + sum_by alternates_of ss =
    sum_by-cons alternates_of s ss in
    let d = heads_sum m hs rest ss a.1 h in
    let e = one a.0 in
    omega (arith, c, d, e)
  where
    one : IsHead m hs xs s → alternates_of s ≤ length xs
    one (IsUnionOfAll v e g) =
        let k : alternates_of s ≡ length v.items = ap alternates_of e in
        let l : length v.items ≡ length xs = ap (λ z. length z) g in
        omega (arith, k, l)
    one (IsOnlyHelper j e g) = let k = (nth_helper hs j s h g).0 in omega (arith, k)

helpers_ordered : (hs : List State) → AreHelpers hs → states_ordered hs ≡ true
helpers_ordered [] a = refl
helpers_ordered (h ∷ hs) a = ap (λ b. b && states_ordered hs) a.0.1 ∙ helpers_ordered hs a.1

heads_ordered :
    (m : ℕ) (hs more : List State) (lists : List (List ℕ)) (heads : List State) → AreHeads m hs lists heads
    → AreHelpers hs
    → states_ordered more ≡ true → states_ordered (heads ++ more) ≡ true
heads_ordered m hs more [] [] a h o = o
heads_ordered m hs more [] (s ∷ ss) a h o = absurd a
heads_ordered m hs more (xs ∷ rest) [] a h o = absurd a
heads_ordered m hs more (xs ∷ rest) (s ∷ ss) a h o =
    ap (λ b. b && states_ordered (ss ++ more)) (one a.0) ∙ heads_ordered m hs more rest ss a.1 h o
  where
    one : IsHead m hs xs s → state_ordered s ≡ true
    one (IsUnionOfAll v e g) = ap state_ordered e
    one (IsOnlyHelper j e g) = (nth_helper hs j s h g).1

-- The reversed states, if no reached state repeats.
module _ (states turned : List State) (reached : List ℕ) (first : ℕ) (distinct : Distinct reached)
    (below : all_below (length states) reached ≡ true) (are : AreTurned states reached first turned) where
  abbrev none : Turns
  none = record { lists = no_lists (length states); helpers = [] }

  few : (f : State → ℕ) → sum_at f states reached ≤ sum_by f states
  few f = sum_some f is.Fail states reached distinct (λ q i. below_in (length states) reached q below i)

  pub turned_length : length turned ≤ length states + sum_by asking_edges states + 1
  turned_length =
      let a : length turned ≡ length are.1.0 + length are.0.helpers =
      ap (λ xs. length xs) are.1.1 ∙ length-append are.1.0 are.0.helpers in
      let b = heads_length (length are.0.lists) are.0.helpers are.0.lists are.1.0 are.1.2 in
      let d : length are.0.lists + length are.0.helpers
      ≡ size (turn_by (turn_states none states reached) (is.Match 0) first) =
      ap (λ (t : Turns). size t) are.2 in
      let e = size_by (turn_states none states reached) (is.Match 0) first in
      let f = size_states none states reached in
      let g = few asking_edges in
      let h : length (no_lists (length states)) ≡ length states = none_length (length states) in
      omega (arith, a, b, d, e, f, g, h)

  module _ (ordered : states_ordered states ≡ true) where
    helpers : AreHelpers are.0.helpers
    helpers =
        subst (λ (t : Turns). AreHelpers t.helpers) (sym are.2)
        (helpers_more (turn_states none states reached).helpers (is.Match 0)
        (helpers_states states reached none ordered tt) (refl, refl))

    pub turned_ordered : states_ordered turned ≡ true
    turned_ordered =
        ap states_ordered are.1.1
        ∙ heads_ordered (length are.0.lists) are.0.helpers are.0.helpers are.0.lists are.1.0 are.1.2 helpers
        (helpers_ordered are.0.helpers helpers)

    pub turned_alternates : sum_by alternates_of turned ≤ sum_by asking_edges states + sum_by free_edges states + 1
    turned_alternates =
        let a : sum_by alternates_of turned ≡ sum_by alternates_of are.1.0 + sum_by alternates_of are.0.helpers =
        ap (sum_by alternates_of) are.1.1 ∙ sum_by-append alternates_of are.1.0 are.0.helpers in
        let b = helpers_none are.0.helpers helpers in
        let c = heads_sum (length are.0.lists) are.0.helpers are.0.lists are.1.0 are.1.2 helpers in
        let d : total are.0.lists ≡ total (turn_by (turn_states none states reached) (is.Match 0) first).lists =
        ap (λ (t : Turns). total t.lists) are.2 in
        let e = total_by (turn_states none states reached) (is.Match 0) first in
        let f = total_states none states reached in
        let g = few asking_edges in
        let h = few free_edges in
        let i = total_none (length states) in
        omega (arith, a, b, c, d, e, f, g, h, i)

-- If one state already makes too many states, there are too many at the end.
pub state_large :
    (t : Turns) (states : List State) (ids : List ℕ) (i id at : ℕ) (s : State) (w : Turns)
    → i < length ids → id ≡ get_or ids i id → at < length states → at ≡ id → s ≡ get_or states at s
    → turn_states t states (drop i ids) ≡ w → 2 ^ 27 < size (turn_state t id s) → 2 ^ 27 < size w
state_large t states ids i id at s w l e k a f h b =
    subst (λ (z : Turns). 2 ^ 27 < size z) (states_next t (turn_state t id s) states ids i id at s w l e k a f refl h)
    (let c = size_states (turn_state t id s) states (drop (i + 1) ids) in omega (arith, b, c))

-- An upper bound on the number of states after reversing.
pub states_large :
    (states : List State) (reached : List ℕ) → Distinct reached → all_below (length states) reached ≡ true
    → size (turn_states (record { lists = no_lists (length states); helpers = [] }) states reached)
    ≤ length states + sum_by asking_edges states
states_large states reached distinct below =
    let f = size_states (record { lists = no_lists (length states); helpers = [] }) states reached in
    let g = sum_some asking_edges is.Fail states reached distinct (λ q i. below_in (length states) reached q below i) in
    let h = none_length (length states) in
    omega (arith, f, g, h)
