-- Each edge is reversed once: no alternate and no helper repeats.
use Rattle.std.proofs.Common.{ℕ, zero, suc, ◌≡◌, ◌<◌, ◌≤◌, ◌+◌, ◌⊎◌, Bool, true, false, cond, leb, List, [], ◌∷◌}
use Rattle.std.proofs.Common.{◌++◌, ◌&&◌, length, length-append, get_or, Option, Some, None, inl, inr, refl, sym, ap}
use Rattle.std.proofs.Common.{◌∙◌, subst, arith}
use Rattle.std.proofs.lemmas.Bool.{and_parts, leb-true}
use Rattle.std.specs.Prelude.{slice_get}
use Rattle.automata_base.specs.declared.nfa.thompson.state.State.{State}
use Rattle.automata_base.specs.declared.nfa.thompson.state.State.TheVariants as is
use Rattle.automata_base.specs.declared.nfa.thompson.state.Transition.{Transition}
use Rattle.automata_base.specs.Lists.{In, Distinct}
use Rattle.automata_transform.specs.Nfas.Mirrors.{flip}
use Rattle.automata_base.specs.Nfas.Errors.{ordered_from, state_ordered}
use Rattle.automata_transform.specs.Retraced.DenseRuns.{runs_from}
use Rattle.automata_transform.specs.Retraced.ReversedEdges.{Turns, ends_in, put_at, turn_free}
use Rattle.automata_base.specs.Retraced.ReversedEdges.{no_lists, list_at, push_at}
use Rattle.automata_transform.specs.Retraced.ReversedEdges.{turn_by}
use Rattle.automata_transform.specs.Retraced.ReversedEdges.{turn_all, turn_ranges, turn_state, turn_states}
use Rattle.automata_transform.proofs.Nfas.Mirrors.Copies.{distinct_last}
use Rattle.automata_transform.proofs.Nfas.Mirrors.Graphs.{InAt, in_push, in_put}
use Rattle.automata_transform.proofs.Nfas.Mirrors.Lists.{push_length, put_length, ends_last}
use Rattle.automata_transform.proofs.Nfas.Mirrors.Runs.{runs_ordered}
use Rattle.automata_base.proofs.Paths.Orders.{some_inj, none_some}

push_distinct :
    (lists : List (List ℕ)) (to y k : ℕ) → ((j : ℕ) → Distinct (list_at lists j)) → (InAt lists to y → ⊥)
    → Distinct (list_at (push_at lists to y) k)
push_distinct [] to y k d f = tt
push_distinct (xs ∷ rest) zero y zero d f = distinct_last xs y (d 0) f
push_distinct (xs ∷ rest) zero y (suc k) d f = d (suc k)
push_distinct (xs ∷ rest) (suc to) y zero d f = d 0
push_distinct (xs ∷ rest) (suc to) y (suc k) d f = push_distinct rest to y k (λ j. d (suc j)) f

-- Where `y` is among the alternates, it is the last.
abbrev pub IsLast : List (List ℕ) → ℕ → Type 0
IsLast lists y = (k : ℕ) → InAt lists k y → ends_in (list_at lists k) y ≡ true

put_distinct :
    (lists : List (List ℕ)) (to y k : ℕ) → ((j : ℕ) → Distinct (list_at lists j)) → IsLast lists y
    → Distinct (list_at (put_at lists to y) k)
put_distinct [] to y k d l = tt
put_distinct (xs ∷ rest) zero y zero d l = go (ends_in xs y) refl
  where
    go : (b : Bool) → ends_in xs y ≡ b → Distinct (cond b xs (xs ++ y ∷ []))
    go true e = d 0
    go false e = distinct_last xs y (d 0) (λ i. let k : false ≡ true = sym e ∙ l 0 i in cc)
put_distinct (xs ∷ rest) zero y (suc k) d l = d (suc k)
put_distinct (xs ∷ rest) (suc to) y zero d l = d 0
put_distinct (xs ∷ rest) (suc to) y (suc k) d l = put_distinct rest to y k (λ j. d (suc j)) (λ j. l (suc j))

put_last : (lists : List (List ℕ)) (to y : ℕ) → IsLast lists y → IsLast (put_at lists to y) y
put_last [] to y l k i = absurd i
put_last (xs ∷ rest) zero y l zero i = go (ends_in xs y) refl
  where
    go : (b : Bool) → ends_in xs y ≡ b → ends_in (cond b xs (xs ++ y ∷ [])) y ≡ true
    go true e = e
    go false e = ends_last xs y
put_last (xs ∷ rest) zero y l (suc k) i = l (suc k) i
put_last (xs ∷ rest) (suc to) y l zero i = l 0 i
put_last (xs ∷ rest) (suc to) y l (suc k) i = put_last rest to y (λ j. l (suc j)) k i

state_either :
    (xs : List State) (a : State) (k : ℕ) (x : State) → slice_get (xs ++ a ∷ []) k ≡ Some x
    → (slice_get xs k ≡ Some x) ⊎ ((k ≡ length xs) × (a ≡ x))
state_either [] a zero x e = inr (refl, one e)
  where
    one : ◌≡◌ {A = Option State} (Some a) (Some x) → a ≡ x
    one e = cc
state_either [] a (suc k) x e = absurd (no e)
  where
    no : ◌≡◌ {A = Option State} None (Some x) → ⊥
    no e = cc
state_either (y ∷ ys) a zero x e = inl e
state_either (y ∷ ys) a (suc k) x e = go (state_either ys a k x e)
  where
    go :
        (slice_get ys k ≡ Some x) ⊎ ((k ≡ length ys) × (a ≡ x)) → (slice_get ys k ≡ Some x)
        ⊎ ((suc k ≡ suc (length ys)) × (a ≡ x))
    go (inl h) = inl h
    go (inr h) = inr (ap suc h.0, h.1)

-- No alternate and no helper repeats, and each helper is an alternate of only one state. There are `n` lists.
pub record IsOnce (n : ℕ) (t : Turns) : Type 0 where
  pub whole : length t.lists ≡ n
  pub below : (k x : ℕ) → InAt t.lists k x → x < n + length t.helpers
  pub owned : (k l x : ℕ) → n ≤ x → InAt t.lists k x → InAt t.lists l x → k ≡ l
  pub lists : (k : ℕ) → Distinct (list_at t.lists k)
  pub helpers : (i j : ℕ) (h : State) → slice_get t.helpers i ≡ Some h → slice_get t.helpers j ≡ Some h → i ≡ j

-- The state that a helper leads to.
abbrev pub source_of : State → Option ℕ
source_of (is.ByteRange lo hi next) = Some next
source_of (is.Sparse ts) = None
source_of (is.Dense targets) = None
source_of (is.Look look next) = Some next
source_of (is.Union alternates) = None
source_of (is.BinaryUnion alt1 alt2) = None
source_of (is.Capture next pattern index slot) = None
source_of is.Fail = None
source_of (is.Match pattern) = None

-- The edges of the states in `new` are not yet reversed.
pub record IsNew (new : ℕ → Type 0) (n : ℕ) (t : Turns) : Type 0 where
  pub once : IsOnce n t
  pub lists : (k x : ℕ) → InAt t.lists k x → new x → n ≤ x
  pub helpers : (j : ℕ) (h : State) → slice_get t.helpers j ≡ Some h → (s : ℕ) × (source_of h ≡ Some s) × (new s → ⊥)

step_once :
    (n : ℕ) (t : Turns) (g : State) (to : ℕ) → ((j : ℕ) → slice_get t.helpers j ≡ Some g → ⊥) → IsOnce n t
    → IsOnce n (turn_by t g to)
step_once n t g to absent w = record {
  whole = push_length t.lists to (length t.lists + length t.helpers) ∙ w.whole;
  below = λ k x i. below k x (in_push t.lists to (length t.lists + length t.helpers) k x i);
  owned = λ k l x b i j.
      owned k l x b (in_push t.lists to (length t.lists + length t.helpers) k x i)
      (in_push t.lists to (length t.lists + length t.helpers) l x j);
  lists =
      λ k. push_distinct t.lists to (length t.lists + length t.helpers) k w.lists
      (λ i. fresh to (length t.lists + length t.helpers) i refl);
  helpers = λ i j h e f. helpers i j h (state_either t.helpers g i h e) (state_either t.helpers g j h f);
}
  where
    long : length (t.helpers ++ g ∷ []) ≡ length t.helpers + 1
    long = length-append t.helpers (g ∷ [])

    below :
        (k x : ℕ) → InAt t.lists k x ⊎ ((k ≡ to) × (x ≡ length t.lists + length t.helpers))
        → x < n + length (t.helpers ++ g ∷ [])
    below k x (inl i) = let l = w.below k x i in omega (arith, l, long)
    below k x (inr e) = let l = w.whole in omega (arith, e.1, l, long)

    fresh : (k x : ℕ) → InAt t.lists k x → x ≡ length t.lists + length t.helpers → ⊥
    fresh k x i e = let l = w.below k x i in let m = w.whole in omega (arith, l, m, e)

    owned :
        (k l x : ℕ) → n ≤ x → InAt t.lists k x ⊎ ((k ≡ to) × (x ≡ length t.lists + length t.helpers))
        → InAt t.lists l x ⊎ ((l ≡ to) × (x ≡ length t.lists + length t.helpers)) → k ≡ l
    owned k l x b (inl i) (inl j) = w.owned k l x b i j
    owned k l x b (inl i) (inr f) = absurd (fresh k x i f.1)
    owned k l x b (inr e) (inl j) = absurd (fresh l x j e.1)
    owned k l x b (inr e) (inr f) = e.0 ∙ sym f.0

    helpers :
        (i j : ℕ) (h : State) → (slice_get t.helpers i ≡ Some h) ⊎ ((i ≡ length t.helpers) × (g ≡ h))
        → (slice_get t.helpers j ≡ Some h) ⊎ ((j ≡ length t.helpers) × (g ≡ h)) → i ≡ j
    helpers i j h (inl e) (inl f) = w.helpers i j h e f
    helpers i j h (inl e) (inr f) = absurd (absent i (e ∙ ap Some (sym f.1)))
    helpers i j h (inr e) (inl f) = absurd (absent j (f ∙ ap Some (sym e.1)))
    helpers i j h (inr e) (inr f) = e.0 ∙ sym f.0

-- An edge of the state `from`.
module _ (new : ℕ → Type 0) (n from : ℕ) (known : new from → ⊥) (small : from < n) where
  step_by :
      (t : Turns) (g : State) (to : ℕ) → source_of g ≡ Some from → ((j : ℕ) → slice_get t.helpers j ≡ Some g → ⊥)
      → IsNew new n t → IsNew new n (turn_by t g to)
  step_by t g to source absent w = record {
    once = step_once n t g to absent w.once;
    lists = λ k x i. lists k x (in_push t.lists to (length t.lists + length t.helpers) k x i);
    helpers = λ j h e. helpers j h (state_either t.helpers g j h e);
  }
    where
      lists : (k x : ℕ) → InAt t.lists k x ⊎ ((k ≡ to) × (x ≡ length t.lists + length t.helpers)) → new x → n ≤ x
      lists k x (inl i) = w.lists k x i
      lists k x (inr e) = λ _. let l = w.once.whole in omega (arith, e.1, l)

      helpers :
          (j : ℕ) (h : State) → (slice_get t.helpers j ≡ Some h) ⊎ ((j ≡ length t.helpers) × (g ≡ h))
          → (s : ℕ) × (source_of h ≡ Some s) × (new s → ⊥)
      helpers j h (inl e) = w.helpers j h e
      helpers j h (inr e) = (from, ap source_of (sym e.1) ∙ source, known)

  step_free : (t : Turns) (to : ℕ) → IsLast t.lists from → IsNew new n t → IsNew new n (turn_free t from to)
  step_free t to last w = record {
    once = record {
      whole = put_length t.lists to from ∙ w.once.whole;
      below = λ k x i. below k x (in_put t.lists to from k x i);
      owned = λ k l x b i j. owned k l x b (in_put t.lists to from k x i) (in_put t.lists to from l x j);
      lists = λ k. put_distinct t.lists to from k w.once.lists last;
      helpers = w.once.helpers;
    };
    lists = λ k x i. lists k x (in_put t.lists to from k x i);
    helpers = w.helpers;
  }
    where
      below : (k x : ℕ) → InAt t.lists k x ⊎ ((k ≡ to) × (x ≡ from)) → x < n + length t.helpers
      below k x (inl i) = w.once.below k x i
      below k x (inr e) = omega (arith, e.1, small)

      owned :
          (k l x : ℕ) → n ≤ x → InAt t.lists k x ⊎ ((k ≡ to) × (x ≡ from)) → InAt t.lists l x ⊎ ((l ≡ to) × (x ≡ from))
          → k ≡ l
      owned k l x b (inl i) (inl j) = w.once.owned k l x b i j
      owned k l x b (inl i) (inr f) = absurd (omega (arith, b, f.1, small))
      owned k l x b (inr e) j = absurd (omega (arith, b, e.1, small))

      lists : (k x : ℕ) → InAt t.lists k x ⊎ ((k ≡ to) × (x ≡ from)) → new x → n ≤ x
      lists k x (inl i) = w.lists k x i
      lists k x (inr e) = λ z. absurd (known (subst new e.1 z))

  all_once : (xs : List ℕ) (t : Turns) → IsLast t.lists from → IsNew new n t → IsNew new n (turn_all t from xs)
  all_once [] t last w = w
  all_once (x ∷ xs) t last w =
      all_once xs (turn_free t from x) (put_last t.lists x from last) (step_free t x last w)

  -- The ranges of the state that are already reversed begin before this byte.
  abbrev IsBefore : ℕ → Turns → Type 0
  IsBefore low t = (j lo hi : ℕ) → slice_get t.helpers j ≡ Some (is.ByteRange lo hi from) → lo < low

  same_range : (a b lo hi : ℕ) → is.ByteRange a b from ≡ is.ByteRange lo hi from → a ≡ lo
  same_range a b lo hi e = cc

  ranges_once :
      (rs : List Transition) (low : ℕ) (t : Turns) → ordered_from low rs ≡ true → IsBefore low t → IsNew new n t
      → IsNew new n (turn_ranges t from rs)
  ranges_once [] low t o b w = w
  ranges_once (r ∷ rs) low t o b w =
      ranges_once rs (r.hi + 1) (turn_by t (is.ByteRange r.lo r.hi from) r.next) k.1
      (λ j lo hi e. before j lo hi (state_either t.helpers (is.ByteRange r.lo r.hi from) j (is.ByteRange lo hi from) e))
      (step_by t (is.ByteRange r.lo r.hi from) r.next refl
      (λ j e. let f = b j r.lo r.hi e in omega (arith, f, low_lo)) w)
    where
      k : (leb low r.lo && leb r.lo r.hi ≡ true) × (ordered_from (r.hi + 1) rs ≡ true)
      k = and_parts (leb low r.lo && leb r.lo r.hi) (ordered_from (r.hi + 1) rs) o

      low_lo : low ≤ r.lo
      low_lo = leb-true low r.lo (and_parts (leb low r.lo) (leb r.lo r.hi) k.0).0

      lo_hi : r.lo ≤ r.hi
      lo_hi = leb-true r.lo r.hi (and_parts (leb low r.lo) (leb r.lo r.hi) k.0).1

      before :
          (j lo hi : ℕ)
          → (slice_get t.helpers j ≡ Some (is.ByteRange lo hi from))
          ⊎ ((j ≡ length t.helpers) × (is.ByteRange r.lo r.hi from ≡ is.ByteRange lo hi from))
          → lo < r.hi + 1
      before j lo hi (inl e) = let f = b j lo hi e in omega (arith, f, low_lo, lo_hi)
      before j lo hi (inr e) = let f = same_range r.lo r.hi lo hi e.1 in omega (arith, f, lo_hi)

  state_once :
      (s : State) (t : Turns) → state_ordered s ≡ true
      → ((j : ℕ) (h : State) → slice_get t.helpers j ≡ Some h → source_of h ≡ Some from → ⊥)
      → ((k : ℕ) → InAt t.lists k from → ⊥) → IsNew new n t → IsNew new n (turn_state t from s)
  state_once (is.ByteRange lo hi next) t o none free w =
      step_by t (is.ByteRange lo hi from) next refl (λ j e. none j (is.ByteRange lo hi from) e refl) w
  state_once (is.Sparse ts) t o none free w =
      ranges_once ts.items 0 t o (λ j lo hi e. absurd (none j (is.ByteRange lo hi from) e refl)) w
  state_once (is.Dense targets) t o none free w =
      ranges_once (runs_from 0 0 targets.value) 0 t (runs_ordered targets.value 0 0 0 (omega arith) (omega arith))
      (λ j lo hi e. absurd (none j (is.ByteRange lo hi from) e refl)) w
  state_once (is.Look look next) t o none free w =
      step_by t (is.Look (flip look) from) next refl (λ j e. none j (is.Look (flip look) from) e refl) w
  state_once (is.Union alternates) t o none free w = all_once alternates.items t (λ k i. absurd (free k i)) w
  state_once (is.BinaryUnion alt1 alt2) t o none free w = all_once (alt1 ∷ alt2 ∷ []) t (λ k i. absurd (free k i)) w
  state_once (is.Capture next pattern index slot) t o none free w = all_once (next ∷ []) t (λ k i. absurd (free k i)) w
  state_once is.Fail t o none free w = w
  state_once (is.Match pattern) t o none free w = w

states_once :
    (n : ℕ) (states : List State) (ids : List ℕ) (t : Turns)
    → ((q : ℕ) → state_ordered (get_or states q is.Fail) ≡ true)
    → Distinct ids → ((q : ℕ) → In q ids → q < n) → IsNew (λ q. In q ids) n t
    → IsNew (λ q. ⊥) n (turn_states t states ids)
states_once n states [] t o d l w = w
states_once n states (q ∷ qs) t o d l w =
    states_once n states qs (turn_state t q (get_or states q is.Fail)) o d.1 (λ r i. l r (inr i))
    (state_once (λ r. In r qs) n q d.0 (l q (inl refl)) (get_or states q is.Fail) t (o q)
    (λ j h e f. none h (w.helpers j h e) f)
    (λ k i. let b = w.lists k q i (inl refl) in let c = l q (inl refl) in omega (arith, b, c))
    (record {
      once = w.once;
      lists = λ k x i r. w.lists k x i (inr r);
      helpers = λ j h e. let s = w.helpers j h e in (s.0, s.1, λ i. s.2 (inr i));
    }))
  where
    none : (h : State) → (s : ℕ) × (source_of h ≡ Some s) × (In s (q ∷ qs) → ⊥) → source_of h ≡ Some q → ⊥
    none h s f = s.2 (inl (some_inj (sym s.1 ∙ f)))

pub turned_once :
    (states : List State) (reached : List ℕ) (first : ℕ) (t : Turns)
    → ((q : ℕ) → state_ordered (get_or states q is.Fail) ≡ true) → Distinct reached
    → ((q : ℕ) → In q reached → q < length states)
    → t ≡ turn_by (turn_states (record { lists = no_lists (length states); helpers = [] }) states reached) (is.Match 0)
    first
    → IsOnce (length states) t
turned_once states reached first t o d l e =
    subst (λ (t : Turns). IsOnce (length states) t) (sym e)
    (step_once (length states) (turn_states (record { lists = no_lists (length states); helpers = [] }) states reached)
    (is.Match 0) first
    (λ j f. absurd (none_some (was.helpers j (is.Match 0) f).1)) was.once)
  where
    long : (n : ℕ) → length (no_lists n) ≡ n
    long zero = refl
    long (suc n) = ap suc (long n)

    none : (n k x : ℕ) → InAt (no_lists n) k x → ⊥
    none zero k x i = i
    none (suc n) zero x i = i
    none (suc n) (suc k) x i = none n k x i

    empty : (n k : ℕ) → Distinct (list_at (no_lists n) k)
    empty zero k = tt
    empty (suc n) zero = tt
    empty (suc n) (suc k) = empty n k

    absent : (j : ℕ) (h : State) → ◌≡◌ {A = Option State} None (Some h) → ⊥
    absent j h e = cc

    was :
        IsNew (λ q. ⊥) (length states)
        (turn_states (record { lists = no_lists (length states); helpers = [] }) states reached)
    was =
        states_once (length states) states reached (record { lists = no_lists (length states); helpers = [] }) o d l
        (record {
          once = record {
            whole = long (length states);
            below = λ k x i. absurd (none (length states) k x i);
            owned = λ k m x b i j. absurd (none (length states) k x i);
            lists = λ k. empty (length states) k;
            helpers = λ i j h e f. absurd (absent i h e);
          };
          lists = λ k x i. absurd (none (length states) k x i);
          helpers = λ j h e. absurd (absent j h e);
        })
