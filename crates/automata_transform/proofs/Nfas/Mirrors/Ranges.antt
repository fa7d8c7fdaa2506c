-- The IDs that states lead to are in range.
use Rattle.std.proofs.Common.{ℕ, zero, suc, ◌≡◌, ◌<◌, ◌≤◌, ◌+◌, ◌⊎◌, ◌&&◌, true, false, List, [], ◌∷◌, ◌++◌, length}
use Rattle.std.proofs.Common.{length-append, get_or, Option, Some, None, inl, inr, refl, sym, ap, ◌∙◌, subst, arith}
use Rattle.std.proofs.lemmas.Bool.{lt-ltb}
use Rattle.automata_base.specs.declared.nfa.thompson.state.State.{State}
use Rattle.automata_base.specs.declared.nfa.thompson.state.State.TheVariants as is
use Rattle.automata_base.specs.declared.nfa.thompson.state.Transition.{Transition}
use Rattle.automata_base.specs.Lists.{In, all_below}
use Rattle.std.specs.Prelude.{slice_get}
use Rattle.automata_transform.specs.Nfas.Mirrors.{flip, Label, Free, Asks, Reads}
use Rattle.automata_base.specs.Nfas.Nodes.{Automaton}
use Rattle.automata_base.specs.Nfas.Errors.{state_below, states_below}
use Rattle.automata_transform.specs.Retraced.DenseRuns.{runs_from}
use Rattle.automata_transform.specs.Retraced.ReversedEdges.{Turns, turn_by, turn_all, turn_ranges, turn_state}
use Rattle.automata_base.specs.Retraced.ReversedEdges.{no_lists}
use Rattle.automata_transform.specs.Retraced.ReversedEdges.{turn_states, IsHead, IsUnionOfAll, IsOnlyHelper}
use Rattle.automata_transform.specs.Retraced.ReversedEdges.{AreHeads, AreTurned}
use Rattle.automata_transform.proofs.Nfas.Mirrors.Graphs.{InAt, Stand, IsHelper, IsGraph, Of}
use Rattle.automata_transform.proofs.Nfas.Mirrors.Members.{heads_length}
use Rattle.automata_transform.proofs.Nfas.Mirrors.Parts.{turned_graph}
use Rattle.automata_base.proofs.Paths.Checked.{below_in}
use Rattle.std.proofs.lemmas.Bool.{and_parts}
use Rattle.automata_base.proofs.Powersets.Belows.{all_below_from}

-- The helpers lead to states.
states_last :
    (n : ℕ) (xs : List State) (x : State) → states_below n xs ≡ true → state_below n x ≡ true
    → states_below n (xs ++ x ∷ []) ≡ true
states_last n [] x b c = ap (λ v. v && true) c
states_last n (y ∷ ys) x b c =
    let w = and_parts (state_below n y) (states_below n ys) b in
    ap (λ v. v && states_below n (ys ++ x ∷ [])) w.0 ∙ states_last n ys x w.1 c

module _ (n from : ℕ) (l : from < n) where
  helpers_all :
      (xs : List ℕ) (t : Turns) → states_below n t.helpers ≡ true → states_below n (turn_all t from xs).helpers ≡ true
  helpers_all [] t b = b
  helpers_all (x ∷ xs) t b = helpers_all xs (record { lists = _; helpers = t.helpers }) b

  range_on :
      (t : Turns) (lo hi to : ℕ) → states_below n t.helpers ≡ true
      → states_below n (turn_by t (is.ByteRange lo hi from) to).helpers ≡ true
  range_on t lo hi to b = states_last n t.helpers (is.ByteRange lo hi from) b (lt-ltb from n l)

  helpers_ranges :
      (ts : List Transition) (t : Turns) → states_below n t.helpers ≡ true
      → states_below n (turn_ranges t from ts).helpers ≡ true
  helpers_ranges [] t b = b
  helpers_ranges (r ∷ rs) t b =
      helpers_ranges rs (turn_by t (is.ByteRange r.lo r.hi from) r.next) (range_on t r.lo r.hi r.next b)

  helpers_state :
      (s : State) (t : Turns) → states_below n t.helpers ≡ true → states_below n (turn_state t from s).helpers ≡ true
  helpers_state (is.ByteRange lo hi next) t b = range_on t lo hi next b
  helpers_state (is.Sparse ts) t b = helpers_ranges ts.items t b
  helpers_state (is.Dense targets) t b = helpers_ranges (runs_from 0 0 targets.value) t b
  helpers_state (is.Look look next) t b = states_last n t.helpers (is.Look (flip look) from) b (lt-ltb from n l)
  helpers_state (is.Union alternates) t b = helpers_all alternates.items t b
  helpers_state (is.BinaryUnion alt1 alt2) t b = b
  helpers_state (is.Capture next pattern index slot) t b = b
  helpers_state is.Fail t b = b
  helpers_state (is.Match pattern) t b = b

helpers_states :
    (n : ℕ) (states : List State) (ids : List ℕ) (t : Turns) → ((q : ℕ) → In q ids → q < n)
    → states_below n t.helpers ≡ true
    → states_below n (turn_states t states ids).helpers ≡ true
helpers_states n states [] t f b = b
helpers_states n states (q ∷ qs) t f b =
    helpers_states n states qs (turn_state t q (get_or states q is.Fail)) (λ r i. f r (inr i))
    (helpers_state n q (f q (inl refl)) (get_or states q is.Fail) t b)

nth_below :
    (n : ℕ) (hs : List State) (j : ℕ) (h : State) → states_below n hs ≡ true → slice_get hs j ≡ Some h
    → state_below n h ≡ true
nth_below n [] j h b e = absurd (no e)
  where
    no : ◌≡◌ {A = Option State} None (Some h) → ⊥
    no e = cc
nth_below n (x ∷ xs) zero h b e =
    ap (state_below n) (sym (one e)) ∙ (and_parts (state_below n x) (states_below n xs) b).0
  where
    one : ◌≡◌ {A = Option State} (Some x) (Some h) → x ≡ h
    one e = cc
nth_below n (x ∷ xs) (suc j) h b e = nth_below n xs j h (and_parts (state_below n x) (states_below n xs) b).1 e

heads_below :
    (n m : ℕ) (hs more : List State) (lists : List (List ℕ)) (heads : List State) → AreHeads m hs lists heads
    → ((k x : ℕ) → InAt lists k x → x < n) → states_below n hs ≡ true → states_below n more ≡ true
    → states_below n (heads ++ more) ≡ true
heads_below n m hs more [] [] a f b c = c
heads_below n m hs more [] (s ∷ ss) a f b c = absurd a
heads_below n m hs more (xs ∷ rest) [] a f b c = absurd a
heads_below n m hs more (xs ∷ rest) (s ∷ ss) a f b c =
    ap (λ v. v && states_below n (ss ++ more)) (one a.0)
    ∙ heads_below n m hs more rest ss a.1 (λ k x i. f (suc k) x i) b c
  where
    one : IsHead m hs xs s → state_below n s ≡ true
    one (IsUnionOfAll v e g) =
        ap (state_below n) e ∙ (ap (all_below n) g ∙ all_below_from n xs (λ r i. f 0 r i))
    one (IsOnlyHelper j e g) = nth_below n hs j s b g

nth_inside : {A : Type 0} (xs : List A) (j : ℕ) (a : A) → slice_get xs j ≡ Some a → j < length xs
nth_inside [] j a e = absurd (no e)
  where
    no : {A : Type 0} {a : A} → ◌≡◌ {A = Option A} None (Some a) → ⊥
    no e = cc
nth_inside (x ∷ xs) zero a e = omega arith
nth_inside (x ∷ xs) (suc j) a e = let k = nth_inside xs j a e in omega (arith, k)

-- The reversed states are in range, and there are at least as many as states.
module _ (a : Automaton) (turned : List State) (reached : List ℕ)
    (below : states_below (length a.states) a.states ≡ true)
    (first : a.start_anchored < length a.states) (small : all_below (length a.states) reached ≡ true)
    (are : AreTurned a.states reached a.start_anchored turned) where
  graph : IsGraph (Of (λ s l k. ⊥) a.states reached) (λ k. k ≡ a.start_anchored) (length a.states) are.0
  graph = turned_graph a reached are.0 below first are.2

  heads_are : AreHeads (length are.0.lists) are.0.helpers are.0.lists are.1.0
  heads_are = are.1.2

  long : length turned ≡ length are.0.lists + length are.0.helpers
  long =
      ap (λ xs. length xs) are.1.1
      ∙ (length-append are.1.0 are.0.helpers
      ∙ ap (λ n. n + length are.0.helpers)
      (heads_length (length are.0.lists) are.0.helpers are.0.lists are.1.0 heads_are))

  pub turned_whole : length a.states ≤ length turned
  turned_whole = let w = graph.whole in omega (arith, long, w)

  id_in : (q : ℕ) → In q reached → q < length turned
  id_in q i = let k = below_in (length a.states) reached q small i in omega (arith, k, turned_whole)

  helper_in : (x : ℕ) (h : State) → IsHelper are.0 x h → x < length turned
  helper_in x h k =
      let j = nth_inside are.0.helpers k.0 h k.2 in
      let e = k.1 in
      omega (arith, j, e, long)

  inside : (k x : ℕ) → InAt are.0.lists k x → x < length turned
  inside k x i = go (graph.sound k x i)
    where
      go :
          ((s : ℕ) × (l : Label) × Of (λ s l k. ⊥) a.states reached s l k × Stand are.0 x l s)
          ⊎ ((k ≡ a.start_anchored) × IsHelper are.0 x (is.Match 0))
          → x < length turned
      go (inl (s, l, inl b, h)) = absurd b
      go (inl (s, Free, inr b, h)) = subst (λ v. v < length turned) (sym h) (id_in s b.0)
      go (inl (s, Asks look, inr b, h)) = helper_in x (is.Look (flip look) s) h
      go (inl (s, Reads lo hi, inr b, h)) = helper_in x (is.ByteRange lo hi s) h
      go (inr h) = helper_in x (is.Match 0) h.1

  helpers_are : states_below (length turned) are.0.helpers ≡ true
  helpers_are =
      ap (λ (t : Turns). states_below (length turned) t.helpers) are.2
      ∙ states_last (length turned)
      (turn_states (record { lists = no_lists (length a.states); helpers = [] }) a.states reached).helpers (is.Match 0)
      (helpers_states (length turned) a.states reached (record { lists = no_lists (length a.states); helpers = [] })
      id_in refl) refl

  pub turned_below : states_below (length turned) turned ≡ true
  turned_below =
      ap (states_below (length turned)) are.1.1
      ∙ heads_below (length turned) (length are.0.lists) are.0.helpers are.0.helpers are.0.lists are.1.0 heads_are
      inside helpers_are helpers_are

-- The same for states alone.
module _ (states turned : List State) (reached : List ℕ) (first : ℕ)
    (below : states_below (length states) states ≡ true)
    (inside : first < length states) (small : all_below (length states) reached ≡ true)
    (are : AreTurned states reached first turned) where
  pub states_whole : length states ≤ length turned
  states_whole =
      turned_whole
      (record {
        states = states;
        start_anchored = first;
        start_unanchored = first;
        start_pattern = [];
        flags = record { utf8 = false; reverse = false; line_terminator = 10 };
        keeps_unions = false;
      })
      turned reached below inside small are

  pub states_in_range : states_below (length turned) turned ≡ true
  states_in_range =
      turned_below
      (record {
        states = states;
        start_anchored = first;
        start_unanchored = first;
        start_pattern = [];
        flags = record { utf8 = false; reverse = false; line_terminator = 10 };
        keeps_unions = false;
      })
      turned reached below inside small are
