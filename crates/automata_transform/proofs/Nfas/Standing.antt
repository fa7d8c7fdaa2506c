-- States that stand for lists of states of another NFA, as the code tests them.
use Rattle.std.proofs.Common.{ℕ, zero, suc, ◌≡◌, ◌<◌, ◌≤◌, ◌+◌, ◌-◌, inl, inr, false, ltb, cond, List, [], ◌∷◌}
use Rattle.std.proofs.Common.{rules, Result, Ok, Err, ◌||◌, Option, Some, None, length, get_or, drop, Vec, refl}
use Rattle.std.proofs.Common.{sym, ap, ◌∙◌, subst, arith}
use Rattle.std.proofs.lemmas.Bool.Decides.{nat_tests}
use Rattle.std.specs.Prelude.{MatchOption, MatchResult, IfOk, IfSome, is_some, slice_get}
use Rattle.std.specs.Bool.{Decides}
use Rattle.std.specs.Cmp.{unsigned_Decides}
use Rattle.std.specs.declared.alloc.Global.{Global}
use Rattle.automata_base.specs.Lists.{In}
use Rattle.automata_transform.specs.Nfas.MergedNfas.{IsMergedNfa, KeepsBounds}
use Rattle.automata_transform.specs.Nfas.Merges.{IsMerged, IsMergedNode, KeepsNode}
use Rattle.automata_transform.specs.Nfas.Merges.{ReadsFor, Shows, list_or_none, stood_for, all_stood_for}
use Rattle.automata_transform.specs.Nfas.Merges.{target_for}
use Rattle.automata_base.specs.Nfas.Nfa.{Node, Range, Read, Split, accepts_at, node, node_or_fail, takes_at}
use Rattle.automata_base.specs.Nfas.Nodes.{Automaton, node_of, nodes_of, nfa_of}
use Rattle.automata_base.specs.Nfas.KeptClosure.{AreRows}
use Rattle.automata_base.specs.Powersets.Cuts.{has_match, targets}
use Rattle.automata_base.specs.Retraced.ReversedEdges.{lists_of, list_at}
use Rattle.automata_base.specs.contracts.nfa.thompson.state.TransitionPartialEq.TheImpl.{ghosts as ranges}
use Rattle.automata_base.specs.contracts.util.primitives.StateIDPartialEq.TheImpl.{ghosts}
use Rattle.automata_base.specs.declared.nfa.thompson.state.Transition.{Transition}
use Rattle.automata_base.specs.declared.nfa.thompson.state.State.{State}
use Rattle.automata_base.proofs.Nfas.Mirrors.Lists.{list_item, lists_length}
use Rattle.automata_base.proofs.Powersets.Walking.{node_at, nodes_length}

pub same_id : (a b : ℕ) → Decides (ghosts.eq a b) (a ≡ b)
same_id a b = unsigned_Decides a b

pub same_range : (a b : Transition) → Decides (ranges.eq a b) (a ≡ b)
same_range a b = search rules

-- A fact about the value of an option, if it has one.
pub some_of : {T : Type 0} (P : Type 0) (Q : T → Type 0) (o : Option T) → MatchOption o P Q → IfSome o Q
some_of P Q None m = tt
some_of P Q (Some x) m = m

-- What follows for the value of a result, if it has one.
pub ok_of :
    {T E : Type 0} (P Q : T → Type 0) (N : E → Type 0) (r : Result T E)
    → ((x : T) → P x → Q x) → MatchResult r P N → IfOk r Q
ok_of P Q N (Ok x) f m = f x m
ok_of P Q N (Err e) f m = tt

lists_get :
    (vs : List (Vec ℕ Global)) (k : ℕ) (v : Vec ℕ Global) → k < length vs → v ≡ get_or vs k v
    → slice_get (lists_of vs) k ≡ Some v.items
lists_get [] k v l e = absurd (omega (arith, l))
lists_get (w ∷ vs) zero v l e = ap (λ (z : Vec ℕ Global). Some z.items) (sym e)
lists_get (w ∷ vs) (suc k) v l e = lists_get vs k v (omega (arith, l)) e

-- A further state stands for its list.
pub stood_further :
    (count : ℕ) (vs : List (Vec ℕ Global)) (k q : ℕ) (v : Vec ℕ Global)
    → count ≤ q → q - count ≡ k → k < length vs → v ≡ get_or vs k v → stood_for count (lists_of vs) q ≡ v.items
stood_further count vs k q v least is l e =
    ap (λ b. cond b (q ∷ []) (list_or_none (slice_get (lists_of vs) (q - count)))) not_old
    ∙ (ap (λ z. list_or_none (slice_get (lists_of vs) z)) is ∙ ap list_or_none (lists_get vs k v l e))
  where
    not_old : ltb q count ≡ false
    not_old = grind (arith, nat_tests, least)

-- If `rest` is what the states from index `i` on stand for, `list` is what all of them stand for.
abbrev pub Stand : (count : ℕ) → List (List ℕ) → (ids list : List ℕ) → (i : ℕ) → (rest : List ℕ) → Type 0
Stand count lists ids list i rest = all_stood_for count lists (drop i ids) ≡ rest → all_stood_for count lists ids ≡ list

-- The node of a state that was read at an index.
pub node_found :
    (a : Automaton) (states : List State) (at q : ℕ) (s : State)
    → states ≡ a.states → at ≡ q → at < length states → s ≡ get_or states at s → node (nfa_of a) q ≡ node_of s
node_found a states at q s same is l e =
    subst (λ k. node_or_fail (slice_get (nodes_of a.states) k) ≡ node_of s) is
    (node_at a.states at s s (subst (λ z. at < length z) same l) (subst (λ z. s ≡ get_or z at s) same e))

-- A state of the NFA that reads bytes and is not the anchored start.
abbrev pub IsPlain : Automaton → ℕ → Type 0
IsPlain a q =
    (q < length a.states) × ((q ≡ a.start_anchored → ⊥) × ((ranges : List Range) × (node (nfa_of a) q ≡ Read ranges)))

-- States that read bytes match no pattern.
pub plain_unmatched :
    (a : Automaton) (xs : List ℕ) → ((q : ℕ) → In q xs → IsPlain a q) → has_match (nfa_of a) xs ≡ false
plain_unmatched a [] p = refl
plain_unmatched a (x ∷ xs) p =
    let w = p x (inl refl) in
    ap (λ z. is_some (accepts_at z) || has_match (nfa_of a) xs) w.1.1.1
    ∙ plain_unmatched a xs (λ q i. p q (inr i))

-- If ranges lead, on each byte, to what stands for the targets of a list, they read for the list.
pub reads_each :
    (a : Automaton) (lists : List (List ℕ)) (m : Node) (list : List ℕ) (ranges : List Range)
    → ((q : ℕ) → In q list → (q ≡ a.start_anchored → ⊥) × ((own : List Range) × (node (nfa_of a) q ≡ Read own)))
    → ((u : ℕ) → u < 256 → target_for (length a.states) lists (takes_at m u) ≡ targets (nfa_of a) (Some u) list)
    → m ≡ Read ranges → ReadsFor (nfa_of a) a.start_anchored lists ranges list
reads_each a lists m list ranges plain leads reads = record {
  plain = plain;
  same = λ u small.
      ap (λ z. target_for z lists (takes_at (Read ranges) u)) (nodes_length a.states)
      ∙ (ap (λ z. target_for (length a.states) lists (takes_at z u)) (sym reads) ∙ leads u small);
}

-- The same, from tested rows of targets.
pub reads_all :
    (a : Automaton) (lists rows : List (Vec ℕ Global)) (count : ℕ) (m : Node) (list : List ℕ) (ranges : List Range)
    → count ≡ length a.states
    → ((q : ℕ) → In q list
    → (q ≡ a.start_anchored → ⊥) × ((own : List Range) × (node (nfa_of a) q ≡ Read own)))
    → ((u : ℕ) → u < 256 → (u < length rows)
    × (target_for count (lists_of lists) (takes_at m u) ≡ list_at (lists_of rows) u))
    → AreRows (nfa_of a) list rows → m ≡ Read ranges
    → ReadsFor (nfa_of a) a.start_anchored (lists_of lists) ranges list
reads_all a lists rows count m list ranges is plain leads are reads = record {
  plain = plain;
  same = λ u small.
      let w = leads u small in
      ap (λ z. target_for z (lists_of lists) (takes_at (Read ranges) u)) (nodes_length a.states ∙ sym is)
      ∙ (ap (λ z. target_for count (lists_of lists) (takes_at z u)) (sym reads) ∙ (w.1 ∙ (are u w.0).same));
}

-- The row of a byte was tested.
pub row_found :
    (lists rows : List (Vec ℕ Global)) (count : ℕ) (m : Node) (u : ℕ) (target : Option ℕ) (row : List ℕ)
    (v : Vec ℕ Global)
    → u < length rows → target ≡ takes_at m u → v ≡ get_or rows u v → row ≡ v.items
    → target_for count (lists_of lists) target ≡ row
    → target_for count (lists_of lists) (takes_at m u) ≡ list_at (lists_of rows) u
row_found lists rows count m u target row v l is e own leads =
    ap (target_for count (lists_of lists)) (sym is) ∙ (leads ∙ (own ∙ sym (list_item rows u v l e)))

-- A union whose alternates stand for the parts of a list stands for the list.
pub shows_union :
    (a b : Automaton) (lists : List (List ℕ)) (count : ℕ) (m : Node) (alternates list : List ℕ)
    → count ≡ length a.states → m ≡ Split alternates → all_stood_for count lists alternates ≡ list
    → ((q : ℕ) → In q alternates → count ≤ q → (ranges : List Range) × (node (nfa_of b) q ≡ Read ranges))
    → Shows (nfa_of a) (nfa_of b) a.start_anchored lists m list
shows_union a b lists count m alternates list is split stand further =
    let same : length (nodes_of a.states) ≡ count = nodes_length a.states ∙ sym is in
    subst (λ z. Shows (nfa_of a) (nfa_of b) a.start_anchored lists z list) (sym split)
    (ap (λ z. all_stood_for z lists alternates) same ∙ stand, λ q i l. further q i (subst (λ z. z ≤ q) same l))

-- A state is unchanged, or was a union and now stands for the union's alternates.
abbrev pub IsOld : (a b : Automaton) → List (List ℕ) → (now was : Node) → Type 0
IsOld a b lists now was = IsMergedNode (nfa_of a) (nfa_of b) a.start_anchored lists was now

pub old_found :
    (a b : Automaton) (lists : List (List ℕ)) (now was now' was' : Node)
    → now' ≡ now → was' ≡ was → IsOld a b lists now was → IsOld a b lists now' was'
old_found a b lists now was now' was' e f old =
    subst (λ z. IsOld a b lists z was') (sym e) (subst (λ z. IsOld a b lists now z) (sym f) old)

-- Further state `k` stands for its list.
abbrev pub IsFurther : (a b : Automaton) → List (List ℕ) → ℕ → Type 0
IsFurther a b lists k =
    Shows (nfa_of a) (nfa_of b) a.start_anchored lists (node (nfa_of b) (length a.states + k))
    (stood_for (length a.states) lists (length a.states + k))

pub further_found :
    (a b : Automaton) (vs : List (Vec ℕ Global)) (k : ℕ) (m : Node) (list : List ℕ) (v : Vec ℕ Global)
    → k < length vs → v ≡ get_or vs k v → list ≡ v.items → node (nfa_of b) (length a.states + k) ≡ m
    → Shows (nfa_of a) (nfa_of b) a.start_anchored (lists_of vs) m list → IsFurther a b (lists_of vs) k
further_found a b vs k m list v l e own at shows =
    subst (λ z. Shows (nfa_of a) (nfa_of b) a.start_anchored (lists_of vs) z
    (stood_for (length a.states) (lists_of vs) (length a.states + k)))
    (sym at)
    (subst (Shows (nfa_of a) (nfa_of b) a.start_anchored (lists_of vs) m)
    (own ∙ sym (stood_further (length a.states) vs k (length a.states + k) v (omega arith) (omega arith) l e)) shows)

-- The NFA is merged if each of its states passes its test.
pub merged_of :
    (a b : Automaton) (vs : List (Vec ℕ Global))
    → b.flags.line_terminator ≡ a.flags.line_terminator → b.flags.reverse ≡ a.flags.reverse
    → length b.states ≡ length a.states + length vs
    → ((q : ℕ) → q < length a.states → IsOld a b (lists_of vs) (node (nfa_of b) q) (node (nfa_of a) q))
    → ((k : ℕ) → k < length vs → IsFurther a b (lists_of vs) k)
    → IsMerged (nfa_of a) (nfa_of b) a.start_anchored (lists_of vs)
merged_of a b vs terminator reverse count old further = record {
  terminator = terminator;
  reverse = reverse;
  count =
      (let x = nodes_length a.states in let y = nodes_length b.states in let z = lists_length vs in
      omega (arith, x, y, z, count));
  first_states = λ q l. old q (subst (λ z. q < z) (nodes_length a.states) l);
  further = λ q least l.
      let x = nodes_length a.states in
      let y = nodes_length b.states in
      let back : length a.states + (q - length a.states) ≡ q = omega (arith, x, least) in
      let few : q - length a.states < length vs = omega (arith, x, y, least, l, count) in
      subst (λ z. Shows (nfa_of a) (nfa_of b) a.start_anchored (lists_of vs) (node (nfa_of b) z)
      (stood_for (length (nodes_of a.states)) (lists_of vs) z))
      back
      (subst (λ z. Shows (nfa_of a) (nfa_of b) a.start_anchored (lists_of vs)
      (node (nfa_of b) (length a.states + (q - length a.states)))
      (stood_for z (lists_of vs) (length a.states + (q - length a.states))))
      (sym x) (further (q - length a.states) few));
}

-- An NFA is its own merged form, in which nothing is merged.
pub merged_self : (a : Automaton) → IsMergedNfa a a
merged_self a = record {
  begins = record { anchored = refl; unanchored = refl; patterns = refl; flags = refl; unions = refl };
  lists = [];
  merged = record {
    terminator = refl;
    reverse = refl;
    count = omega arith;
    first_states = λ q l. KeepsNode refl;
    further = λ q least l. absurd (omega (arith, least, l));
  };
}

pub bounds_self : (a : Automaton) → KeepsBounds a a
bounds_self a = record { room = omega arith; acyclic = λ x. x; skips = λ x. x }
