-- The targets of a state are the states to which its edges lead.
use Rattle.std.proofs.Common.{ℕ, zero, suc, ◌≡◌, ◌≤◌, ◌+◌, ◌⊎◌, ◌↔◌, ◌&&◌, Bool, true, false, cond, leb, List, [], ◌∷◌}
use Rattle.std.proofs.Common.{Some, None, inl, inr, refl, sym, ap, ◌∙◌, subst, arith}
use Rattle.std.proofs.lemmas.Grind.{common_steps}
use Rattle.std.proofs.lemmas.Bool.{leb-true, le-leb}
use Rattle.automata_base.specs.declared.nfa.thompson.state.State.{State}
use Rattle.automata_base.specs.declared.nfa.thompson.state.State.TheVariants as is
use Rattle.automata_base.specs.declared.nfa.thompson.state.Transition.{Transition}
use Rattle.automata_base.specs.declared.nfa.thompson.reach.Edges.TheVariants.{Epsilon, Every}
use Rattle.automata_base.specs.Nfas.Engines.{ByteEdge, FreeEdge, HasEdge, Road, Reaches}
use Rattle.automata_base.specs.Nfas.Getters.{HasEmpty}
use Rattle.automata_base.specs.Lists.{In}
use Rattle.automata_base.specs.Haystacks.Looks.{Look, within}
use Rattle.automata_base.specs.Nfas.Nfa.{Node, Range, Split, Assert, Read, Accept, node, hop, hop_at, takes_in}
use Rattle.automata_base.specs.Nfas.Nfa.{takes_at}
use Rattle.automata_base.specs.Nfas.Nodes.{Automaton, nfa_of, node_of, ranges_of, dense_from}
use Rattle.automata_base.specs.Paths.Paths.{all_true, Run, HasEpsilonPath, LeadsOn, IsLookAcyclic}
use Rattle.automata_base.specs.Retraced.Reach.{node_in, nexts, byte_targets, targets_of, look_target, Route, IsReached}
use Rattle.automata_base.specs.Retraced.Reach.{LeadsBack, AreLooksAcyclic, ReachesMatch}
use Rattle.automata_base.specs.Nfas.Errors.{ordered_from, state_ordered, states_ordered}
use Rattle.automata_base.specs.Powersets.Closure.{children}
use Rattle.automata_base.proofs.Paths.FirstVisits.{hop_children}
use Rattle.automata_base.proofs.Paths.Orders.{some_inj, none_some}
use Rattle.automata_base.proofs.Nfas.Reach.Cycles.{look_is}
use Rattle.std.proofs.lemmas.Bool.{and_parts}
use Rattle.automata_base.proofs.Paths.Walks.{in_left}
use Rattle.automata_base.proofs.Paths.FirstVisits.{in_right}
use Rattle.automata_base.proofs.Paths.Walks.{in_either}
use Rattle.automata_base.proofs.Paths.Sets.{in_nth}
use Rattle.automata_base.proofs.Paths.Sets.{nth_in}

module _ (a : Automaton) where
  hop_from : (q r : ℕ) → In r (children (nfa_of a) all_true q) → (e : ℕ) × (hop (nfa_of a) all_true q e ≡ Some r)
  hop_from q r i =
      let w = in_nth (children (nfa_of a) all_true q) r i in (w.0, hop_children (nfa_of a) all_true q w.0 ∙ w.1)

  hop_to : (q e r : ℕ) → hop (nfa_of a) all_true q e ≡ Some r → In r (children (nfa_of a) all_true q)
  hop_to q e r h = nth_in (children (nfa_of a) all_true q) e r (sym (hop_children (nfa_of a) all_true q e) ∙ h)

  run_from :
      (q : ℕ) (way : List ℕ) (z : ℕ) → Route (targets_of Epsilon a.states) q way z → HasEpsilonPath (nfa_of a) q z
  run_from q [] z w = ([], w)
  run_from q (r ∷ way) z w =
      let e = hop_from q r w.0 in
      let h = run_from r way z w.1 in
      (e.0 ∷ h.0, (r, e.1, h.1))

  run_to :
      (q : ℕ) (path : List ℕ) (z : ℕ) → Run (nfa_of a) q path z → (way : List ℕ)
      × Route (targets_of Epsilon a.states) q way z
  run_to q [] z w = ([], w)
  run_to q (e ∷ path) z w = let h = run_to w.0 path z w.2 in (w.0 ∷ h.0, (hop_to q e w.0 w.1, h.1))

  -- A match is reached exactly if the NFA has the empty match.
  pub empty_is : (b : Type 0) → b ↔ ReachesMatch a.states a.start_pattern → b ↔ HasEmpty a
  empty_is b found = (
    λ t. let h = found.0 t in (h.1.0, h.0, h.2.0, h.1.2, run_from h.1.0 h.1.1 h.0 h.1.3, h.2.1),
    λ h. let w = run_to h.0 h.4.0 h.1 h.4.1 in found.1 (h.1, (h.0, w.0, h.3, w.1), (h.2, h.5)),
  )

module _ (a : Automaton) where
  goes_back :
      (q : ℕ) (look : Look) (next : ℕ) → node (nfa_of a) q ≡ Assert look next → LeadsOn (nfa_of a) q q
      → LeadsBack a.states q
  goes_back q look next e h = go h.0 (ap (λ x. hop_at x all_true h.0) (sym e) ∙ h.2)
    where
      go : (k : ℕ) → hop_at (Assert look next) all_true k ≡ Some h.1 → LeadsBack a.states q
      go zero f =
          let w = run_to a h.1 h.3.0 q h.3.1 in
          (next, ap look_target e, (h.1, w.0, inl (sym (some_inj f)), w.1))
      go (suc k) f = absurd (none_some f)

  comes_back :
      (q : ℕ) (look : Look) (next : ℕ) → node (nfa_of a) q ≡ Assert look next → IsReached Epsilon a.states (next ∷ []) q
      → LeadsOn (nfa_of a) q q
  comes_back q look next e h = go h.2
    where
      go : In h.0 (next ∷ []) → LeadsOn (nfa_of a) q q
      go (inl f) = (
        0,
        next,
        ap (λ x. hop_at x all_true 0) e,
        subst (λ v. HasEpsilonPath (nfa_of a) v q) f
            (run_from a h.0 h.1 q h.3),
      )
      go (inr i) = absurd i

  -- No look leads back to itself exactly if no epsilon cycle passes a look.
  pub acyclic_is : (b : Type 0) → b ↔ AreLooksAcyclic a.states → b ↔ IsLookAcyclic (nfa_of a)
  acyclic_is b found = (
    λ t q look next e h. found.0 t q (goes_back q look next e h),
    λ h. found.1 (λ q back.
        let w = look_is (node (nfa_of a) q) back.0 back.1 in
        h q w.0 back.0 w.1 (comes_back q w.0 back.0 w.1 back.2)),
  )

-- If ranges take a byte, they lead it to one of their targets.
takes_next : (ranges : List Range) (u r : ℕ) → takes_in ranges u ≡ Some r → In r (nexts ranges)
takes_next [] u r e = absurd (none_some e)
takes_next (x ∷ xs) u r e = go (within x.lo x.hi u) e (takes_next xs u r)
  where
    go :
        (b : Bool) → cond b (Some x.next) (takes_in xs u) ≡ Some r → (takes_in xs u ≡ Some r → In r (nexts xs))
        → In r (x.next ∷ nexts xs)
    go true e ih = inl (sym (some_inj e))
    go false e ih = inr (ih e)

takes_target : (x : Node) (u r : ℕ) → takes_at x u ≡ Some r → In r (byte_targets x)
takes_target (Split alternates) u r e = absurd (none_some e)
takes_target (Assert look next) u r e = absurd (none_some e)
takes_target (Read ranges) u r e = takes_next ranges u r e
takes_target (Accept p) u r e = absurd (none_some e)

within_low : (lo hi : ℕ) → leb lo hi ≡ true → within lo hi lo ≡ true
within_low lo hi h = ap (λ b. b && leb lo hi) (le-leb lo lo (omega arith)) ∙ h

within_past : (lo hi u : ℕ) → hi + 1 ≤ u → within lo hi u ≡ false
within_past lo hi u l = grind (arith, common_steps)

-- Each target of ordered ranges is reached on a byte of its range.
next_takes :
    (low : ℕ) (ts : List Transition) (r : ℕ) → ordered_from low ts ≡ true → In r (nexts (ranges_of ts))
    → (u : ℕ) × (low ≤ u) × (takes_in (ranges_of ts) u ≡ Some r)
next_takes low [] r o i = absurd i
next_takes low (t ∷ ts) r o (inl e) =
    let outer = and_parts (leb low t.lo && leb t.lo t.hi) (ordered_from (t.hi + 1) ts) o in
    let inner = and_parts (leb low t.lo) (leb t.lo t.hi) outer.0 in (
      t.lo,
      leb-true low t.lo inner.0,
      ap (λ b. cond b (Some t.next) (takes_in (ranges_of ts) t.lo)) (within_low t.lo t.hi inner.1)
          ∙ ap (λ z. Some z) (sym e),
    )
next_takes low (t ∷ ts) r o (inr i) =
    let outer = and_parts (leb low t.lo && leb t.lo t.hi) (ordered_from (t.hi + 1) ts) o in
    let inner = and_parts (leb low t.lo) (leb t.lo t.hi) outer.0 in
    let w = next_takes (t.hi + 1) ts r outer.1 i in
    let a : low ≤ t.lo = leb-true low t.lo inner.0 in
    let b : t.lo ≤ t.hi = leb-true t.lo t.hi inner.1 in
    let c : t.hi + 1 ≤ w.0 = w.1 in (
      w.0,
      omega arith,
      ap (λ b. cond b (Some t.next) (takes_in (ranges_of ts) w.0)) (within_past t.lo t.hi w.0 c) ∙ w.2,
    )

within_other : (k u : ℕ) → k + 1 ≤ u → within k k u ≡ false
within_other k u l = within_past k k u l

dense_takes_next :
    (k : ℕ) (xs : List ℕ) (r : ℕ) → In r (nexts (dense_from k xs)) → (u : ℕ) × (k ≤ u)
    × (takes_in (dense_from k xs) u ≡ Some r)
dense_takes_next k [] r i = absurd i
dense_takes_next k (zero ∷ xs) r i =
    let w = dense_takes_next (suc k) xs r i in
    let c : suc k ≤ w.0 = w.1 in
    (w.0, omega arith, w.2)
dense_takes_next k (suc m ∷ xs) r (inl e) = (
  k,
  omega arith,
  ap (λ b. cond b (Some (suc m)) (takes_in (dense_from (suc k) xs) k)) (within_low k k (le-leb k k (omega arith)))
      ∙ ap (λ z. Some z) (sym e),
)
dense_takes_next k (suc m ∷ xs) r (inr i) =
    let w = dense_takes_next (suc k) xs r i in
    let c : suc k ≤ w.0 = w.1 in (
      w.0,
      omega arith,
      ap (λ b. cond b (Some (suc m)) (takes_in (dense_from (suc k) xs) w.0)) (within_other k w.0 (omega arith)) ∙ w.2,
    )

state_takes :
    (s : State) (r : ℕ) → state_ordered s ≡ true → In r (byte_targets (node_of s)) → (u : ℕ)
    × (takes_at (node_of s) u ≡ Some r)
state_takes (is.ByteRange lo hi next) r o (inl e) =
    (lo, ap (λ b. cond b (Some next) None) (within_low lo hi o) ∙ ap (λ z. Some z) (sym e))
state_takes (is.ByteRange lo hi next) r o (inr i) = absurd i
state_takes (is.Sparse ts) r o i = let w = next_takes 0 ts.items r o i in (w.0, w.2)
state_takes (is.Dense targets) r o i = let w = dense_takes_next 0 targets.value r i in (w.0, w.2)
state_takes (is.Look look next) r o i = absurd i
state_takes (is.Union alternates) r o i = absurd i
state_takes (is.BinaryUnion alt1 alt2) r o i = absurd i
state_takes (is.Capture next pattern index slot) r o i = absurd i
state_takes is.Fail r o i = absurd i
state_takes (is.Match pattern) r o i = absurd i

pub node_takes :
    (states : List State) (q r : ℕ) → states_ordered states ≡ true → In r (byte_targets (node_in states q))
    → (u : ℕ) × (takes_at (node_in states q) u ≡ Some r)
node_takes [] q r o i = absurd i
node_takes (x ∷ xs) zero r o i = state_takes x r (and_parts (state_ordered x) (states_ordered xs) o).0 i
node_takes (x ∷ xs) (suc q) r o i = node_takes xs q r (and_parts (state_ordered x) (states_ordered xs) o).1 i

module _ (a : Automaton) (ordered : states_ordered a.states ≡ true) where
  edge_from : (q r : ℕ) → In r (targets_of Every a.states q) → HasEdge (nfa_of a) q r
  edge_from q r i = go (in_either r (children (nfa_of a) all_true q) (byte_targets (node_in a.states q)) i)
    where
      go : In r (children (nfa_of a) all_true q) ⊎ In r (byte_targets (node_in a.states q)) → HasEdge (nfa_of a) q r
      go (inl j) = let h = hop_from a q r j in FreeEdge h.0 h.1
      go (inr j) = let h = node_takes a.states q r ordered j in ByteEdge h.0 h.1

  edge_to : (q r : ℕ) → HasEdge (nfa_of a) q r → In r (targets_of Every a.states q)
  edge_to q r (FreeEdge e h) =
      in_left r (children (nfa_of a) all_true q) (byte_targets (node_in a.states q)) (hop_to a q e r h)
  edge_to q r (ByteEdge u h) =
      in_right r (children (nfa_of a) all_true q) (byte_targets (node_in a.states q))
      (takes_target (node_in a.states q) u r h)

  road_from : (q : ℕ) (way : List ℕ) (z : ℕ) → Route (targets_of Every a.states) q way z → Road (nfa_of a) q way z
  road_from q [] z w = w
  road_from q (r ∷ way) z w = (edge_from q r w.0, road_from r way z w.1)

  road_to : (q : ℕ) (way : List ℕ) (z : ℕ) → Road (nfa_of a) q way z → Route (targets_of Every a.states) q way z
  road_to q [] z w = w
  road_to q (r ∷ way) z w = (edge_to q r w.0, road_to r way z w.1)

  pub reach_from : (q z : ℕ) → IsReached Every a.states (q ∷ []) z → Reaches (nfa_of a) q z
  reach_from q z h = go h.2 (road_from h.0 h.1 z h.3)
    where
      go : In h.0 (q ∷ []) → Road (nfa_of a) h.0 h.1 z → Reaches (nfa_of a) q z
      go (inl e) w = (h.1, subst (λ v. Road (nfa_of a) v h.1 z) e w)
      go (inr i) w = absurd i

  pub reach_to : (q z : ℕ) → Reaches (nfa_of a) q z → IsReached Every a.states (q ∷ []) z
  reach_to q z h = (q, h.0, inl refl, road_to q h.0 z h.1)
