-- A union that first tries the anchored start and then any byte.
use Rattle.std.proofs.Common.{ℕ, zero, suc, ◌≡◌, ◌<◌, ◌↔◌, Bool, true, false, not, cond, eqb, List, [], ◌∷◌, length}
use Rattle.std.proofs.Common.{get_or, Some, None, inl, inr, refl, sym, ap, ap₂, ◌∙◌, subst, true≢false, arith}
use Rattle.std.specs.Prelude.{IsTrue}
use Rattle.std.proofs.lemmas.Bool.{eqb-true, eq-eqb}
use Rattle.automata_base.specs.declared.nfa.thompson.state.State.{State}
use Rattle.automata_base.specs.declared.nfa.thompson.reach.Edges.TheVariants.{Every}
use Rattle.automata_base.proofs.Paths.Checks.{node_below}
use Rattle.automata_base.specs.Nfas.Engines.{LazyLoop, SharedStart, any_byte}
use Rattle.automata_base.specs.Nfas.Getters.{SkipsLazily}
use Rattle.automata_base.specs.Nfas.Nfa.{Node, Range, Split, Assert, Read, Accept, node}
use Rattle.automata_base.specs.Nfas.Nodes.{Automaton, dense_from, nfa_of, node_of, range_of, ranges_of}
use Rattle.automata_base.specs.declared.nfa.thompson.state.Transition.{Transition}
use Rattle.automata_base.specs.Retraced.Reach.{second_of, second_at, IsReached}
use Rattle.automata_base.specs.Nfas.Errors.{states_below, states_ordered}
use Rattle.automata_base.proofs.Powersets.ListTests.{node_fits}
use Rattle.automata_base.proofs.Powersets.Walking.{node_at}
use Rattle.automata_base.proofs.Paths.Checked.{below_in}
use Rattle.automata_base.proofs.Paths.Orders.{some_inj, none_some}
use Rattle.automata_base.proofs.Nfas.Reach.Adding.{state_at_below}
use Rattle.automata_base.proofs.Nfas.Reach.Led.{reach_from, reach_to}

second_pair : (a b first skip : ℕ) → cond (eqb a first) (Some b) None ≡ Some skip → (a ≡ first) × (b ≡ skip)
second_pair a b first skip e = go (eqb a first) refl e
  where
    go : (t : Bool) → eqb a first ≡ t → cond t (Some b) None ≡ Some skip → (a ≡ first) × (b ≡ skip)
    go true t e = (eqb-true a first t, some_inj e)
    go false t e = absurd (none_some e)

second_list : (xs : List ℕ) (first skip : ℕ) → second_of xs first ≡ Some skip → xs ≡ first ∷ skip ∷ []
second_list [] first skip e = absurd (none_some e)
second_list (a ∷ []) first skip e = absurd (none_some e)
second_list (a ∷ b ∷ []) first skip e = let w = second_pair a b first skip e in ap₂ (λ x y. x ∷ y ∷ []) w.0 w.1
second_list (a ∷ b ∷ c ∷ rest) first skip e = absurd (none_some e)

pub second_is : (x : Node) (first skip : ℕ) → second_at x first ≡ Some skip → x ≡ Split (first ∷ skip ∷ [])
second_is (Split alternates) first skip e = ap (λ z. Split z) (second_list alternates first skip e)
second_is (Assert look next) first skip e = absurd (none_some e)
second_is (Read ranges) first skip e = absurd (none_some e)
second_is (Accept p) first skip e = absurd (none_some e)

second_has : (x : Node) (first skip : ℕ) → x ≡ Split (first ∷ skip ∷ []) → second_at x first ≡ Some skip
second_has x first skip e =
    ap (λ z. second_at z first) e ∙ ap (λ b. cond b (Some skip) None) (eq-eqb first first refl)

-- The second alternate of a state in range is in range.
pub second_below :
    (states : List State) (at : ℕ) (s : State) (first skip : ℕ)
    → states_below (length states) states ≡ true → at < length states → s ≡ get_or states at s
    → second_at (node_of s) first ≡ Some skip → skip < length states
second_below states at s first skip h l e t =
    below_in (length states) (first ∷ skip ∷ []) skip
    (subst (λ z. node_below (length states) z ≡ true) (second_is (node_of s) first skip t)
    (node_fits (length states) s (state_at_below (length states) states at s h l e)))
    (inr (inl refl))

-- A sparse state with one range, or with another number of them.
pub one_range :
    (ts : List Transition) (t : Transition) → length ts ≡ 1 → t ≡ get_or ts 0 t → ranges_of ts ≡ range_of t ∷ []
one_range [] t l e = absurd (omega (arith, l))
one_range (x ∷ []) t l e = ap (λ z. range_of z ∷ []) (sym e)
one_range (x ∷ y ∷ rest) t l e = absurd (omega (arith, l))

pub other_ranges : (ts : List Transition) (target : ℕ) → (length ts ≡ 1 → ⊥) → Read (ranges_of ts) ≡ any_byte target → ⊥
other_ranges [] target l e = cc
other_ranges (x ∷ []) target l e = l refl
other_ranges (x ∷ y ∷ rest) target l e = cc

-- Each range of a dense state has one byte.
dense_single : (u : ℕ) (xs : List ℕ) (r : Range) (rest : List Range) → dense_from u xs ≡ r ∷ rest → r.lo ≡ r.hi
dense_single u [] r rest e = absurd (no e)
  where
    no : {r : Range} {rest : List Range} → [] ≡ r ∷ rest → ⊥
    no e = cc
dense_single u (zero ∷ xs) r rest e = dense_single (suc u) xs r rest e
dense_single u (suc k ∷ xs) r rest e = ap (λ (z : Range). z.lo) (sym (first e)) ∙ ap (λ (z : Range). z.hi) (first e)
  where
    first : {r s : Range} {rs ss : List Range} → r ∷ rs ≡ s ∷ ss → r ≡ s
    first e = cc

pub dense_partial : (xs : List ℕ) (target : ℕ) → Read (dense_from 0 xs) ≡ any_byte target → ⊥
dense_partial xs target e = let k : ◌≡◌ {A = ℕ} 0 255 = dense_single 0 xs _ _ (ranges e) in omega (arith, k)
  where
    ranges : {rs ss : List Range} → Read rs ≡ Read ss → rs ≡ ss
    ranges e = cc

-- What the unanchored start and its second alternate are, and what the tests of them mean.
module _ (a : Automaton) (at : ℕ) (s : State) (other : a.start_unanchored ≡ a.start_anchored → ⊥)
    (same : at ≡ a.start_unanchored)
    (within : at < length a.states) (read : s ≡ get_or a.states at s) where
  start_is : node (nfa_of a) a.start_unanchored ≡ node_of s
  start_is = ap (node (nfa_of a)) (sym same) ∙ node_at a.states at s s within read

  pub skips_no_union : second_at (node_of s) a.start_anchored ≡ None → IsTrue false ↔ SkipsLazily a
  skips_no_union none = (λ t. absurd (true≢false (sym t)), from)
    where
      from : SkipsLazily a → IsTrue false
      from (SharedStart e) = absurd (other e)
      from (LazyLoop z h) =
          absurd (none_some (sym none ∙ second_has (node_of s) a.start_anchored z (sym start_is ∙ h.0)))

  module _ (skip spot : ℕ) (r : State) (second : second_at (node_of s) a.start_anchored ≡ Some skip)
      (here : spot ≡ skip) (inside : spot < length a.states) (next : r ≡ get_or a.states spot r) where
    second_one : (skip' : ℕ) → node (nfa_of a) a.start_unanchored ≡ Split (a.start_anchored ∷ skip' ∷ []) → skip ≡ skip'
    second_one skip' e = some_inj (sym second ∙ second_has (node_of s) a.start_anchored skip' (sym start_is ∙ e))

    skip_is : node (nfa_of a) skip ≡ node_of r
    skip_is = ap (node (nfa_of a)) (sym here) ∙ node_at a.states spot r r inside next

    pub skips_no_range : (node_of r ≡ any_byte a.start_unanchored → ⊥) → IsTrue false ↔ SkipsLazily a
    skips_no_range fails = (λ t. absurd (true≢false (sym t)), from)
      where
        from : SkipsLazily a → IsTrue false
        from (SharedStart e) = absurd (other e)
        from (LazyLoop z h) = absurd (fails (sym skip_is ∙ (ap (node (nfa_of a)) (second_one z h.0) ∙ h.1)))

    pub skips_unless :
        (leads : Bool) → states_ordered a.states ≡ true → node_of r ≡ any_byte a.start_unanchored
        → IsTrue leads ↔ IsReached Every a.states (a.start_anchored ∷ []) a.start_unanchored
        → IsTrue (not leads) ↔ SkipsLazily a
    skips_unless true ordered passes found = (λ t. absurd (true≢false (sym t)), from)
      where
        from : SkipsLazily a → IsTrue false
        from (SharedStart e) = absurd (other e)
        from (LazyLoop z h) = absurd (h.2 (reach_from a ordered a.start_anchored a.start_unanchored (found.0 refl)))
    skips_unless false ordered passes found = (
      λ _. LazyLoop skip (
        start_is ∙ second_is (node_of s) a.start_anchored skip second,
        skip_is ∙ passes,
        λ h. true≢false (sym (found.1 (reach_to a ordered a.start_anchored a.start_unanchored h))),
      ),
      λ _. refl,
    )
