-- The NFA that is made of the copies is the reversed NFA.
use Rattle.std.proofs.Common.{ℕ, ◌≡◌, ◌<◌, ◌≤◌, ◌+◌, ◌-◌, ◌↔◌, ◌⊎◌, Bool, true, false, not, ltb, List, [], ◌∷◌, ◌++◌}
use Rattle.std.proofs.Common.{zero, suc, length, length-append, get_or, map, Vec, Some, inl, inr, refl, sym}
use Rattle.std.proofs.Common.{ap, ◌∙◌, subst, arith}
use Rattle.std.proofs.lemmas.Bool.{and_parts, ltb-true, ltb-false}
use Rattle.std.specs.declared.alloc.Global.{Global}
use Rattle.automata_base.specs.declared.nfa.thompson.state.State.{State}
use Rattle.automata_base.specs.declared.nfa.thompson.state.State.TheVariants as is
use Rattle.automata_base.specs.declared.nfa.thompson.reach.Edges.TheVariants.{Every}
use Rattle.automata_base.specs.Nfas.Accepted.{IsChecked}
use Rattle.automata_base.specs.Lists.{In, Distinct}
use Rattle.std.specs.Prelude.{slice_get}
use Rattle.automata_transform.specs.Nfas.Mirrors.{flip, Label, Free, Asks, Reads, HasArcAt, HasArc, IsAsking, IsUnion}
use Rattle.automata_transform.specs.Nfas.Mirrors.{IsEdgeTo, TurnsArc, EndsPath, JoinsEdges, IsOnlyEdge, IsAnyLabel}
use Rattle.automata_transform.specs.Nfas.Mirrors.{IsReversedArc, IsLed, LeadsTo, IsUseful, IsReversedAt, IsEntry}
use Rattle.automata_transform.specs.Nfas.Mirrors.{IsPart, IsOfPart, IsEntryOf, IsPlaceOf, IsAlternateOf, IsMirror}
use Rattle.automata_transform.specs.Nfas.Mirrors.{IsOfMirror, IsRootOf, IsInPart, IsReversed}
use Rattle.automata_base.specs.Nfas.Nfa.{Nfa, Node, Split, Accept, node, node_or_fail, accepts, accepts_at}
use Rattle.automata_base.specs.Nfas.Nodes.{Automaton, nfa_of, node_of}
use Rattle.automata_base.specs.Retraced.Reach.{IsReached, Route, targets_at, targets_of}
use Rattle.automata_base.specs.Nfas.Errors.{state_below, states_below}
use Rattle.automata_transform.specs.Retraced.DenseRuns.{ranged, ranged_nodes, ranged_nfa}
use Rattle.automata_transform.specs.Retraced.ReversedEdges.{Turns, copied, copy_of, matches_in}
use Rattle.automata_base.specs.Retraced.ReversedEdges.{no_lists, place_in, list_at}
use Rattle.automata_transform.specs.Retraced.ReversedEdges.{turn_by, turn_states, IsHead, IsUnionOfAll, IsOnlyHelper}
use Rattle.automata_transform.specs.Retraced.ReversedEdges.{AreHeads, IsCopied}
use Rattle.automata_transform.specs.Retraced.ReversedEdges.{HaveCopies, part_at, AreReversed}
use Rattle.automata_base.proofs.Answers.Loops.{nth_some}
use Rattle.automata_base.proofs.Nfas.Reach.InRange.{node_is}
use Rattle.automata_transform.proofs.Nfas.Mirrors.Copies.{copied_more, nth_last, reached_closed, reached_roots}
use Rattle.automata_transform.proofs.Nfas.Mirrors.Graphs.{InAt, Stand, IsGraph, IsHelper, Of, at_list, list_in}
use Rattle.automata_transform.proofs.Nfas.Mirrors.Graphs.{graph_none}
use Rattle.automata_transform.proofs.Nfas.Mirrors.Graphs.{graph_states, graph_report}
use Rattle.automata_transform.proofs.Nfas.Mirrors.Helpers.{IsHelperState, copied_same}
use Rattle.automata_transform.proofs.Nfas.Mirrors.Leads.{kept_back, kept_match, leads_here, leads_on}
use Rattle.automata_transform.proofs.Nfas.Mirrors.Members.{ranged_is, ranged_length, arc_is_target, accept_same, in_map}
use Rattle.automata_transform.proofs.Nfas.Mirrors.Members.{of_map}
use Rattle.automata_transform.proofs.Nfas.Mirrors.Members.{nth_place, place_same, place_nth, map_distinct}
use Rattle.automata_transform.proofs.Nfas.Mirrors.Members.{target_has_arc}
use Rattle.automata_transform.proofs.Nfas.Mirrors.Members.{matches_are, are_matches, matches_distinct, head_at}
use Rattle.automata_transform.proofs.Nfas.Mirrors.Members.{heads_length}
use Rattle.automata_transform.proofs.Nfas.Mirrors.Members.{helper_at, same_helper}
use Rattle.automata_transform.proofs.Nfas.Mirrors.Sizes.{ordered_at}
use Rattle.automata_transform.proofs.Nfas.Mirrors.Singles.{IsOnce, turned_once}
use Rattle.automata_transform.proofs.Nfas.Mirrors.Turned.{arc_inside, accept_inside}
use Rattle.automata_base.proofs.Paths.Sets.{nth_in}
use Rattle.automata_base.proofs.Paths.Walks.{in_left, in_either}

in_at_inside : (lists : List (List ℕ)) (k x : ℕ) → InAt lists k x → k < length lists
in_at_inside [] k x i = absurd i
in_at_inside (xs ∷ rest) zero x i = omega arith
in_at_inside (xs ∷ rest) (suc k) x i = let l = in_at_inside rest k x i in omega (arith, l)

-- An NFA, the states that its anchored start reaches, and their reversed edges.
module _ (a : Automaton) (turned : List State) (reached : List ℕ) (m : Nfa)
    (checked : IsChecked a)
    (reach : (q : ℕ) → In q reached ↔ IsReached Every a.states (a.start_anchored ∷ []) q) (distinct : Distinct reached)
    (t : Turns) (heads : List State) (is_turned : turned ≡ heads ++ t.helpers)
    (are : AreHeads (length t.lists) t.helpers t.lists heads)
    (graph : IsGraph (Of (λ s l k. ⊥) a.states reached) (λ k. k ≡ a.start_anchored) (length a.states) t)
    (once : IsOnce (length a.states) t) where
  arc_is : (s : ℕ) (l : Label) (k : ℕ) → HasArc (ranged_nfa a) s l k → HasArcAt (ranged (get_or a.states s is.Fail)) l k
  arc_is s l k h = subst (λ v. HasArcAt v l k) (ranged_is a.states s) h

  is_arc : (s : ℕ) (l : Label) (k : ℕ) → HasArcAt (ranged (get_or a.states s is.Fail)) l k → HasArc (ranged_nfa a) s l k
  is_arc s l k h = subst (λ v. HasArcAt v l k) (sym (ranged_is a.states s)) h

  accept_is : (q p : ℕ) → accepts (ranged_nfa a) q ≡ Some p → accepts_at (node_of (get_or a.states q is.Fail)) ≡ Some p
  accept_is q p h = sym (accept_same (get_or a.states q is.Fail)) ∙ (ap accepts_at (sym (ranged_is a.states q)) ∙ h)

  is_accept : (q p : ℕ) → accepts_at (node_of (get_or a.states q is.Fail)) ≡ Some p → accepts (ranged_nfa a) q ≡ Some p
  is_accept q p h = ap accepts_at (ranged_is a.states q) ∙ (accept_same (get_or a.states q is.Fail) ∙ h)

  goes_on : (s r : ℕ) (l : Label) → In s reached → HasArc (ranged_nfa a) s l r → In r reached
  goes_on s r l i h =
      reached_closed Every a.states (a.start_anchored ∷ []) reached reach s r i
      (arc_is_target a.states s l r h)

  size_is : length (ranged_nodes a.states) ≡ length a.states
  size_is = ranged_length a.states

  whole : length t.lists ≡ length a.states
  whole = graph.whole

  -- A state is reached exactly if edges lead to it from the first state.
  led_reached : (q : ℕ) (way : List ℕ) (z : ℕ) → In q reached → IsLed (ranged_nfa a) q way z → In z reached
  led_reached q [] z i w = subst (λ v. In v reached) w i
  led_reached q (r ∷ way) z i w = led_reached r way z (goes_on q r w.0.0 i w.0.1) w.1

  is_reached : (q : ℕ) → LeadsTo (ranged_nfa a) a.start_anchored q → In q reached
  is_reached q w =
      led_reached a.start_anchored w.0 q
      (reached_roots Every a.states (a.start_anchored ∷ []) reached reach a.start_anchored (inl refl)) w.1

  route_leads :
      (q : ℕ) (way : List ℕ) (z : ℕ) → LeadsTo (ranged_nfa a) a.start_anchored q
      → Route (targets_of Every a.states) q way z
      → LeadsTo (ranged_nfa a) a.start_anchored z
  route_leads q [] z k w = subst (λ v. LeadsTo (ranged_nfa a) a.start_anchored v) w k
  route_leads q (r ∷ way) z k w =
      let h = target_has_arc a.states q r w.0 in
      route_leads r way z (leads_on (ranged_nfa a) a.start_anchored q r h.0 k h.1) w.1

  leads : (q : ℕ) → In q reached → LeadsTo (ranged_nfa a) a.start_anchored q
  leads q i =
      let h = (reach q).0 i in
      route_leads h.0 h.1 q
      (subst (λ v. LeadsTo (ranged_nfa a) a.start_anchored v) (sym (root h.0 h.2))
      (leads_here (ranged_nfa a) a.start_anchored)) h.3
    where
      root : (r : ℕ) → In r (a.start_anchored ∷ []) → r ≡ a.start_anchored
      root r (inl e) = e
      root r (inr b) = absurd b

  -- The part of one pattern.
  module _ (p entry base : ℕ) (items : List ℕ)
      (made : IsCopied m.nodes turned (matches_in a.states p reached) p entry base items) where
    closed :
        (x q : ℕ) (s : State) → In x items → get_or turned x is.Fail ≡ s → In q (targets_at Every (node_of s))
        → In q items
    closed x q s i e k =
        reached_closed Every turned (matches_in a.states p reached) items made.reached x q i
        (subst (λ v. In q (targets_at Every v)) (sym (node_is turned x ∙ ap node_of e)) k)

    copy_is :
        (x : ℕ) (s : State) → In x items → get_or turned x is.Fail ≡ s
        → node m (copy_of base items x) ≡ copied (copy_of base items) p s
    copy_is x s i e =
        ap node_or_fail (made.each (place_in items x) x (nth_place items x i)) ∙ ap (copied (copy_of base items) p) e

    helper_is : (x : ℕ) (h : State) → IsHelper t x h → get_or turned x is.Fail ≡ h
    helper_is x h k =
        ap (λ z. get_or z x is.Fail) is_turned
        ∙ (ap (λ z. get_or (heads ++ t.helpers) z is.Fail) k.1
        ∙ helper_at heads t.helpers (length t.lists) k.0 h (heads_length (length t.lists) t.helpers t.lists heads are)
        k.2)

    copy_same : (q r : ℕ) → In q items → In r items → copy_of base items q ≡ copy_of base items r → q ≡ r
    copy_same q r i j e = place_same items q r i j (cancel (place_in items q) (place_in items r) e)
      where
        cancel : (x y : ℕ) → base + x ≡ base + y → x ≡ y
        cancel x y e = omega (arith, e)

    -- The copy of a state that stands for an edge is the reversed edge, and the source of the edge is kept.
    edge_is :
        (y s : ℕ) (l : Label) → In y items → Stand t y l s
        → In s items × IsReversedArc m (copy_of base items y) l (copy_of base items s)
    edge_is y s Free i h = (subst (λ v. In v items) h i, ap (copy_of base items) h)
    edge_is y s (Asks look) i h =
        let e = helper_is y (is.Look (flip look) s) h in
        (closed y s (is.Look (flip look) s) i e (inl refl), copy_is y (is.Look (flip look) s) i e)
    edge_is y s (Reads lo hi) i h =
        let e = helper_is y (is.ByteRange lo hi s) h in
        (closed y s (is.ByteRange lo hi s) i e (inl refl), copy_is y (is.ByteRange lo hi s) i e)

    abbrev Kept : ℕ → Type 0
    Kept q = IsUseful (ranged_nfa a) a.start_anchored p q

    inside : (s : ℕ) (l : Label) (k : ℕ) → HasArc (ranged_nfa a) s l k → s < length a.states
    inside s l k h = let w = arc_inside (ranged_nfa a) s l k h in omega (arith, w, size_is)

    kept_inside : (q : ℕ) → Kept q → q < length a.states
    kept_inside q k = go k.1.1.0 k.1.1.1
      where
        go : (way : List ℕ) → IsLed (ranged_nfa a) q way k.1.0 → q < length a.states
        go [] w =
            let i = accept_inside (ranged_nfa a) q p (ap (accepts (ranged_nfa a)) w ∙ k.1.2) in
            omega (arith, i, size_is)
        go (r ∷ way) w = inside q w.0.0 r w.0.1

    -- The source of an edge to a kept state is kept.
    source_kept : (s : ℕ) (l : Label) (k : ℕ) → Of (λ s l k. ⊥) a.states reached s l k → Kept k → Kept s
    source_kept s l k (inl b) kk = absurd b
    source_kept s l k (inr b) kk =
        kept_back (ranged_nfa a) a.start_anchored p s k l (leads s b.0) (is_arc s l k b.1) kk

    source_inside : (s : ℕ) (l : Label) (k : ℕ) → Of (λ s l k. ⊥) a.states reached s l k → s < length a.states
    source_inside s l k (inl b) = absurd b
    source_inside s l k (inr b) = inside s l k (is_arc s l k b.1)

    -- An ID determines its helper.
    helper_same :
        (x j : ℕ) (g h : State) → x ≡ length t.lists + j → slice_get t.helpers j ≡ Some g → IsHelper t x h → g ≡ h
    helper_same x j g h e i w =
        same_helper t.helpers j g h i (ap (λ z. slice_get t.helpers z) (let f = w.1 in omega (arith, e, f)) ∙ w.2)

    abbrev Turned : ℕ → ℕ → Type 0
    Turned k x =
        ((s : ℕ) × (l : Label) × Of (λ s l k. ⊥) a.states reached s l k × Stand t x l s)
        ⊎ ((k ≡ a.start_anchored) × IsHelper t x (is.Match 0))

    helper_plain :
        (k x j : ℕ) (g : State) → Turned k x → x ≡ length t.lists + j → slice_get t.helpers j ≡ Some g → IsHelperState g
    helper_plain k x j g (inl (s, Free, b, h)) e i =
        let l = source_inside s Free k b in absurd (omega (arith, l, h, e, whole))
    helper_plain k x j g (inl (s, Asks look, b, h)) e i =
        subst IsHelperState (sym (helper_same x j g (is.Look (flip look) s) e i h)) tt
    helper_plain k x j g (inl (s, Reads lo hi, b, h)) e i =
        subst IsHelperState (sym (helper_same x j g (is.ByteRange lo hi s) e i h)) tt
    helper_plain k x j g (inr h) e i = subst IsHelperState (sym (helper_same x j g (is.Match 0) e i h.1)) refl

    -- A helper of a kept state leads to a kept state.
    helper_goes :
        (k x j : ℕ) (g : State) → Kept k → Turned k x → x ≡ length t.lists + j → slice_get t.helpers j ≡ Some g
        → (r : ℕ) → In r (targets_at Every (node_of g)) → Kept r
    helper_goes k x j g kk (inl (s, Free, b, h)) e i r m =
        let l = source_inside s Free k b in absurd (omega (arith, l, h, e, whole))
    helper_goes k x j g kk (inl (s, Asks look, b, h)) e i r m =
        one (subst (λ v. In r (targets_at Every (node_of v))) (helper_same x j g (is.Look (flip look) s) e i h) m)
      where
        one : In r (s ∷ []) → Kept r
        one (inl f) = subst Kept (sym f) (source_kept s (Asks look) k b kk)
        one (inr z) = absurd z
    helper_goes k x j g kk (inl (s, Reads lo hi, b, h)) e i r m =
        one (subst (λ v. In r (targets_at Every (node_of v))) (helper_same x j g (is.ByteRange lo hi s) e i h) m)
      where
        one : In r (s ∷ []) → Kept r
        one (inl f) = subst Kept (sym f) (source_kept s (Reads lo hi) k b kk)
        one (inr z) = absurd z
    helper_goes k x j g kk (inr h) e i r m =
        absurd (subst (λ v. In r (targets_at Every (node_of v))) (helper_same x j g (is.Match 0) e i h.1) m)

    -- Each state's reversed state is made from its list of alternates.
    head_of :
        (k : ℕ) → k < length a.states → IsHead (length t.lists) t.helpers (list_at t.lists k) (get_or turned k is.Fail)
    head_of k l =
        subst (IsHead (length t.lists) t.helpers (list_at t.lists k)) (sym (ap (λ z. get_or z k is.Fail) is_turned))
        (head_at (length t.lists) t.helpers t.lists heads t.helpers k are (omega (arith, l, whole)))

    sole : (k j : ℕ) → list_at t.lists k ≡ (length t.lists + j) ∷ [] → InAt t.lists k (length t.lists + j)
    sole k j same =
        list_in t.lists k (length t.lists + j) (subst (λ z. In (length t.lists + j) z) (sym same) (inl refl))

    -- A member is a kept state, or a helper that is an alternate of one.
    abbrev Helps : ℕ → Type 0
    Helps x =
        (k : ℕ) × Kept k × In k items × InAt t.lists k x
        × ((v : Vec ℕ Global) × (get_or turned k is.Fail ≡ is.Union v) × In x v.items)
        × ((h : State) × IsHelper t x h)

    abbrev Good : ℕ → Type 0
    Good x = Kept x ⊎ Helps x

    good_step : (x r : ℕ) → In x items → Good x → In r (targets_at Every (node_of (get_or turned x is.Fail))) → Good r
    good_step x r i (inl kx) m = go (head_of x (kept_inside x kx))
      where
        plain : (xs : List ℕ) → In r (xs ++ []) → In r xs
        plain xs j = from (in_either r xs [] j)
          where
            from : In r xs ⊎ In r [] → In r xs
            from (inl j) = j
            from (inr b) = absurd b

        by :
            (v : Vec ℕ Global) → get_or turned x is.Fail ≡ is.Union v → In r v.items → InAt t.lists x r → Turned x r
            → Good r
        by v e j w (inl (s, Free, b, h)) = inl (subst Kept (sym h) (source_kept s Free x b kx))
        by v e j w (inl (s, Asks look, b, h)) = inr (x, kx, i, w, (v, e, j), (is.Look (flip look) s, h))
        by v e j w (inl (s, Reads lo hi, b, h)) = inr (x, kx, i, w, (v, e, j), (is.ByteRange lo hi s, h))
        by v e j w (inr h) = inr (x, kx, i, w, (v, e, j), (is.Match 0, h.1))

        go : IsHead (length t.lists) t.helpers (list_at t.lists x) (get_or turned x is.Fail) → Good r
        go (IsUnionOfAll v e f) =
            let j = plain v.items (subst (λ z. In r (targets_at Every (node_of z))) e m) in
            let w = list_in t.lists x r (subst (λ z. In r z) f j) in
            by v e j w (graph.sound x r w)
        go (IsOnlyHelper j e f) =
            inl (helper_goes x (length t.lists + j) j (get_or turned x is.Fail) kx
            (graph.sound x (length t.lists + j) (sole x j e)) refl f r m)
    good_step x r i (inr (k, kk, ik, w, v, (h, is_h))) m =
        inl (helper_goes k x is_h.0 h kk (graph.sound k x w) is_h.1 is_h.2 r
        (subst (λ z. In r (targets_at Every (node_of z))) (helper_is x h is_h) m))

    all_good : (q : ℕ) (way : List ℕ) (z : ℕ) → In q items → Good q → Route (targets_of Every turned) q way z → Good z
    all_good q [] z i g w = subst Good w g
    all_good q (r ∷ way) z i g w =
        let m = subst (λ v. In r (targets_at Every v)) (node_is turned q) w.0 in
        all_good r way z (closed q r (get_or turned q is.Fail) i refl m) (good_step q r i g m) w.1

    good : (x : ℕ) → In x items → Good x
    good x i =
        let h = (made.reached x).0 i in
        let r = matches_are a.states p reached h.0 h.2 in
        all_good h.0 h.1 x (reached_roots Every turned (matches_in a.states p reached) items made.reached h.0 h.2)
        (inl (kept_match (ranged_nfa a) a.start_anchored p h.0 (leads h.0 r.0) (is_accept h.0 p r.1))) h.3

    -- The source of an edge to a member is a member.
    source_in : (s : ℕ) (l : Label) (k : ℕ) → In s reached → HasArc (ranged_nfa a) s l k → In k items → In s items
    source_in s l k i h ik = go (head_of k (omega (arith, in_at_inside t.lists k x.0 x.1, whole)))
      where
        x : (x : ℕ) × InAt t.lists k x × Stand t x l s
        x = graph.arcs s k l (inr (i, arc_is s l k h))

        only : (j y : ℕ) → list_at t.lists k ≡ (length t.lists + j) ∷ [] → InAt t.lists k y → y ≡ length t.lists + j
        only j y same m = first (subst (λ z. In y z) same (at_list t.lists k y m))
          where
            first : In y ((length t.lists + j) ∷ []) → y ≡ length t.lists + j
            first (inl e) = e
            first (inr b) = absurd b

        by :
            (l : Label) (j : ℕ) → s < length a.states → x.0 ≡ length t.lists + j
            → slice_get t.helpers j ≡ Some (get_or turned k is.Fail)
            → Stand t x.0 l s → In s items
        by Free j small e f w = absurd (omega (arith, small, e, w, whole))
        by (Asks look) j small e f w =
            closed k s (is.Look (flip look) s) ik
            (helper_same x.0 j (get_or turned k is.Fail) (is.Look (flip look) s) e f w) (inl refl)
        by (Reads lo hi) j small e f w =
            closed k s (is.ByteRange lo hi s) ik
            (helper_same x.0 j (get_or turned k is.Fail) (is.ByteRange lo hi s) e f w) (inl refl)

        go : IsHead (length t.lists) t.helpers (list_at t.lists k) (get_or turned k is.Fail) → In s items
        go (IsUnionOfAll v e f) =
            let m = subst (λ z. In x.0 z) (sym f) (at_list t.lists k x.0 x.1) in
            (edge_is x.0 s l (closed k x.0 (is.Union v) ik e (in_left x.0 v.items [] m)) x.2).0
        go (IsOnlyHelper j e f) = by l j (inside s l k h) (only j x.0 e x.1) f x.2

    kept_in : (q : ℕ) → Kept q → In q items
    kept_in q k = go q k.1.1.0 k.1.0 k.0 k.1.1.1 k.1.2
      where
        go : (q : ℕ) (way : List ℕ) (z : ℕ) → LeadsTo (ranged_nfa a) a.start_anchored q → IsLed (ranged_nfa a) q way z
            → accepts (ranged_nfa a) z ≡ Some p → In q items
        go q [] z l w e =
            reached_roots Every turned (matches_in a.states p reached) items made.reached q
            (are_matches a.states p reached q (is_reached q l) (accept_is q p (ap (accepts (ranged_nfa a)) w ∙ e)))
        go q (r ∷ way) z l w e =
            source_in q w.0.0 r (is_reached q l) w.0.1
            (go r way z (leads_on (ranged_nfa a) a.start_anchored q r w.0.0 l w.0.1) w.1 e)

    abbrev At : ℕ → List ℕ → Type 0
    At k xs = IsReversedAt (ranged_nfa a) m a.start_anchored p (copy_of base items) k xs

    abbrev Edge : ℕ → ℕ → Type 0
    Edge k x = IsEdgeTo (ranged_nfa a) m a.start_anchored p (copy_of base items) IsAnyLabel k x

    -- The state is helper `j`, or its only alternate is helper `j`.
    abbrev Sole : ℕ → ℕ → Type 0
    Sole y j = (y ≡ length t.lists + j) ⊎ ((y < length a.states) × (list_at t.lists y ≡ (length t.lists + j) ∷ []))

    abbrev Form : ℕ → Type 0
    Form y =
        ((v : Vec ℕ Global) × (get_or turned y is.Fail ≡ is.Union v))
        ⊎ ((j : ℕ) × (h : State) × (slice_get t.helpers j ≡ Some h) × (get_or turned y is.Fail ≡ h) × IsHelperState h
        × Sole y j)

    form : (k y : ℕ) → InAt t.lists k y → Form y
    form k y w = go (graph.sound k y w)
      where
        by :
            y < length a.states → IsHead (length t.lists) t.helpers (list_at t.lists y) (get_or turned y is.Fail)
            → Form y
        by l (IsUnionOfAll v e f) = inl (v, e)
        by l (IsOnlyHelper j e f) =
            inr (
              j,
              get_or turned y is.Fail,
              f,
              refl,
              helper_plain y (length t.lists + j) j (get_or turned y is.Fail)
                  (graph.sound y (length t.lists + j) (sole y j e)) refl f,
              inr (l, e),
            )

        helper : (h : State) → IsHelper t y h → Form y
        helper h i =
            inr (i.0, h, i.2, helper_is y h i, helper_plain k y i.0 h (graph.sound k y w) i.1 i.2, inl i.1)

        go : Turned k y → Form y
        go (inl (s, Free, b, h)) =
            let l : y < length a.states = subst (λ v. v < length a.states) (sym h) (source_inside s Free k b) in
            by l (head_of y l)
        go (inl (s, Asks look, b, h)) = helper (is.Look (flip look) s) h
        go (inl (s, Reads lo hi, b, h)) = helper (is.ByteRange lo hi s) h
        go (inr h) = helper (is.Match 0) h.1

    -- The alternates of a state do not include both a helper and a state whose only alternate is that helper.
    helper_place :
        (k x y j : ℕ) → InAt t.lists k x → InAt t.lists k y → x ≡ length t.lists + j → y < length a.states
        → list_at t.lists y ≡ (length t.lists + j) ∷ [] → ⊥
    helper_place k x y j ix iy e small f =
        one (subst (λ z. In y z) f (at_list t.lists y y (subst (λ v. InAt t.lists v y) same iy)))
      where
        same : k ≡ y
        same =
            once.owned k y (length t.lists + j) (omega (arith, whole)) (subst (λ v. InAt t.lists k v) e ix) (sole y j f)

        one : In y ((length t.lists + j) ∷ []) → ⊥
        one (inl g) = omega (arith, g, small, whole)
        one (inr b) = b

    one_place : (k x y j : ℕ) → InAt t.lists k x → InAt t.lists k y → Sole x j → Sole y j → x ≡ y
    one_place k x y j ix iy (inl e) (inl f) = e ∙ sym f
    one_place k x y j ix iy (inl e) (inr f) = absurd (helper_place k x y j ix iy e f.0 f.1)
    one_place k x y j ix iy (inr e) (inl f) = absurd (helper_place k y x j iy ix f e.0 e.1)
    one_place k x y j ix iy (inr e) (inr f) =
        once.owned x y (length t.lists + j) (omega (arith, whole)) (sole x j e.1) (sole y j f.1)

    -- Alternates with equal copies are equal, unless the copies are unions.
    one_alternate :
        (k x y : ℕ) → InAt t.lists k x → InAt t.lists k y → In x items → In y items
        → node m (copy_of base items x) ≡ node m (copy_of base items y) → IsUnion (node m (copy_of base items x))
        ⊎ (x ≡ y)
    one_alternate k x y ix iy mx my same = go (form k x ix) (form k y iy)
      where
        union :
            (z : ℕ) → In z items → (v : Vec ℕ Global) → get_or turned z is.Fail ≡ is.Union v
            → IsUnion (node m (copy_of base items z))
        union z i v e = subst IsUnion (sym (copy_is z (is.Union v) i e)) tt

        go : Form x → Form y → IsUnion (node m (copy_of base items x)) ⊎ (x ≡ y)
        go (inl (v, e)) f = inl (union x mx v e)
        go (inr e) (inl (v, f)) = inl (subst IsUnion (sym same) (union y my v f))
        go (inr (i, g, gi, gx, gp, gs)) (inr (j, h, hj, hy, hp, hs)) =
            let alike =
            copied_same (copy_of base items) p items g h gp hp copy_same (λ r n. closed x r g mx gx n)
            (λ r n. closed y r h my hy n)
            (sym (copy_is x g mx gx) ∙ (same ∙ copy_is y h my hy)) in
            let k' : i ≡ j = once.helpers i j h (gi ∙ ap Some alike) hj in
            inr (one_place k x y j ix iy (subst (λ v. Sole x v) k' gs) hs)

    -- The case of a state that becomes a union of its alternates.
    union_at :
        (k : ℕ) → Kept k → (v : Vec ℕ Global) → get_or turned k is.Fail ≡ is.Union v → v.items ≡ list_at t.lists k
        → At k (map (copy_of base items) v.items)
    union_at k kk v union same = record {
      stands = JoinsEdges (copy_is k (is.Union v) kept union);
      sound = λ x i. sound x (of_map (copy_of base items) v.items x i);
      arcs = λ s l ks h. arcs s l (graph.arcs s k l (inr (is_reached s ks.0, arc_is s l k h)));
      reported = λ e. reported (graph.reported k e);
      distinct =
          map_distinct (copy_of base items) v.items (λ x y i j. copy_same x y (member x i) (member y j))
          (subst (λ z. Distinct z) (sym same) (once.lists k));
      once =
          λ x y i j e. alike x y (of_map (copy_of base items) v.items x i) (of_map (copy_of base items) v.items y j) e;
    }
      where
        kept : In k items
        kept = kept_in k kk

        back : (y : ℕ) → InAt t.lists k y → In y v.items
        back y i = subst (λ z. In y z) (sym same) (at_list t.lists k y i)

        forth : (y : ℕ) → In y v.items → InAt t.lists k y
        forth y i = list_in t.lists k y (subst (λ z. In y z) same i)

        member : (y : ℕ) → In y v.items → In y items
        member y i = closed k y (is.Union v) kept union (in_left y v.items [] i)

        go : (x y : ℕ) → In y v.items → x ≡ copy_of base items y → Turned k y → Edge k x
        go x y i e (inl (s, l, inl b, h)) = absurd b
        go x y i e (inl (s, l, inr b, h)) =
            TurnsArc s l (source_kept s l k (inr b) kk) (is_arc s l k b.1) tt
            (subst (λ v. IsReversedArc m v l (copy_of base items s)) (sym e) (edge_is y s l (member y i) h).1)
        go x y i e (inr h) =
            EndsPath h.0 (ap (λ v. node m v) e ∙ copy_is y (is.Match 0) (member y i) (helper_is y (is.Match 0) h.1))

        sound : (x : ℕ) → (y : ℕ) × In y v.items × (x ≡ copy_of base items y) → Edge k x
        sound x w = go x w.0 w.1 w.2 (graph.sound k w.0 (forth w.0 w.1))

        arcs :
            (s : ℕ) (l : Label) → (x : ℕ) × InAt t.lists k x × Stand t x l s
            → (x : ℕ) × In x (map (copy_of base items) v.items) × IsReversedArc m x l (copy_of base items s)
        arcs s l w =
            let i = back w.0 w.1 in
            (copy_of base items w.0, in_map (copy_of base items) v.items w.0 i, (edge_is w.0 s l (member w.0 i) w.2).1)

        reported :
            (x : ℕ) × InAt t.lists k x × IsHelper t x (is.Match 0)
            → (x : ℕ) × In x (map (copy_of base items) v.items) × (node m x ≡ Accept p)
        reported w =
            let i = back w.0 w.1 in (
              copy_of base items w.0,
              in_map (copy_of base items) v.items w.0 i,
              copy_is w.0 (is.Match 0) (member w.0 i) (helper_is w.0 (is.Match 0) w.2),
            )

        alike :
            (x y : ℕ) → (z : ℕ) × In z v.items × (x ≡ copy_of base items z) → (z : ℕ) × In z v.items
            × (y ≡ copy_of base items z)
            → node m x ≡ node m y → IsUnion (node m x) ⊎ (x ≡ y)
        alike x y w u e =
            from
            (one_alternate k w.0 u.0 (forth w.0 w.1) (forth u.0 u.1) (member w.0 w.1) (member u.0 u.1)
            (ap (λ v. node m v) (sym w.2) ∙ (e ∙ ap (λ v. node m v) u.2)))
          where
            from : IsUnion (node m (copy_of base items w.0)) ⊎ (w.0 ≡ u.0) → IsUnion (node m x) ⊎ (x ≡ y)
            from (inl h) = inl (subst (λ v. IsUnion (node m v)) (sym w.2) h)
            from (inr h) = inr (w.2 ∙ (ap (copy_of base items) h ∙ sym u.2))

    -- The case of a state whose only alternate is a helper: it becomes a copy of the helper.
    alone_at :
        (k : ℕ) → Kept k → (j : ℕ) → list_at t.lists k ≡ (length t.lists + j) ∷ []
        → slice_get t.helpers j ≡ Some (get_or turned k is.Fail) → At k (copy_of base items k ∷ [])
    alone_at k kk j same here = record {
      stands = IsOnlyEdge refl (stands (graph.sound k (length t.lists + j) there));
      sound = λ x i. sound x (one x i) (graph.sound k (length t.lists + j) there);
      arcs = λ s l ks h. arcs s l h (graph.arcs s k l (inr (is_reached s ks.0, arc_is s l k h)));
      reported = λ e. reported (graph.reported k e);
      distinct = ((λ b. b), tt);
      once = λ x y i j e. inr (one x i ∙ sym (one y j));
    }
      where
        kept : In k items
        kept = kept_in k kk

        there : InAt t.lists k (length t.lists + j)
        there = sole k j same

        only : (y : ℕ) → InAt t.lists k y → y ≡ length t.lists + j
        only y i = first (subst (λ z. In y z) same (at_list t.lists k y i))
          where
            first : In y ((length t.lists + j) ∷ []) → y ≡ length t.lists + j
            first (inl e) = e
            first (inr b) = absurd b

        one : (x : ℕ) → In x (copy_of base items k ∷ []) → x ≡ copy_of base items k
        one x (inl e) = e
        one x (inr b) = absurd b

        is_helper : (h : State) → IsHelper t (length t.lists + j) h → get_or turned k is.Fail ≡ h
        is_helper h w = helper_same (length t.lists + j) j (get_or turned k is.Fail) h refl here w

        edge :
            (s : ℕ) (l : Label) → s < length a.states → Stand t (length t.lists + j) l s
            → IsAsking l × IsReversedArc m (copy_of base items k) l (copy_of base items s)
        edge s Free small h = absurd (omega (arith, small, h, whole))
        edge s (Asks look) small h =
            (tt, copy_is k (is.Look (flip look) s) kept (is_helper (is.Look (flip look) s) h))
        edge s (Reads lo hi) small h =
            (tt, copy_is k (is.ByteRange lo hi s) kept (is_helper (is.ByteRange lo hi s) h))

        stands :
            Turned k (length t.lists + j)
            → IsEdgeTo (ranged_nfa a) m a.start_anchored p (copy_of base items) IsAsking k (copy_of base items k)
        stands (inl (s, l, inl b, h)) = absurd b
        stands (inl (s, l, inr b, h)) =
            let w = edge s l (source_inside s l k (inr b)) h in
            TurnsArc s l (source_kept s l k (inr b) kk) (is_arc s l k b.1) w.0 w.1
        stands (inr h) = EndsPath h.0 (copy_is k (is.Match 0) kept (is_helper (is.Match 0) h.1))

        sound : (x : ℕ) → x ≡ copy_of base items k → Turned k (length t.lists + j) → Edge k x
        sound x e (inl (s, l, inl b, h)) = absurd b
        sound x e (inl (s, l, inr b, h)) =
            TurnsArc s l (source_kept s l k (inr b) kk) (is_arc s l k b.1) tt
            (subst (λ v. IsReversedArc m v l (copy_of base items s)) (sym e)
            (edge s l (source_inside s l k (inr b)) h).1)
        sound x e (inr h) =
            EndsPath h.0 (ap (λ v. node m v) e ∙ copy_is k (is.Match 0) kept (is_helper (is.Match 0) h.1))

        arcs :
            (s : ℕ) (l : Label) → HasArc (ranged_nfa a) s l k → (x : ℕ) × InAt t.lists k x × Stand t x l s
            → (x : ℕ) × In x (copy_of base items k ∷ []) × IsReversedArc m x l (copy_of base items s)
        arcs s l h w =
            let e = edge s l (inside s l k h) (subst (λ v. Stand t v l s) (only w.0 w.1) w.2) in
            (copy_of base items k, inl refl, e.1)

        reported :
            (x : ℕ) × InAt t.lists k x × IsHelper t x (is.Match 0)
            → (x : ℕ) × In x (copy_of base items k ∷ []) × (node m x ≡ Accept p)
        reported w = (
          copy_of base items k,
          inl refl,
          copy_is k (is.Match 0) kept
              (is_helper (is.Match 0) (subst (λ v. IsHelper t v (is.Match 0)) (only w.0 w.1) w.2)),
        )

    turned_at : (k : ℕ) → Kept k → (xs : List ℕ) × At k xs
    turned_at k kk = go (head_of k (kept_inside k kk))
      where
        go : IsHead (length t.lists) t.helpers (list_at t.lists k) (get_or turned k is.Fail) → (xs : List ℕ) × At k xs
        go (IsUnionOfAll v e f) = (map (copy_of base items) v.items, union_at k kk v e f)
        go (IsOnlyHelper j e f) = (copy_of base items k ∷ [], alone_at k kk j e f)

    root_in : (q : ℕ) → In q (matches_in a.states p reached) → In q items
    root_in = reached_roots Every turned (matches_in a.states p reached) items made.reached

    entry_is :
        IsEntry (ranged_nfa a) m a.start_anchored p entry (copy_of base items)
        (map (copy_of base items) (matches_in a.states p reached))
    entry_is = record {
      union = ap node_or_fail made.enters;
      sound = λ x i. enter x (of_map (copy_of base items) (matches_in a.states p reached) x i);
      matches = λ q w h.
          in_map (copy_of base items) (matches_in a.states p reached) q
          (are_matches a.states p reached q (is_reached q w) (accept_is q p h));
      distinct =
          map_distinct (copy_of base items) (matches_in a.states p reached)
          (λ x y i j. copy_same x y (root_in x i) (root_in y j)) (matches_distinct a.states p reached distinct);
    }
      where
        enter :
            (x : ℕ) → (y : ℕ) × In y (matches_in a.states p reached) × (x ≡ copy_of base items y)
            → (q : ℕ) × Kept q × (accepts (ranged_nfa a) q ≡ Some p) × (x ≡ copy_of base items q)
        enter x w =
            let k = matches_are a.states p reached w.0 w.1 in
            let h = is_accept w.0 p k.1 in
            (w.0, kept_match (ranged_nfa a) a.start_anchored p w.0 (leads w.0 k.0) h, h, w.2)

    part_is : IsPart (ranged_nfa a) m a.start_anchored p entry (copy_of base items)
    part_is = record {
      enters = (map (copy_of base items) (matches_in a.states p reached), entry_is);
      turned = turned_at;
    }

    -- There are no other states from the first copy up to the entry.
    part_only :
        (x : ℕ) → base ≤ x → x ≤ entry → IsOfPart (ranged_nfa a) m a.start_anchored p entry (copy_of base items) x
    part_only x b l = go (ltb x entry) refl
      where
        state :
            (q : ℕ) → x ≡ copy_of base items q → Good q
            → IsOfPart (ranged_nfa a) m a.start_anchored p entry (copy_of base items) x
        state q e (inl k) = IsPlaceOf q k e
        state q e (inr (k, kk, ik, w, (v, u, i), h)) =
            IsAlternateOf k (map (copy_of base items) v.items) kk (copy_is k (is.Union v) ik u)
            (subst (λ z. In z (map (copy_of base items) v.items)) (sym e) (in_map (copy_of base items) v.items q i))

        go : (c : Bool) → ltb x entry ≡ c → IsOfPart (ranged_nfa a) m a.start_anchored p entry (copy_of base items) x
        go true f =
            let less = ltb-true x entry f in
            let q = nth_some items (x - base) (let e = made.ends in omega (arith, less, e, b)) in
            let at = place_nth items (x - base) q.0 made.distinct q.1 in
            state q.0 (omega (arith, at, b)) (good q.0 (nth_in items (x - base) q.0 q.1))
        go false f = let more = ltb-false x entry f in IsEntryOf (omega (arith, more, l))

  -- All parts.
  mirror_is :
      (entries : List ℕ) (root : ℕ) (nodes : List Node) → m.terminator ≡ a.flags.line_terminator
      → m.reverse ≡ not a.flags.reverse → m.nodes ≡ nodes ++ Split entries ∷ [] → root ≡ length nodes
      → HaveCopies nodes a.states turned reached entries → IsMirror (ranged_nfa a) m a.start_anchored entries root
  mirror_is entries root nodes terminator reverse n r copies = record {
    terminator = terminator;
    reverse = reverse;
    roots =
        ap node_or_fail
        (ap (λ z. slice_get z root) n
        ∙ (ap (λ z. slice_get (nodes ++ Split entries ∷ []) z) r ∙ nth_last nodes (Split entries)));
    distinct = copies.distinct;
    place = λ p q. copy_of (part_at copies.parts p).base (part_at copies.parts p).items q;
    parts =
        λ p entry e. part_is p entry (part_at copies.parts p).base (part_at copies.parts p).items (copied_at p entry e);
    only = λ x l. only x (ltb x (length nodes)) refl l;
  }
    where
      copied_at :
          (p entry : ℕ) → slice_get entries p ≡ Some entry
          → IsCopied m.nodes turned (matches_in a.states p reached) p entry (part_at copies.parts p).base
          (part_at copies.parts p).items
      copied_at p entry e =
          copied_more nodes m.nodes (Split entries ∷ []) turned (matches_in a.states p reached) p entry
          (part_at copies.parts p).base
          (part_at copies.parts p).items n (copies.each p entry e)

      long : length m.nodes ≡ length nodes + 1
      long = ap (λ z. length z) n ∙ length-append nodes (Split entries ∷ [])

      only :
          (x : ℕ) (b : Bool) → ltb x (length nodes) ≡ b → x < length m.nodes
          → IsOfMirror (ranged_nfa a) m a.start_anchored entries root
          (λ p q. copy_of (part_at copies.parts p).base (part_at copies.parts p).items q) x
      only x true f l =
          let w = copies.only x (ltb-true x (length nodes) f) in
          IsInPart w.0 w.1 w.2
          (part_only w.0 w.1 (part_at copies.parts w.0).base (part_at copies.parts w.0).items (copied_at w.0 w.1 w.2) x
          w.3 w.4)
      only x false f l = let more = ltb-false x (length nodes) f in IsRootOf (omega (arith, more, l, long, r))

-- If all states of a list are in range, so is the state at any index.
all_in_range :
    (n : ℕ) (states : List State) (q : ℕ) → states_below n states ≡ true
    → state_below n (get_or states q is.Fail) ≡ true
all_in_range n [] q b = refl
all_in_range n (x ∷ xs) zero b = (and_parts (state_below n x) (states_below n xs) b).0
all_in_range n (x ∷ xs) (suc q) b = all_in_range n xs q (and_parts (state_below n x) (states_below n xs) b).1

pub turned_graph :
    (a : Automaton) (reached : List ℕ) (t : Turns)
    → states_below (length a.states) a.states ≡ true → a.start_anchored < length a.states
    → t ≡ turn_by (turn_states (record { lists = no_lists (length a.states); helpers = [] }) a.states reached)
    (is.Match 0) a.start_anchored
    → IsGraph (Of (λ s l k. ⊥) a.states reached) (λ k. k ≡ a.start_anchored) (length a.states) t
turned_graph a reached t below first e =
    subst (λ t. IsGraph (Of (λ s l k. ⊥) a.states reached) (λ k. k ≡ a.start_anchored) (length a.states) t) (sym e)
    (graph_report (Of (λ s l k. ⊥) a.states reached) (length a.states)
    (turn_states (record { lists = no_lists (length a.states); helpers = [] }) a.states reached) a.start_anchored first
    (graph_states (λ k. ⊥) (length a.states) a.states reached (λ s l k. ⊥)
    (record { lists = no_lists (length a.states); helpers = [] })
    (λ q. all_in_range (length a.states) a.states q below) (graph_none (length a.states))))

pub made_reversed :
    (a b : Automaton) → IsChecked a → states_below (length a.states) a.states ≡ true
    → AreReversed a.states a.start_anchored (length a.start_pattern) b.states b.start_pattern b.start_anchored
    → b.flags.utf8 ≡ a.flags.utf8 → b.flags.reverse ≡ not a.flags.reverse
    → b.flags.line_terminator ≡ a.flags.line_terminator → b.start_unanchored ≡ b.start_anchored
    → IsReversed a b
made_reversed a b checked below made utf8 reverse terminator one = record {
  patterns = made.few;
  utf8 = utf8;
  one_start = one;
  mirror =
      mirror_is a made.turned made.reached (nfa_of b) checked made.reach made.distinct made.turns.0 made.turns.1.0
      made.turns.1.1 made.turns.1.2
      (turned_graph a made.reached made.turns.0 below checked.anchored made.turns.2)
      (turned_once a.states made.reached a.start_anchored made.turns.0 (λ q. ordered_at a.states q checked.ordered)
      made.distinct
      made.below made.turns.2)
      b.start_pattern b.start_anchored made.nodes terminator reverse made.whole made.starts made.copies;
}
