-- Runs of epsilon edges in an NFA and in the merged one.
use Rattle.std.proofs.Common.{ℕ, zero, suc, ◌≡◌, ◌<◌, ◌≤◌, List, [], ◌∷◌, ◌⊎◌, length, Some, inl, inr, refl}
use Rattle.std.proofs.Common.{sym, ap, ◌∙◌, subst, arith}
use Rattle.std.proofs.lemmas.Bool.{cases_lt}
use Rattle.std.specs.Prelude.{slice_get}
use Rattle.automata_base.specs.declared.util.look.Look.{Look}
use Rattle.automata_base.specs.Lists.{In}
use Rattle.automata_base.specs.Nfas.Accepted.{IsInRange}
use Rattle.automata_base.specs.Nfas.Engines.{MatchesEmpty}
use Rattle.automata_transform.specs.Nfas.Merges.{stood_for, Shows, IsMerged, IsMergedNode, KeepsNode, MergesUnion}
use Rattle.automata_base.specs.Nfas.Nfa.{Nfa, Node, Split, Assert, Read, Accept, Range, node, hop, hop_at, accepts}
use Rattle.automata_base.specs.Nfas.Nfa.{accepts_at}
use Rattle.automata_base.specs.Paths.Paths.{all_true, Run, HasEpsilonPath, IsLookAcyclic}
use Rattle.automata_transform.proofs.Nfas.Merges.Parts.{part_of, part_at}
use Rattle.automata_transform.proofs.Nfas.Merges.Places.{further_shows, alternate_old, assert_old, union_shows}
use Rattle.automata_transform.proofs.Nfas.Merges.Places.{others_same}
use Rattle.automata_transform.proofs.Nfas.Merges.Places.{old_means}
use Rattle.automata_transform.proofs.Nfas.Merges.Places.{old_one, split_assert, match_may_end}
use Rattle.automata_base.proofs.Paths.Orders.{some_inj, none_some}
use Rattle.automata_base.proofs.Paths.Sets.{nth_in}

-- From a byte state, no run reaches another state or a match.
stuck :
    (n : Nfa) (q : ℕ) (ranges : List Range) (path : List ℕ) (z : ℕ) → node n q ≡ Read ranges → Run n q path z → q ≡ z
stuck n q ranges [] z e u = u
stuck n q ranges (d ∷ path) z e u = absurd (none_some (subst (λ v. hop_at v all_true d ≡ Some u.0) e u.1))

no_match :
    (n : Nfa) (q p : ℕ) (ranges : List Range) (path : List ℕ) (z : ℕ) → node n q ≡ Read ranges → Run n q path z
    → accepts n z ≡ Some p → ⊥
no_match n q p ranges path z e u h =
    none_some (ap accepts_at (sym e) ∙ (ap (λ v. accepts n v) (stuck n q ranges path z e u) ∙ h))

pub assert_hop : (look : Look) (r e y : ℕ) → hop_at (Assert look r) all_true e ≡ Some y → y ≡ r
assert_hop look r zero y h = sym (some_inj h)
assert_hop look r (suc e) y h = absurd (none_some h)

module _ (n m : Nfa) (anchored : ℕ) (lists : List (List ℕ)) (merged : IsMerged n m anchored lists) where
  -- A further state that reads bytes stands only for states that read bytes.
  pub further_reads :
      (y o s : ℕ) (ranges : List Range) → length n.nodes ≤ y → node m y ≡ Read ranges
      → slice_get (stood_for (length n.nodes) lists y) o ≡ Some s → (own : List Range) × (node n s ≡ Read own)
  further_reads y o s ranges far e at =
      let for_list =
      subst (λ v. Shows n m anchored lists v (stood_for (length n.nodes) lists y)) e
      (further_shows n m anchored lists merged y far) in
      (for_list.plain s (nth_in (stood_for (length n.nodes) lists y) o s at)).1

  shows_match : (x : Node) (list : List ℕ) (p : ℕ) → Shows n m anchored lists x list → accepts_at x ≡ Some p → ⊥
  shows_match (Split alternates) list p s h = none_some h
  shows_match (Assert look r) list p s h = s
  shows_match (Read ranges) list p s h = none_some h
  shows_match (Accept r) list p s h = s

  pub match_forth : (w p : ℕ) → accepts n w ≡ Some p → accepts m w ≡ Some p
  match_forth w p h = go (merged.first_states w (match_may_end n anchored w p h).0)
    where
      go :
          IsMergedNode n m anchored lists (node n w) (node m w)
          → accepts m w ≡ Some p
      go (KeepsNode e) = ap accepts_at e ∙ h
      go (MergesUnion others is shows) = absurd (none_some (ap accepts_at (sym is) ∙ h))

  pub match_back : (w p : ℕ) → accepts m w ≡ Some p → accepts n w ≡ Some p
  match_back w p h = go (cases_lt w (length n.nodes))
    where
      old :
          IsMergedNode n m anchored lists (node n w) (node m w)
          → accepts n w ≡ Some p
      old (KeepsNode e) = ap accepts_at (sym e) ∙ h
      old (MergesUnion others is shows) = absurd (shows_match (node m w) others p shows h)

      go : (w < length n.nodes) ⊎ (length n.nodes ≤ w) → accepts n w ≡ Some p
      go (inl l) = old (merged.first_states w l)
      go (inr far) =
          absurd (shows_match (node m w) (stood_for (length n.nodes) lists w) p
          (further_shows n m anchored lists merged w far) h)

  module _ (ranged : IsInRange n) where
    -- An edge of the merged NFA between states of the first NFA comes from an edge of the first NFA.
    hop_back :
        (q e y : ℕ) → q < length n.nodes → y < length n.nodes → hop m all_true q e ≡ Some y
        → (k : ℕ) × (hop n all_true q k ≡ Some y)
    hop_back q e y l k h = go (node m q) refl (merged.first_states q l)
      where
        union :
            (x : Node) (others : List ℕ) → node n q ≡ Split others → Shows n m anchored lists x others
            → hop_at x all_true e ≡ Some y → (k : ℕ) × (hop n all_true q k ≡ Some y)
        union (Split alternates) others is s f =
            let p =
            part_at (length n.nodes) lists alternates e 0 y y f
            (ap (λ v. slice_get v 0) (old_means (length n.nodes) lists y k)) in
            (p.0, subst (λ v. hop_at v all_true p.0 ≡ Some y) (sym is) (subst (λ v. slice_get v p.0 ≡ Some y) s.0 p.1))
        union (Assert look r) others is s f = absurd s
        union (Read ranges) others is s f = absurd (none_some f)
        union (Accept p) others is s f = absurd s

        go :
            (x : Node) → node m q ≡ x → IsMergedNode n m anchored lists (node n q) (node m q)
            → (k : ℕ) × (hop n all_true q k ≡ Some y)
        go x is (KeepsNode e2) = (e, subst (λ v. hop_at v all_true e ≡ Some y) e2 h)
        go x is (MergesUnion others was shows) = union (node m q) others was shows h

    -- An edge of the first NFA leads to one of its states.
    pub hop_old : (q e y : ℕ) → hop n all_true q e ≡ Some y → y < length n.nodes
    hop_old q e y h = go (node n q) refl h
      where
        go : (x : Node) → node n q ≡ x → hop_at x all_true e ≡ Some y → y < length n.nodes
        go (Split alternates) is f =
            alternate_old n m anchored lists merged ranged q alternates is y (nth_in alternates e y f)
        go (Assert look r) is f =
            subst (λ v. v < length n.nodes) (sym (assert_hop look r e y f))
            (assert_old n m anchored lists merged ranged q look r is)
        go (Read ranges) is f = absurd (none_some f)
        go (Accept p) is f = absurd (none_some f)

    -- An edge of the merged NFA from a state of the first leads to a state of the first or to a further state that
    -- reads bytes.
    hop_to :
        (q e y : ℕ) → q < length n.nodes → hop m all_true q e ≡ Some y
        → (y < length n.nodes) ⊎ ((length n.nodes ≤ y) × ((ranges : List Range) × (node m y ≡ Read ranges)))
    hop_to q e y l h = side (cases_lt y (length n.nodes))
      where
        union :
            (x : Node) (others : List ℕ) → Shows n m anchored lists x others → hop_at x all_true e ≡ Some y
            → length n.nodes ≤ y → (ranges : List Range) × (node m y ≡ Read ranges)
        union (Split alternates) others s f far = s.1 y (nth_in alternates e y f) far
        union (Assert look r) others s f far = absurd s
        union (Read ranges) others s f far = absurd (none_some f)
        union (Accept p) others s f far = absurd s

        go :
            length n.nodes ≤ y → IsMergedNode n m anchored lists (node n q) (node m q)
            → (ranges : List Range) × (node m y ≡ Read ranges)
        go far (KeepsNode e2) =
            absurd (omega (arith, far, hop_old q e y (subst (λ v. hop_at v all_true e ≡ Some y) e2 h)))
        go far (MergesUnion others was shows) = union (node m q) others shows h far

        side :
            (y < length n.nodes) ⊎ (length n.nodes ≤ y)
            → (y < length n.nodes) ⊎ ((length n.nodes ≤ y) × ((ranges : List Range) × (node m y ≡ Read ranges)))
        side (inl k) = inl k
        side (inr far) = inr (far, go far (merged.first_states q l))

    pub run_back :
        (path : List ℕ) (q z : ℕ) → q < length n.nodes → z < length n.nodes → Run m q path z → HasEpsilonPath n q z
    run_back [] q z l k u = ([], u)
    run_back (e ∷ path) q z l k u = go (hop_to q e u.0 l u.1) (λ l2. run_back path u.0 z l2 k u.2)
      where
        go :
            (u.0 < length n.nodes) ⊎ ((length n.nodes ≤ u.0) × ((ranges : List Range) × (node m u.0 ≡ Read ranges)))
            → (u.0 < length n.nodes → HasEpsilonPath n u.0 z) → HasEpsilonPath n q z
        go (inl l2) ih =
            let c = ih l2 in
            let h = hop_back q e u.0 l l2 u.1 in
            (h.0 ∷ c.0, (u.0, h.1, c.1))
        go (inr f) ih = absurd (omega (arith, k, f.0, stuck m u.0 f.1.0 path z f.1.1 u.2))

    pub run_forth :
        (path : List ℕ) (q z p : ℕ) → q < length n.nodes → Run n q path z → accepts n z ≡ Some p → HasEpsilonPath m q z
    run_forth [] q z p l u h = ([], u)
    run_forth (e ∷ path) q z p l u h = go (node n q) refl u.1 (λ l2. run_forth path u.0 z p l2 u.2 h)
      where
        by_edge : (d : ℕ) → hop m all_true q d ≡ Some u.0 → HasEpsilonPath m u.0 z → HasEpsilonPath m q z
        by_edge d f c = (d ∷ c.0, (u.0, f, c.1))

        union :
            (x : Node) (alternates : List ℕ) → node m q ≡ x → node n q ≡ Split alternates
            → Shows n m anchored lists x alternates
            → slice_get alternates e ≡ Some u.0 → (u.0 < length n.nodes → HasEpsilonPath m u.0 z) → HasEpsilonPath m q z
        union (Split others) alternates is was s f ih =
            let c = part_of (length n.nodes) lists others e u.0 (subst (λ v. slice_get v e ≡ Some u.0) (sym s.0) f) in
            side c.0 c.1 c.2 c.3 c.4 (cases_lt c.2 (length n.nodes))
          where
            side :
                (j o y : ℕ) → slice_get others j ≡ Some y → slice_get (stood_for (length n.nodes) lists y) o ≡ Some u.0
                → (y < length n.nodes) ⊎ (length n.nodes ≤ y) → HasEpsilonPath m q z
            side j o y at of (inl k) =
                let one = (old_one (length n.nodes) lists y o u.0 k of).1 in
                by_edge j (subst (λ v. hop_at v all_true j ≡ Some u.0) (sym is) (at ∙ ap Some (sym one)))
                (ih (subst (λ v. v < length n.nodes) (sym one) k))
            side j o y at of (inr far) =
                let reads = s.1 y (nth_in others j y at) far in
                let own = further_reads y o u.0 reads.0 far reads.1 of in
                absurd (no_match n u.0 p own.0 path z own.1 u.2 h)
        union (Assert look r) alternates is was s f ih = absurd s
        union (Accept r) alternates is was s f ih = absurd s
        union (Read ranges) alternates is was s f ih =
            let own = (s.plain u.0 (nth_in alternates e u.0 f)).1 in
            absurd (no_match n u.0 p own.0 path z own.1 u.2 h)

        go :
            (x : Node) → node n q ≡ x → hop n all_true q e ≡ Some u.0 → (u.0 < length n.nodes → HasEpsilonPath m u.0 z)
            → HasEpsilonPath m q z
        go (Split alternates) is f ih =
            union (node m q) alternates refl is (union_shows n m anchored lists merged ranged q alternates l is)
            (subst (λ v. hop_at v all_true e ≡ Some u.0) is f) ih
        go (Assert look r) is f ih =
            by_edge e
            (subst (λ v. hop_at v all_true e ≡ Some u.0)
            (sym (others_same n m anchored lists merged q l
            (λ alternates g. split_assert alternates look r (sym g ∙ is)))) f)
            (ih (subst (λ v. v < length n.nodes)
            (sym (assert_hop look r e u.0 (subst (λ v. hop_at v all_true e ≡ Some u.0) is f)))
            (assert_old n m anchored lists merged ranged q look r is)))
        go (Read ranges) is f ih = absurd (none_some (subst (λ v. hop_at v all_true e ≡ Some u.0) is f))
        go (Accept r) is f ih = absurd (none_some (subst (λ v. hop_at v all_true e ≡ Some u.0) is f))

    -- Both NFAs have the empty match, or neither does.
    pub empty_forth :
        (starts : List ℕ) → ((start : ℕ) → In start starts → start < length n.nodes) → MatchesEmpty n starts
        → MatchesEmpty m starts
    empty_forth starts within (start, q, p, i, run, h) =
        (start, q, p, i, run_forth run.0 start q p (within start i) run.1 h, match_forth q p h)

    pub empty_back :
        (starts : List ℕ) → ((start : ℕ) → In start starts → start < length n.nodes) → MatchesEmpty m starts
        → MatchesEmpty n starts
    empty_back starts within (start, q, p, i, run, h) =
        let h2 = match_back q p h in
        (start, q, p, i, run_back run.0 start q (within start i) (match_may_end n anchored q p h2).0 run.1, h2)

    -- No epsilon cycle of the merged NFA passes a look if none of the first NFA does.
    pub acyclic_merged : IsLookAcyclic n → IsLookAcyclic m
    acyclic_merged none q look r e on = go (cases_lt q (length n.nodes))
      where
        old :
            q < length n.nodes → IsMergedNode n m anchored lists (node n q) (node m q) → ⊥
        old l (KeepsNode same) =
            let is = sym same ∙ e in
            let next = assert_hop look r on.0 on.1 (subst (λ v. hop_at v all_true on.0 ≡ Some on.1) e on.2) in
            let l2 : on.1 < length n.nodes =
            subst (λ v. v < length n.nodes) (sym next) (assert_old n m anchored lists merged ranged q look r is) in
            none q look r is
            (on.0, on.1, subst (λ v. hop_at v all_true on.0 ≡ Some on.1) same on.2, run_back on.3.0 on.1 q l2 l on.3.1)
        old l (MergesUnion others was shows) = subst (λ v. Shows n m anchored lists v others) e shows

        go : (q < length n.nodes) ⊎ (length n.nodes ≤ q) → ⊥
        go (inl l) = old l (merged.first_states q l)
        go (inr far) =
            subst (λ v. Shows n m anchored lists v (stood_for (length n.nodes) lists q)) e
            (further_shows n m anchored lists merged q far)
