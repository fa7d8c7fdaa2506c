-- Which looks lead back to themselves, by walks from their targets.
use Rattle.std.proofs.Common.{ℕ, zero, suc, ◌≡◌, ◌<◌, ◌≤◌, ◌+◌, ◌⊎◌, ◌↔◌, Bool, true, false, List, [], ◌∷◌, ◌++◌}
use Rattle.std.proofs.Common.{length, get_or, take, Some, None, inl, inr, refl, sym, ap, ◌∙◌, subst, true≢false, arith}
use Rattle.std.proofs.Common.{append-nil}
use Rattle.std.specs.Prelude.{IsTrue, IsFalse, eqb, option_to_list, slice_get}
use Rattle.std.proofs.lemmas.Bool.{ltb-true, eqb-true, eq-eqb}
use Rattle.std.proofs.lemmas.List.{take_more, take_all}
use Rattle.automata_base.specs.declared.nfa.thompson.state.State.{State}
use Rattle.automata_base.specs.declared.nfa.thompson.reach.Edges.TheVariants.{Epsilon}
use Rattle.automata_base.proofs.Paths.Checks.{node_below}
use Rattle.automata_base.specs.Retraced.DepthFirst.{LeadsBy, IsWholeOrder}
use Rattle.automata_base.specs.Lists.{In}
use Rattle.automata_base.specs.Haystacks.Looks.{Look}
use Rattle.automata_base.specs.Haystacks.Looks.{look_index}
use Rattle.automata_base.specs.Haystacks.LookSets.{truth_of}
use Rattle.automata_base.specs.Nfas.Nfa.{Node, Split, Assert, Read, Accept, any_node}
use Rattle.automata_base.specs.Nfas.Nodes.{node_of, nodes_of}
use Rattle.automata_base.proofs.Paths.LookSets.{truth_of_none}
use Rattle.automata_base.proofs.Paths.Machines.{any_node_from}
use Rattle.automata_base.specs.Retraced.Once.{once_from}
use Rattle.automata_base.specs.Paths.Paths.{all_true}
use Rattle.automata_base.specs.Retraced.Reach.{node_in, look_target, targets_of, Route, IsReached, LeadsBack}
use Rattle.automata_base.specs.Retraced.Reach.{AreLooksAcyclic}
use Rattle.automata_base.specs.Nfas.Errors.{states_below}
use Rattle.automata_base.specs.Powersets.Closure.{children_at}
use Rattle.automata_base.proofs.Powersets.ListTests.{node_fits}
use Rattle.automata_base.proofs.Powersets.Walking.{node_at}
use Rattle.automata_base.proofs.Paths.Orders.{some_inj, none_some}
use Rattle.automata_base.proofs.Nfas.Reach.Adding.{once_has, once_keeps, once_only, once_take, state_at_below}
use Rattle.automata_base.proofs.Nfas.Reach.Matched.{target_found}
use Rattle.automata_base.proofs.Nfas.Reach.DepthFirst.{read_at}
use Rattle.automata_base.proofs.Nfas.Reach.Walked.{roots_alike, way_more}
use Rattle.std.proofs.lemmas.Bool.{cases_lt}
use Rattle.automata_base.proofs.Paths.Walks.{in_left}
use Rattle.automata_base.proofs.Paths.FirstVisits.{in_right}
use Rattle.automata_base.proofs.Paths.Walks.{in_either}

-- A node that has a target as a look is a look.
pub look_is : (x : Node) (next : ℕ) → look_target x ≡ Some next → (look : Look) × (x ≡ Assert look next)
look_is (Split alternates) next e = absurd (none_some e)
look_is (Assert look other) next e = (look, ap (λ z. Assert look z) (some_inj e))
look_is (Read ranges) next e = absurd (none_some e)
look_is (Accept p) next e = absurd (none_some e)

module _ (states : List State) (q : ℕ) (s : State) (within : q < length states) (read : s ≡ get_or states q s) where
  here : node_in states q ≡ node_of s
  here = node_at states q s s within read

  -- The target of a state in range is in range.
  pub target_below :
      (next : ℕ) → states_below (length states) states ≡ true → look_target (node_of s) ≡ Some next
      → next < length states
  target_below next range e =
      let w = look_is (node_of s) next e in
      ltb-true next (length states)
      (ap (λ z. node_below (length states) z) (sym w.1)
      ∙ node_fits (length states) s (state_at_below (length states) states q s range within read))

pub look_here :
    (states : List State) (at q : ℕ) (s : State) → q < length states → at ≡ q → s ≡ get_or states at s
    → look_target (node_in states q) ≡ look_target (node_of s)
look_here states at q s within e read = ap look_target (here states q s within (read_at states at q s e read))

module _ (states : List State) (q : ℕ) (old : List ℕ) where
  -- If the state is not a look and members lead only to members, the members are the states that are reached.
  pub none_reached :
      look_target (node_in states q) ≡ None → ((p r : ℕ) → In p old → In r (targets_of Epsilon states p) → In r old)
      → (z : ℕ) → In z old ↔ IsReached Epsilon states (old ++ option_to_list (look_target (node_in states q))) z
  none_reached none closed z = (
    λ i. (z, [], subst (λ v. In z (old ++ option_to_list v)) (sym none) (in_left z old [] i), refl),
    λ h. along h.0 h.1 (subst (λ v. In h.0 v) (ap (λ v. old ++ option_to_list v) none ∙ append-nil old) h.2) h.3,
  )
    where
      along : (p : ℕ) (way : List ℕ) → In p old → Route (targets_of Epsilon states) p way z → In z old
      along p [] i m = subst (λ v. In v old) m i
      along p (r ∷ way) i m = along r way (closed p r i m.0) m.1

  pub more_reached :
      (next : ℕ) (added new : List ℕ) → look_target (node_in states q) ≡ Some next → added ≡ once_from old (next ∷ [])
      → ((z : ℕ) → In z new ↔ IsReached Epsilon states added z)
      → (z : ℕ) → In z new ↔ IsReached Epsilon states (old ++ option_to_list (look_target (node_in states q))) z
  more_reached next added new some once reached z = (
    λ i. roots_alike (targets_of Epsilon states) added roots z from ((reached z).0 i),
    λ h. (reached z).1 (roots_alike (targets_of Epsilon states) roots added z to h),
  )
    where
      roots : List ℕ
      roots = old ++ option_to_list (look_target (node_in states q))

      split : (p : ℕ) → In p old ⊎ In p (next ∷ []) → In p roots
      split p (inl i) = in_left p old (option_to_list (look_target (node_in states q))) i
      split p (inr i) =
          in_right p old (option_to_list (look_target (node_in states q)))
          (subst (λ v. In p (option_to_list v)) (sym some) i)

      from : (p : ℕ) → In p added → In p roots
      from p i = split p (once_only p old (next ∷ []) (subst (λ v. In p v) once i))

      join : (p : ℕ) → In p old ⊎ In p (next ∷ []) → In p added
      join p (inl i) = subst (λ v. In p v) (sym once) (once_keeps p old (next ∷ []) i)
      join p (inr i) = subst (λ v. In p v) (sym once) (once_has p old (next ∷ []) i)

      to : (p : ℕ) → In p roots → In p added
      to p i = join p (in_either p old (next ∷ []) (subst (λ v. In p (old ++ option_to_list v)) some i))

  pub none_found :
      (new : List ℕ) → look_target (node_in states q) ≡ None
      → IsTrue false ↔ ((next : ℕ) × (look_target (node_in states q) ≡ Some next) × In q new)
  none_found new none = (λ t. absurd (true≢false (sym t)), λ h. absurd (none_some (sym none ∙ h.1)))

  pub one_found :
      (next : ℕ) (new : List ℕ) (b : Bool) → look_target (node_in states q) ≡ Some next
      → (IsTrue b → In q new) → (IsFalse b → In q new → ⊥)
      → IsTrue b ↔ ((next : ℕ) × (look_target (node_in states q) ≡ Some next) × In q new)
  one_found next new b some had fresh =
      let found : IsTrue b ↔ In q new = target_found (In q new) new q b had fresh (λ i. i, λ i. i) in
      (λ t. (next, some, found.0 t), λ h. found.1 h.2)

past_all : (states : List State) (q : ℕ) → length states ≤ q → look_target (node_in states q) ≡ None
past_all [] q l = refl
past_all (x ∷ xs) zero l = absurd (omega (arith, l))
past_all (x ∷ xs) (suc q) l = past_all xs q (omega (arith, l))

-- After a state is added, the previous members still lead only to members.
pub added_walked :
    (G : ℕ → List ℕ) (old added : List ℕ) (next done : ℕ) → done ≡ length old → added ≡ once_from old (next ∷ [])
    → ((p r : ℕ) → In p old → In r (G p) → In r old) → (p r : ℕ) → In p (take done added) → In r (G p) → In r added
added_walked G old added next done e once closed p r i j =
    subst (λ z. In r z) (sym once) (once_keeps r old (next ∷ []) (closed p r (subst (λ z. In p z) front i) j))
  where
    front : take done added ≡ old
    front =
        ap (λ z. take z added) e
        ∙ (ap (take (length old)) once
        ∙ (once_take (length old) old (next ∷ []) (omega arith) ∙ take_all (length old) old (omega arith)))

nth_read : (xs : List ℕ) (i q : ℕ) → i < length xs → q ≡ get_or xs i q → slice_get xs i ≡ Some q
nth_read [] i q l e = absurd (omega (arith, l))
nth_read (x ∷ xs) zero q l e = ap (λ z. Some z) (sym e)
nth_read (x ∷ xs) (suc i) q l e = nth_read xs i q (omega (arith, l)) e

-- A look leads to `z`.
abbrev pub LooksTo : List State → ℕ → ℕ → Type 0
LooksTo states r z = (next : ℕ) × (look_target (node_in states r) ≡ Some next) × IsReached Epsilon states (next ∷ []) z

module _ (states : List State) where
  only_target : (r next : ℕ) → look_target (node_in states r) ≡ Some next → targets_of Epsilon states r ≡ next ∷ []
  only_target r next e = let w = look_is (node_in states r) next e in ap (λ x. children_at x all_true) w.1

  leads_by : (r z : ℕ) → LooksTo states r z → LeadsBy (targets_of Epsilon states) r z
  leads_by r z h = (h.0, h.2.1, subst (λ v. In h.0 v) (sym (only_target r h.0 h.1)) (inl refl), from h.2.2 h.2.3)
    where
      from :
          In h.2.0 (h.0 ∷ []) → Route (targets_of Epsilon states) h.2.0 h.2.1 z
          → Route (targets_of Epsilon states) h.0 h.2.1 z
      from (inl e) m = subst (λ v. Route (targets_of Epsilon states) v h.2.1 z) e m
      from (inr i) m = absurd i

  looks_to :
      (r next z : ℕ) → look_target (node_in states r) ≡ Some next → LeadsBy (targets_of Epsilon states) r z
      → LooksTo states r z
  looks_to r next z e h = (next, e, (h.0, h.1, subst (λ v. In h.0 v) (only_target r next e) h.2, h.3))

-- The first `i` looks of an order do not lead back to themselves. Each member is reached from one of them, and members
-- lead only to members.
pub record IsTried (states : List State) (order : List ℕ) (i : ℕ) (items : List ℕ) : Type 0 where
  pub none : (r : ℕ) → In r (take i order) → LeadsBack states r → ⊥
  pub sound : (z : ℕ) → In z items → (r : ℕ) × In r (take i order) × LooksTo states r z
  pub closed : (p r : ℕ) → In p items → In r (targets_of Epsilon states p) → In r items

pub none_tried : (states : List State) (order items : List ℕ) → items ≡ [] → IsTried states order 0 items
none_tried states order items e = subst (IsTried states order 0) (sym e) (record {
  none = λ r i back. i;
  sound = λ z i. absurd i;
  closed = λ p r i j. absurd i;
})

module _
    (states : List State) (order : List ℕ) (i q : ℕ) (old new : List ℕ) (b : Bool) (l : i < length order)
    (read : q ≡ get_or order i q)
    (whole : IsWholeOrder (length states) (targets_of Epsilon states) order) (tried : IsTried states order i old)
    (found : IsTrue b ↔ ((next : ℕ) × (look_target (node_in states q) ≡ Some next) × In q new))
    (reached : (z : ℕ) → In z new ↔ IsReached Epsilon states (old ++ option_to_list (look_target (node_in states q))) z)
  where
    option_in : (x : ℕ) (v : _) → In x (option_to_list v) → v ≡ Some x
    option_in x None i = absurd i
    option_in x (Some y) (inl e) = ap (λ z. Some z) (sym e)
    option_in x (Some y) (inr i) = absurd i

    front : take (i + 1) order ≡ take i order ++ q ∷ []
    front = take_more order i q l ∙ ap (λ z. take i order ++ z ∷ []) (sym read)

    earlier : (r : ℕ) → In r (take i order) → In r (take (i + 1) order)
    earlier r j = subst (λ z. In r z) (sym front) (in_left r (take i order) (q ∷ []) j)

    last : In q (take (i + 1) order)
    last = subst (λ z. In q z) (sym front) (in_right q (take i order) (q ∷ []) (inl refl))

    -- A member is reached from a previous look or from this one.
    led : (z : ℕ) → In z new → ((r : ℕ) × In r (take i order) × LooksTo states r z) ⊎ LooksTo states q z
    led z j = go ((reached z).0 j)
      where
        from : (root : ℕ) (way : List ℕ) → Route (targets_of Epsilon states) root way z
            → In root old ⊎ In root (option_to_list (look_target (node_in states q)))
            → ((r : ℕ) × In r (take i order) × LooksTo states r z) ⊎ LooksTo states q z
        from root way m (inl k) =
            let w = tried.sound root k in
            let t = w.2 in
            inl (w.0, w.1, (t.0, t.1, further root way m t.0 t.2))
          where
            further : (root : ℕ) (way : List ℕ) → Route (targets_of Epsilon states) root way z → (next : ℕ)
                → IsReached Epsilon states (next ∷ []) root → IsReached Epsilon states (next ∷ []) z
            further root [] m next h = subst (λ v. IsReached Epsilon states (next ∷ []) v) m h
            further root (s ∷ way) m next h =
                let w = way_more (targets_of Epsilon states) h.0 h.1 root s h.3 m.0 in
                further s way m.1 next (h.0, w.0, h.2, w.1)
        from root way m (inr k) =
            inr (root, option_in root (look_target (node_in states q)) k, (root, way, inl refl, m))

        go : IsReached Epsilon states (old ++ option_to_list (look_target (node_in states q))) z
            → ((r : ℕ) × In r (take i order) × LooksTo states r z) ⊎ LooksTo states q z
        go h = from h.0 h.1 h.3 (in_either h.0 old (option_to_list (look_target (node_in states q))) h.2)

    -- The walk returns to the look exactly if it leads back to itself: a previous look that led to it would be on a
    -- cycle.
    pub back_is : IsTrue b ↔ LeadsBack states q
    back_is = (
      λ t. let w = found.0 t in go (led q w.2),
      λ h. found.1 (h.0, h.1, (reached q).1 (h.2.0, h.2.1, root h.0 h.1 h.2.0 h.2.2, h.2.3)),
    )
      where
        go : ((r : ℕ) × In r (take i order) × LooksTo states r q) ⊎ LooksTo states q q → LeadsBack states q
        go (inl w) =
            let cycle = (whole.order i q w.0 (nth_read order i q l read) w.1).1 (leads_by states w.0 q w.2) in
            absurd (tried.none w.0 w.1 (looks_to states w.0 w.2.0 w.0 w.2.1 cycle))
        go (inr w) = w

        root : (next : ℕ) → look_target (node_in states q) ≡ Some next → (r : ℕ) → In r (next ∷ [])
            → In r (old ++ option_to_list (look_target (node_in states q)))
        root next e r k =
            in_right r old (option_to_list (look_target (node_in states q)))
            (subst (λ v. In r (option_to_list v)) (sym e) k)

    pub one_tried : b ≡ false → IsTried states order (i + 1) new
    one_tried e = record {
      none = λ r j back. none r (in_either r (take i order) (q ∷ []) (subst (λ z. In r z) front j)) back;
      sound = λ z j. sound z (led z j);
      closed = λ p r j k.
          let h = (reached p).0 j in
          let w = way_more (targets_of Epsilon states) h.0 h.1 p r h.3 k in
          (reached r).1 (h.0, w.0, h.2, w.1);
    }
      where
        none : (r : ℕ) → In r (take i order) ⊎ In r (q ∷ []) → LeadsBack states r → ⊥
        none r (inl j) back = tried.none r j back
        none r (inr (inl f)) back = true≢false (sym (back_is.1 (subst (LeadsBack states) f back)) ∙ e)
        none r (inr (inr j)) back = j

        sound : (z : ℕ) → ((r : ℕ) × In r (take i order) × LooksTo states r z) ⊎ LooksTo states q z
            → (r : ℕ) × In r (take (i + 1) order) × LooksTo states r z
        sound z (inl w) = (w.0, earlier w.0 w.1, w.2)
        sound z (inr w) = (q, last, w)

    pub one_back : b ≡ true → IsTrue false ↔ AreLooksAcyclic states
    one_back e = (λ t. absurd (true≢false (sym t)), λ h. absurd (h q (back_is.0 e)))

pub all_tried :
    (states : List State) (order : List ℕ) (i : ℕ) (items : List ℕ) → length order ≤ i
    → IsWholeOrder (length states) (targets_of Epsilon states) order → IsTried states order i items
    → IsTrue true ↔ AreLooksAcyclic states
all_tried states order i items l whole tried = (λ _ q back. go q back (cases_lt q (length states)), λ _. refl)
  where
    go : (q : ℕ) → LeadsBack states q → (q < length states) ⊎ (length states ≤ q) → ⊥
    go q back (inl m) = tried.none q (subst (λ z. In q z) (sym (take_all i order l)) (whole.whole q m)) back
    go q back (inr m) = none_some (sym (past_all states q m) ∙ back.1)

-- Where no look occurs, none leads back to itself.
pub no_look_acyclic :
    (states : List State) (looks : ℕ)
    → ((other : Look)
    → truth_of looks other ≡ any_node (λ look. eqb (look_index look) (look_index other)) (nodes_of states))
    → eqb looks 0 ≡ true → AreLooksAcyclic states
no_look_acyclic states looks are none q back =
    let w = look_is (node_in states q) back.0 back.1 in
    let occurs =
    any_node_from (λ look. eqb (look_index look) (look_index w.0)) (nodes_of states) q w.0 back.0 w.1
    (eq-eqb (look_index w.0) (look_index w.0) refl) in
    true≢false
    (sym (are w.0 ∙ occurs) ∙ ap (λ bits. truth_of bits w.0) (eqb-true looks 0 none) ∙ truth_of_none w.0)
