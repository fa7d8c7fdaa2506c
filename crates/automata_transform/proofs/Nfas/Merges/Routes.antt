-- Which paths of an NFA and of the merged one correspond. Corresponding paths are ordered alike.
use Rattle.std.proofs.Common.{ℕ, suc, ◌≡◌, ◌<◌, ◌≤◌, List, [], ◌∷◌, ◌⊎◌, ◌↔◌, length, Some, inl, inr, refl, sym, ap}
use Rattle.std.proofs.Common.{◌∙◌, subst, arith}
use Rattle.std.specs.Prelude.{slice_get}
use Rattle.automata_transform.specs.Nfas.Merges.{stood_for}
use Rattle.automata_base.specs.Nfas.Nfa.{Nfa, Node, Split, Assert, Read, Accept, node, takes, takes_in}
use Rattle.automata_base.specs.Paths.Paths.{Tape}
use Rattle.automata_base.proofs.Paths.Orders.{some_inj}
use Rattle.automata_transform.proofs.Nfas.Merges.Comparing.{Compares, both_ways, other_way, same_head, with_equal}
use Rattle.automata_transform.proofs.Nfas.Merges.Parts.{IsPart, parts_order, IsPicked, picked_order}

module _ (n m : Nfa) (lists : List (List ℕ)) (t : Tape) where
  -- The states that a state of the merged NFA stands for.
  abbrev pub meant : ℕ → List ℕ
  meant z = stood_for (length n.nodes) lists z

  -- Edge `j` of a node that stands for the list corresponds to a path of the first NFA from state `k` of the list.
  -- `Next` relates how both continue: at a position, from a state of the merged NFA and one of the states that it
  -- stands for.
  abbrev pub Turns :
      (Next : ℕ → ℕ → ℕ → List ℕ → Type 0) → (i : ℕ) → Node → (list : List ℕ) → (k : ℕ) → (path : List ℕ) → (j : ℕ)
      → Type 0
  Turns Next i (Split alternates) list k path j =
      (z o : ℕ) × (slice_get alternates j ≡ Some z) × IsPart meant alternates j o k × Next i z o path
  Turns Next i (Assert look next) list k path j = ⊥
  Turns Next i (Read ranges) list k path j =
      (u x r o : ℕ) × (rest : List ℕ) × (j ≡ 0) × (path ≡ 0 ∷ rest) × (slice_get t.bytes i ≡ Some u)
      × (takes_in ranges u ≡ Some r) × IsPicked (λ b. takes n b u) list k o x × Next (suc i) r o rest
  Turns Next i (Accept p) list k path j = ⊥

  -- Edge `j` of a state of the first NFA, whose node is `shown` in the merged NFA and `own` in the first NFA.
  abbrev pub Keeps :
      (Next : ℕ → ℕ → ℕ → List ℕ → Type 0) → (i : ℕ) → (shown own : Node) → (path : List ℕ) → (j : ℕ) → Type 0
  Keeps Next i shown (Split alternates) path j =
      (k : ℕ) × (rest : List ℕ) × (path ≡ k ∷ rest) × Turns Next i shown alternates k rest j
  Keeps Next i shown (Assert look next) path j =
      (rest : List ℕ) × (j ≡ 0) × (path ≡ 0 ∷ rest) × Next i next 0 rest
  Keeps Next i shown (Read ranges) path j =
      (u r : ℕ) × (rest : List ℕ) × (j ≡ 0) × (path ≡ 0 ∷ rest) × (slice_get t.bytes i ≡ Some u)
      × (takes_in ranges u ≡ Some r) × Next (suc i) r 0 rest
  Keeps Next i shown (Accept p) path j = ⊥

  -- The path `other` of the merged NFA from `z` at position `i` corresponds to the path from state `k` of those that
  -- `z` stands for.
  abbrev pub Corresponds : (other : List ℕ) → (i z k : ℕ) → (path : List ℕ) → Type 0
  Corresponds [] i z k path = (z < length n.nodes) × (k ≡ 0) × (path ≡ [])
  Corresponds (j ∷ rest) i z k path =
      ((z < length n.nodes) × (k ≡ 0) × Keeps (Corresponds rest) i (node m z) (node n z) path j)
      ⊎ ((length n.nodes ≤ z) × Turns (Corresponds rest) i (node m z) (meant z) k path j)

  module _ (E B U : Type 0) where
    -- Two remaining paths compare alike wherever they continue from the same state.
    abbrev pub Alike : (X Y : ℕ → ℕ → ℕ → List ℕ → Type 0) → (a b : List ℕ) → Type 0
    Alike X Y a b =
        (i z k1 k2 : ℕ) (p1 p2 : List ℕ) → X i z k1 p1 → Y i z k2 p2
        → Compares E B U a b ↔ Compares E B U (k1 ∷ p1) (k2 ∷ p2)

    turns_order :
        (X Y : ℕ → ℕ → ℕ → List ℕ → Type 0) (a b : List ℕ) (ih : Alike X Y a b)
        (i : ℕ) (x : Node) (list : List ℕ) (k1 k2 : ℕ) (p1 p2 : List ℕ) (j1 j2 : ℕ)
        → Turns X i x list k1 p1 j1 → Turns Y i x list k2 p2 j2
        → Compares E B U (j1 ∷ a) (j2 ∷ b) ↔ Compares E B U (k1 ∷ p1) (k2 ∷ p2)
    turns_order X Y a b ih i (Split alternates) list k1 k2 p1 p2 j1 j2 g h = (to, from)
      where
        order :
            ((k1 < k2) ↔ ((j1 < j2) ⊎ ((j1 ≡ j2) × (g.1 < h.1)))) × ((k1 ≡ k2) ↔ ((j1 ≡ j2) × (g.1 ≡ h.1)))
        order = parts_order meant alternates j1 g.1 k1 j2 h.1 k2 g.3 h.3

        one : j1 ≡ j2 → h.0 ≡ g.0
        one e = some_inj (sym h.2 ∙ (ap (λ v. slice_get alternates v) (sym e) ∙ g.2))

        rest : j1 ≡ j2 → Compares E B U a b ↔ Compares E B U (g.1 ∷ p1) (h.1 ∷ p2)
        rest e = ih i g.0 g.1 h.1 p1 p2 g.4 (subst (λ v. Y i v h.1 p2) (one e) h.4)

        to2 : j1 ≡ j2 → Compares E B U (g.1 ∷ p1) (h.1 ∷ p2) → Compares E B U (k1 ∷ p1) (k2 ∷ p2)
        to2 e (inl c) = inl (c.0, order.0.1 (inr (e, c.1)))
        to2 e (inr c) = inr (order.1.1 (e, c.0), c.1)

        to : Compares E B U (j1 ∷ a) (j2 ∷ b) → Compares E B U (k1 ∷ p1) (k2 ∷ p2)
        to (inl c) = inl (c.0, order.0.1 (inl c.1))
        to (inr c) = to2 c.0 ((rest c.0).0 c.1)

        from2 : U → (j1 < j2) ⊎ ((j1 ≡ j2) × (g.1 < h.1)) → Compares E B U (j1 ∷ a) (j2 ∷ b)
        from2 u (inl l) = inl (u, l)
        from2 u (inr l) = inr (l.0, (rest l.0).1 (inl (u, l.1)))

        from : Compares E B U (k1 ∷ p1) (k2 ∷ p2) → Compares E B U (j1 ∷ a) (j2 ∷ b)
        from (inl c) = from2 c.0 (order.0.0 c.1)
        from (inr c) = let e = order.1.0 c.0 in inr (e.0, (rest e.0).1 (inr (e.1, c.1)))
    turns_order X Y a b ih i (Assert look next) list k1 k2 p1 p2 j1 j2 g h = absurd g
    turns_order X Y a b ih i (Accept p) list k1 k2 p1 p2 j1 j2 g h = absurd g
    turns_order X Y a b ih i (Read ranges) list k1 k2 p1 p2 j1 j2 g h =
        both_ways (same_head E B U j1 j2 a b (g.5 ∙ sym h.5))
        (with_equal E B U (Compares E B U a b) (k1 ∷ p1) (k2 ∷ p2) (k1 ∷ (0 ∷ g.4)) (k2 ∷ (0 ∷ h.4))
        (ap (λ v. k1 ∷ v) g.6) (ap (λ v. k2 ∷ v) h.6) (both_ways rest swapped))
      where
        byte : h.0 ≡ g.0
        byte = some_inj (sym h.7 ∙ g.7)

        target : h.2 ≡ g.2
        target = some_inj (sym h.8 ∙ (ap (λ v. takes_in ranges v) byte ∙ g.8))

        rest : Compares E B U a b ↔ Compares E B U (g.3 ∷ g.4) (h.3 ∷ h.4)
        rest = ih (suc i) g.2 g.3 h.3 g.4 h.4 g.10 (subst (λ v. Y (suc i) v h.3 h.4) target h.10)

        order : ((k1 < k2) ↔ (g.3 < h.3)) × ((k1 ≡ k2) ↔ (g.3 ≡ h.3))
        order =
            picked_order (λ b. takes n b g.0) list k1 g.3 g.1 k2 h.3 h.1 g.9
            (subst (λ v. IsPicked (λ b. takes n b v) list k2 h.3 h.1) byte h.9)

        to : Compares E B U (g.3 ∷ g.4) (h.3 ∷ h.4) → Compares E B U (k1 ∷ (0 ∷ g.4)) (k2 ∷ (0 ∷ h.4))
        to (inl c) = inl (c.0, order.0.1 c.1)
        to (inr c) = inr (order.1.1 c.0, inr (refl, c.1))

        from : Compares E B U (k1 ∷ (0 ∷ g.4)) (k2 ∷ (0 ∷ h.4)) → Compares E B U (g.3 ∷ g.4) (h.3 ∷ h.4)
        from (inl c) = inl (c.0, order.0.0 c.1)
        from (inr c) = inr (order.1.0 c.0, (same_head E B U 0 0 g.4 h.4 refl).0 c.1)

        swapped : Compares E B U (g.3 ∷ g.4) (h.3 ∷ h.4) ↔ Compares E B U (k1 ∷ (0 ∷ g.4)) (k2 ∷ (0 ∷ h.4))
        swapped = (to, from)

    keeps_order :
        (X Y : ℕ → ℕ → ℕ → List ℕ → Type 0) (a b : List ℕ) (ih : Alike X Y a b)
        (i : ℕ) (shown own : Node) (p1 p2 : List ℕ) (j1 j2 : ℕ)
        → Keeps X i shown own p1 j1 → Keeps Y i shown own p2 j2
        → Compares E B U (j1 ∷ a) (j2 ∷ b) ↔ Compares E B U p1 p2
    keeps_order X Y a b ih i shown (Split alternates) p1 p2 j1 j2 g h =
        with_equal E B U (Compares E B U (j1 ∷ a) (j2 ∷ b)) p1 p2 (g.0 ∷ g.1) (h.0 ∷ h.1) g.2 h.2
        (turns_order X Y a b ih i shown alternates g.0 h.0 g.1 h.1 j1 j2 g.3 h.3)
    keeps_order X Y a b ih i shown (Assert look next) p1 p2 j1 j2 g h =
        both_ways (same_head E B U j1 j2 a b (g.1 ∙ sym h.1))
        (with_equal E B U (Compares E B U a b) p1 p2 (0 ∷ g.0) (0 ∷ h.0) g.2 h.2
        (ih i next 0 0 g.0 h.0 g.3 h.3))
    keeps_order X Y a b ih i shown (Read ranges) p1 p2 j1 j2 g h =
        both_ways (same_head E B U j1 j2 a b (g.3 ∙ sym h.3))
        (with_equal E B U (Compares E B U a b) p1 p2 (0 ∷ g.2) (0 ∷ h.2) g.4 h.4
        (ih (suc i) g.1 0 0 g.2 h.2 g.7 (subst (λ v. Y (suc i) v 0 h.2) target h.7)))
      where
        target : h.1 ≡ g.1
        target = some_inj (sym h.6 ∙ (ap (λ v. takes_in ranges v) (some_inj (sym h.5 ∙ g.5)) ∙ g.6))
    keeps_order X Y a b ih i shown (Accept p) p1 p2 j1 j2 g h = absurd g

    keeps_more :
        (X : ℕ → ℕ → ℕ → List ℕ → Type 0) (i : ℕ) (shown own : Node) (path : List ℕ) (j : ℕ)
        → Keeps X i shown own path j → (e : ℕ) × (rest : List ℕ) × (path ≡ e ∷ rest)
    keeps_more X i shown (Split alternates) path j g = (g.0, g.1, g.2)
    keeps_more X i shown (Assert look next) path j g = (0, g.0, g.2)
    keeps_more X i shown (Read ranges) path j g = (0, g.2, g.4)
    keeps_more X i shown (Accept p) path j g = absurd g

    -- A path that corresponds to a nonempty path from a state of the first NFA is not empty.
    goes_on :
        (j : ℕ) (a : List ℕ) (i z k : ℕ) (path : List ℕ) → z < length n.nodes → Corresponds (j ∷ a) i z k path
        → (k ≡ 0) × ((e : ℕ) × (rest : List ℕ) × (path ≡ e ∷ rest))
    goes_on j a i z k path l (inl g) = (g.1, keeps_more (Corresponds a) i (node m z) (node n z) path j g.2)
    goes_on j a i z k path l (inr g) = absurd (omega (arith, l, g.0))

    -- Corresponding paths from one state are ordered alike.
    pub same_order : (a b : List ℕ) → Alike (Corresponds a) (Corresponds b) a b
    same_order [] [] i z k1 k2 p1 p2 g h =
        both_ways (with_equal E B U E p1 p2 [] [] g.2 h.2 ((λ e. e), (λ e. e)))
        (other_way (same_head E B U k1 k2 p1 p2 (g.1 ∙ sym h.1)))
    same_order [] (j2 ∷ b) i z k1 k2 p1 p2 g h =
        let more = goes_on j2 b i z k2 p2 g.0 h in
        both_ways (with_equal E B U B p1 p2 [] (more.1.0 ∷ more.1.1) g.2 more.1.2 ((λ e. e), (λ e. e)))
        (other_way (same_head E B U k1 k2 p1 p2 (g.1 ∙ sym more.0)))
    same_order (j1 ∷ a) [] i z k1 k2 p1 p2 g h =
        let more = goes_on j1 a i z k1 p1 h.0 g in
        both_ways (with_equal E B U ⊥ p1 p2 (more.1.0 ∷ more.1.1) [] more.1.2 h.2 ((λ e. e), (λ e. e)))
        (other_way (same_head E B U k1 k2 p1 p2 (more.0 ∙ sym h.1)))
    same_order (j1 ∷ a) (j2 ∷ b) i z k1 k2 p1 p2 g h = go g h (same_order a b)
      where
        go :
            Corresponds (j1 ∷ a) i z k1 p1 → Corresponds (j2 ∷ b) i z k2 p2
            → Alike (Corresponds a) (Corresponds b) a b
            → Compares E B U (j1 ∷ a) (j2 ∷ b) ↔ Compares E B U (k1 ∷ p1) (k2 ∷ p2)
        go (inl g) (inl h) ih =
            both_ways
            (keeps_order (Corresponds a) (Corresponds b) a b ih i (node m z) (node n z) p1 p2 j1 j2 g.2 h.2)
            (other_way (same_head E B U k1 k2 p1 p2 (g.1 ∙ sym h.1)))
        go (inr g) (inr h) ih =
            turns_order (Corresponds a) (Corresponds b) a b ih i (node m z) (meant z) k1 k2 p1 p2 j1 j2 g.1 h.1
        go (inl g) (inr h) ih = absurd (omega (arith, g.0, h.0))
        go (inr g) (inl h) ih = absurd (omega (arith, g.0, h.0))
