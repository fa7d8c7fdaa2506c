-- Helpers: the states that stand for edges and for the match where paths begin.
use Rattle.std.proofs.Common.{ℕ, ◌≡◌, List, [], ◌∷◌, inl, refl, sym, ap, ◌∙◌}
use Rattle.automata_base.specs.declared.nfa.thompson.state.State.{State}
use Rattle.automata_base.specs.declared.nfa.thompson.state.State.TheVariants as is
use Rattle.automata_base.specs.declared.nfa.thompson.reach.Edges.TheVariants.{Every}
use Rattle.automata_base.specs.declared.util.look.Look.{Look}
use Rattle.automata_base.specs.Lists.{In}
use Rattle.automata_base.specs.Nfas.Nfa.{Node, Range, Split, Assert, Read, Accept}
use Rattle.automata_base.specs.Nfas.Nodes.{node_of}
use Rattle.automata_base.specs.Retraced.Reach.{targets_at}
use Rattle.automata_transform.specs.Retraced.ReversedEdges.{copied}

abbrev pub IsHelperState : State → Type 0
IsHelperState (is.ByteRange lo hi next) = Unit {0}
IsHelperState (is.Sparse ts) = ⊥
IsHelperState (is.Dense targets) = ⊥
IsHelperState (is.Look look next) = Unit {0}
IsHelperState (is.Union alternates) = ⊥
IsHelperState (is.BinaryUnion alt1 alt2) = ⊥
IsHelperState (is.Capture next pattern index slot) = ⊥
IsHelperState is.Fail = ⊥
IsHelperState (is.Match pattern) = pattern ≡ 0

abbrev none : Range
none = record { lo = 0; hi = 0; next = 0 }

abbrev range_at : Node → Range
range_at (Split alternates) = none
range_at (Assert look next) = none
range_at (Read []) = none
range_at (Read (r ∷ rs)) = r
range_at (Accept p) = none

-- Helpers with equal copies are equal.
module _ (f : ℕ → ℕ) (p : ℕ) (items : List ℕ) where
  ranges_same :
      (a b x c d y : ℕ) → In x items → In y items → ((x y : ℕ) → In x items → In y items → f x ≡ f y → x ≡ y)
      → copied f p (is.ByteRange a b x) ≡ copied f p (is.ByteRange c d y) → is.ByteRange a b x ≡ is.ByteRange c d y
  ranges_same a b x c d y i j g e =
      let k : a ≡ c = ap (λ z. (range_at z).lo) e in
      let l : b ≡ d = ap (λ z. (range_at z).hi) e in
      let m : x ≡ y = g x y i j (ap (λ z. (range_at z).next) e) in
      cc

  looks_same :
      (k l : Look) (x y : ℕ) → In x items → In y items → ((x y : ℕ) → In x items → In y items → f x ≡ f y → x ≡ y)
      → copied f p (is.Look k x) ≡ copied f p (is.Look l y) → is.Look k x ≡ is.Look l y
  looks_same k l x y i j g e =
      let h : k ≡ l = look e in
      let m : x ≡ y = g x y i j (next e) in
      cc
    where
      look : Assert k (f x) ≡ Assert l (f y) → k ≡ l
      look e = cc

      next : Assert k (f x) ≡ Assert l (f y) → f x ≡ f y
      next e = cc

  pub copied_same :
      (g h : State) → IsHelperState g → IsHelperState h
      → ((x y : ℕ) → In x items → In y items → f x ≡ f y → x ≡ y)
      → ((r : ℕ) → In r (targets_at Every (node_of g)) → In r items)
      → ((r : ℕ) → In r (targets_at Every (node_of h)) → In r items)
      → copied f p g ≡ copied f p h → g ≡ h
  copied_same (is.ByteRange a b x) (is.ByteRange c d y) gp hp s i j e =
      ranges_same a b x c d y (i x (inl refl)) (j y (inl refl)) s e
  copied_same (is.ByteRange a b x) (is.Look l y) gp hp s i j e =
      let k : Read (record { lo = a; hi = b; next = f x } ∷ []) ≡ Assert l (f y) = e in cc
  copied_same (is.ByteRange a b x) (is.Match q) gp hp s i j e =
      let k : Read (record { lo = a; hi = b; next = f x } ∷ []) ≡ Accept p = e in cc
  copied_same (is.Look l x) (is.ByteRange c d y) gp hp s i j e =
      let k : Assert l (f x) ≡ Read (record { lo = c; hi = d; next = f y } ∷ []) = e in cc
  copied_same (is.Look k x) (is.Look l y) gp hp s i j e = looks_same k l x y (i x (inl refl)) (j y (inl refl)) s e
  copied_same (is.Look l x) (is.Match q) gp hp s i j e = let k : Assert l (f x) ≡ Accept p = e in cc
  copied_same (is.Match q) (is.ByteRange c d y) gp hp s i j e =
      let k : Accept p ≡ Read (record { lo = c; hi = d; next = f y } ∷ []) = e in cc
  copied_same (is.Match q) (is.Look l y) gp hp s i j e = let k : Accept p ≡ Assert l (f y) = e in cc
  copied_same (is.Match q) (is.Match r) gp hp s i j e = ap is.Match (gp ∙ sym hp)
  copied_same (is.Sparse ts) h gp hp s i j e = absurd gp
  copied_same (is.Dense ts) h gp hp s i j e = absurd gp
  copied_same (is.Union ts) h gp hp s i j e = absurd gp
  copied_same (is.BinaryUnion x y) h gp hp s i j e = absurd gp
  copied_same (is.Capture next q index slot) h gp hp s i j e = absurd gp
  copied_same is.Fail h gp hp s i j e = absurd gp
  copied_same g (is.Sparse ts) gp hp s i j e = absurd hp
  copied_same g (is.Dense ts) gp hp s i j e = absurd hp
  copied_same g (is.Union ts) gp hp s i j e = absurd hp
  copied_same g (is.BinaryUnion x y) gp hp s i j e = absurd hp
  copied_same g (is.Capture next q index slot) gp hp s i j e = absurd hp
  copied_same g is.Fail gp hp s i j e = absurd hp
