-- A reversed NFA follows the edges of the first NFA backward.
use Rattle.std.proofs.Common.{ℕ, zero, suc, ◌≡◌, ◌<◌, ◌≤◌, ◌+◌, Bool, true, false, cond, List, [], ◌∷◌, ◌⊎◌, length}
use Rattle.std.proofs.Common.{Option, Some, None, inl, inr, refl, sym, ap, ◌∙◌, subst, arith}
use Rattle.automata_base.specs.Lists.{In}
use Rattle.std.specs.Prelude.{slice_get}
use Rattle.automata_base.specs.declared.util.look.Look.{Look}
use Rattle.automata_base.specs.Haystacks.Looks.{within}
use Rattle.automata_base.specs.Nfas.Nfa.{Nfa, Node, Range, Split, Assert, Read, Accept, Truth, node, node_or_fail, hop}
use Rattle.automata_base.specs.Nfas.Nfa.{hop_at, takes, takes_at, takes_in, accepts, accepts_at}
use Rattle.automata_transform.specs.Nfas.Mirrors.{flip, Label, Free, Asks, Reads, HasRange, HasArcAt, HasArc, IsAsking}
use Rattle.automata_transform.specs.Nfas.Mirrors.{IsEdgeTo, TurnsArc, EndsPath, StandsForEdges, JoinsEdges, IsOnlyEdge}
use Rattle.automata_transform.specs.Nfas.Mirrors.{IsAnyLabel, IsReversedArc, IsUseful, IsReversedAt, IsPart, IsMirror}
use Rattle.automata_transform.specs.Nfas.Mirrors.{LeadsTo}
use Rattle.automata_base.proofs.Paths.Orders.{none_some, some_inj}
use Rattle.automata_base.proofs.Paths.Sets.{nth_in, in_nth}
use Rattle.automata_transform.proofs.Nfas.Mirrors.Leads.{kept_back, kept_match, leads_here, leads_on}
use Rattle.automata_transform.proofs.Nfas.Mirrors.Ways.{Bytes, IsWay, HasWay, join, hop_way, move_way, way_grows}

-- The same span seen from its other end. It is `J` positions long.
pub record IsTurn (A B : ℕ → Truth) (b c : Bytes) (J : ℕ) : Type 0 where
  pub looks : (k l : ℕ) (look : Look) → k + l ≡ J → B l (flip look) ≡ A k look
  pub bytes : (k l : ℕ) → suc (k + l) ≡ J → c l ≡ b k

-- A range that has a byte is the one that takes it.
pub record IsApart (n : Nfa) : Type 0 where
  pub apart :
      (q : ℕ) (ranges : List Range) (lo hi next u : ℕ) → node n q ≡ Read ranges → HasRange ranges lo hi next
      → within lo hi u ≡ true → takes_in ranges u ≡ Some next

-- An edge with this label can be followed without reading a byte.
abbrev pub Holds : Truth → Label → Type 0
Holds A Free = Unit {0}
Holds A (Asks look) = A look ≡ true
Holds A (Reads lo hi) = ⊥

cond_true : (b : Bool) (x r : ℕ) → cond b (Some x) None ≡ Some r → (b ≡ true) × (x ≡ r)
cond_true true x r e = (refl, some_inj e)
cond_true false x r e = absurd (none_some e)

hop_arc_at : (x : Node) (A : Truth) (e r : ℕ) → hop_at x A e ≡ Some r → (l : Label) × HasArcAt x l r × Holds A l
hop_arc_at (Split alternates) A e r h = (Free, nth_in alternates e r h, tt)
hop_arc_at (Assert look next) A zero r h = let c = cond_true (A look) next r h in (Asks look, (refl, c.1), c.0)
hop_arc_at (Assert look next) A (suc e) r h = absurd (none_some h)
hop_arc_at (Read ranges) A e r h = absurd (none_some h)
hop_arc_at (Accept p) A e r h = absurd (none_some h)

arc_hop_at : (x : Node) (A : Truth) (l : Label) (r : ℕ) → HasArcAt x l r → Holds A l → (e : ℕ) × (hop_at x A e ≡ Some r)
arc_hop_at (Split alternates) A Free r h k = in_nth alternates r h
arc_hop_at (Split alternates) A (Asks look) r h k = absurd h
arc_hop_at (Split alternates) A (Reads lo hi) r h k = absurd h
arc_hop_at (Assert asked to) A Free r h k = absurd h
arc_hop_at (Assert asked to) A (Asks look) r h k = (
  0,
  ap (λ v. cond v (Some to) None) (ap A h.0 ∙ k) ∙ ap Some h.1,
)
arc_hop_at (Assert asked to) A (Reads lo hi) r h k = absurd h
arc_hop_at (Read ranges) A Free r h k = absurd h
arc_hop_at (Read ranges) A (Asks look) r h k = absurd h
arc_hop_at (Read ranges) A (Reads lo hi) r h k = absurd k
arc_hop_at (Accept p) A Free r h k = absurd h
arc_hop_at (Accept p) A (Asks look) r h k = absurd h
arc_hop_at (Accept p) A (Reads lo hi) r h k = absurd h

range_of_takes :
    (ranges : List Range) (u r : ℕ) → takes_in ranges u ≡ Some r
    → (lo hi : ℕ) × HasRange ranges lo hi r × (within lo hi u ≡ true)
range_of_takes [] u r h = absurd (none_some h)
range_of_takes (x ∷ xs) u r h = go (within x.lo x.hi u) refl h (range_of_takes xs u r)
  where
    go :
        (b : Bool) → within x.lo x.hi u ≡ b → cond b (Some x.next) (takes_in xs u) ≡ Some r
        → (takes_in xs u ≡ Some r → (lo hi : ℕ) × HasRange xs lo hi r × (within lo hi u ≡ true))
        → (lo hi : ℕ) × HasRange (x ∷ xs) lo hi r × (within lo hi u ≡ true)
    go true w h ih =
        let same =
        subst
        (λ (v : ℕ). ◌≡◌ {A = Option Range} (Some x) (Some (record { lo = x.lo; hi = x.hi; next = v })))
        (some_inj h) refl in
        (x.lo, x.hi, (0, same), w)
    go false w h ih = let k = ih h in (k.0, k.1, (suc k.2.0, k.2.1), k.3)

takes_arc_at :
    (x : Node) (u r : ℕ) → takes_at x u ≡ Some r → (lo hi : ℕ) × HasArcAt x (Reads lo hi) r × (within lo hi u ≡ true)
takes_arc_at (Split alternates) u r h = absurd (none_some h)
takes_arc_at (Assert look next) u r h = absurd (none_some h)
takes_arc_at (Read ranges) u r h = range_of_takes ranges u r h
takes_arc_at (Accept p) u r h = absurd (none_some h)

arc_takes :
    (n : Nfa) (q lo hi r u : ℕ) → IsApart n → HasArc n q (Reads lo hi) r → within lo hi u ≡ true → takes n q u ≡ Some r
arc_takes n q lo hi r u a h w = go (node n q) refl h
  where
    go : (x : Node) → node n q ≡ x → HasArcAt x (Reads lo hi) r → takes n q u ≡ Some r
    go (Split alternates) e h = absurd h
    go (Assert look next) e h = absurd h
    go (Read ranges) e h = ap (λ v. takes_at v u) e ∙ a.apart q ranges lo hi r u e h w
    go (Accept p) e h = absurd h

-- A state with an edge is a state of the NFA, and so is what it leads to.
pub arc_inside : (n : Nfa) (q : ℕ) (l : Label) (r : ℕ) → HasArc n q l r → q < length n.nodes
arc_inside n q l r h = go n.nodes q h
  where
    go : (xs : List Node) (q : ℕ) → HasArcAt (node_or_fail (slice_get xs q)) l r → q < length xs
    go [] q h = absurd (none l h)
      where
        none : (l : Label) → HasArcAt (Split []) l r → ⊥
        none Free h = h
        none (Asks look) h = h
        none (Reads lo hi) h = h
    go (x ∷ xs) zero h = omega arith
    go (x ∷ xs) (suc q) h = let k = go xs q h in omega (arith, k)

pub accept_inside : (n : Nfa) (q p : ℕ) → accepts n q ≡ Some p → q < length n.nodes
accept_inside n q p h = go n.nodes q h
  where
    go : (xs : List Node) (q : ℕ) → accepts_at (node_or_fail (slice_get xs q)) ≡ Some p → q < length xs
    go [] q h = absurd (none_some h)
    go (x ∷ xs) zero h = omega arith
    go (x ∷ xs) (suc q) h = let k = go xs q h in omega (arith, k)

-- The edges of a state, by its kind of node.
split_hop :
    (m : Nfa) (A : Truth) (q : ℕ) (xs : List ℕ) (x : ℕ) → node m q ≡ Split xs → In x xs → (e : ℕ)
    × (hop m A q e ≡ Some x)
split_hop m A q xs x s i = let k = in_nth xs x i in (k.0, ap (λ v. hop_at v A k.0) s ∙ k.1)

hop_split : (m : Nfa) (A : Truth) (q : ℕ) (xs : List ℕ) (e x : ℕ) → node m q ≡ Split xs → hop m A q e ≡ Some x → In x xs
hop_split m A q xs e x s h = nth_in xs e x (sym (ap (λ v. hop_at v A e) s) ∙ h)

-- `m` is the reverse of `n`, and the span is seen from both ends.
module _ (n m : Nfa) (first root : ℕ) (entries : List ℕ)
    (A B : ℕ → Truth) (b c : Bytes) (J : ℕ)
    (apart : IsApart n)
    (mirror : IsMirror n m first entries root) (turn : IsTurn A B b c J) where
  not_split : (z : ℕ) (xs : List ℕ) (p : ℕ) → node m z ≡ Split xs → accepts m z ≡ Some p → ⊥
  not_split z xs p s a = none_some (sym (ap accepts_at s) ∙ a)

  assert_hop :
      (x next e r : ℕ) (look : Look) (C : Truth) → node m x ≡ Assert look next → hop m C x e ≡ Some r
      → (C look ≡ true) × (next ≡ r)
  assert_hop x next zero r look C is h = cond_true (C look) next r (sym (ap (λ v. hop_at v C 0) is) ∙ h)
  assert_hop x next (suc e) r look C is h = absurd (none_some (sym (ap (λ v. hop_at v C (suc e)) is) ∙ h))

  -- The part of one pattern.
  module _ (p entry : ℕ) (place : ℕ → ℕ) (part : IsPart n m first p entry place) where
    -- Ways from the state that stands for `t` to its alternates.
    enters :
        (t k x : ℕ) (xs : List ℕ) → IsReversedAt n m first p place t xs → In x xs → HasWay m B c k (place t) k x
    enters t k x xs at i = go at.stands
      where
        one : (y : ℕ) → In x (y ∷ []) → x ≡ y
        one y (inl e) = e
        one y (inr j) = absurd j

        go : StandsForEdges n m first p place t xs → HasWay m B c k (place t) k x
        go (JoinsEdges s) = let h = split_hop m (B k) (place t) xs x s i in hop_way m B c k (place t) h.0 x h.1
        go (IsOnlyEdge e f) = ([], (refl, sym (one (place t) (subst (λ v. In x v) e i))))

    -- The way back from an edge's target to its source.
    back_hop :
        (s t : ℕ) (l : Label) (k k' : ℕ) → IsUseful n first p s → IsUseful n first p t → k + k' ≡ J → HasArc n s l t
        → Holds (A k) l → HasWay m B c k' (place t) k' (place s)
    back_hop s t l k k' ks kt e arc holds = go l arc holds (at.1.arcs s l ks arc)
      where
        at : (xs : List ℕ) × IsReversedAt n m first p place t xs
        at = part.turned t kt

        go :
            (l : Label) → HasArc n s l t → Holds (A k) l → (x : ℕ) × In x at.0 × IsReversedArc m x l (place s)
            → HasWay m B c k' (place t) k' (place s)
        go Free arc holds w = subst (λ v. HasWay m B c k' (place t) k' v) w.2 (enters t k' w.0 at.0 at.1 w.1)
        go (Asks look) arc holds w =
            join m B c k' (place t) k' w.0 k' (place s) (enters t k' w.0 at.0 at.1 w.1)
            (hop_way m B c k' w.0 0 (place s)
            (ap (λ v. hop_at v (B k') 0) w.2 ∙ ap (λ v. cond v (Some (place s)) None) (turn.looks k k' look e ∙ holds)))
        go (Reads lo hi) arc holds w = absurd holds

    back_move :
        (s t u lo hi k k' : ℕ) → IsUseful n first p s → IsUseful n first p t → suc (k + k') ≡ J → b k ≡ Some u
        → HasArc n s (Reads lo hi) t → within lo hi u ≡ true → HasWay m B c k' (place t) (suc k') (place s)
    back_move s t u lo hi k k' ks kt e byte arc has =
        join m B c k' (place t) k' w.0 (suc k') (place s) (enters t k' w.0 at.0 at.1 w.1)
        (move_way m B c k' w.0 u (place s) (turn.bytes k k' e ∙ byte)
        (ap (λ v. takes_at v u) w.2 ∙ ap (λ v. cond v (Some (place s)) None) has))
      where
        at : (xs : List ℕ) × IsReversedAt n m first p place t xs
        at = part.turned t kt

        w : (x : ℕ) × In x at.0 × IsReversedArc m x (Reads lo hi) (place s)
        w = at.1.arcs s (Reads lo hi) ks arc

    -- A way to a kept state gives a way back.
    abbrev pub GoesBack : ℕ → ℕ → ℕ → ℕ → Type 0
    GoesBack j' z i' q = IsUseful n first p q × HasWay m B c j' (place z) i' (place q)

    pub turned_back :
        (i q : ℕ) (path : List ℕ) (j z i' j' : ℕ) → LeadsTo n first q → IsUseful n first p z → i + i' ≡ J → j + j' ≡ J
        → IsWay n A b i q path j z → GoesBack j' z i' q
    turned_back i q [] j z i' j' rq kz e f h = (
      subst (λ v. IsUseful n first p v) (sym h.1) kz,
      ([], (omega (arith, e, f, h.0), ap place (sym h.1))),
    )
    turned_back i q (e ∷ path) j z i' j' rq kz d f (inl h) =
        on (turned_back i h.0 path j z i' j' (leads_on n first q h.0 l.0 rq l.1) kz d f h.2)
      where
        l : (l : Label) × HasArc n q l h.0 × Holds (A i) l
        l = hop_arc_at (node n q) (A i) e h.0 h.1

        on : GoesBack j' z i' h.0 → GoesBack j' z i' q
        on g = (kq, join m B c j' (place z) i' (place h.0) i' (place q) g.1 (back_hop q h.0 l.0 i i' kq g.0 d l.1 l.2))
          where
            kq : IsUseful n first p q
            kq = kept_back n first p q h.0 l.0 rq l.1 g.0
    turned_back i q (e ∷ path) j z i' j' rq kz d f (inr h) =
        go i' d (λ k g. turned_back (suc i) h.0 path j z k j' (leads_on n first q h.0 (Reads arc.0 arc.1) rq arc.2) kz g
        f h.4)
      where
        arc : (lo hi : ℕ) × HasArc n q (Reads lo hi) h.0 × (within lo hi h.1 ≡ true)
        arc = takes_arc_at (node n q) h.1 h.0 h.3

        more : suc i ≤ j
        more = way_grows n A b (suc i) h.0 path j z h.4

        go : (i' : ℕ) → i + i' ≡ J → ((k : ℕ) → suc i + k ≡ J → GoesBack j' z k h.0) → GoesBack j' z i' q
        go zero d ih = absurd (omega (arith, d, f, more))
        go (suc k) d ih = (
          kq,
          join m B c j' (place z) k (place h.0) (suc k) (place q) g.1
              (back_move q h.0 h.1 arc.0 arc.1 i k kq g.0 (omega (arith, d)) h.2 arc.2 arc.3),
        )
          where
            g : GoesBack j' z k h.0
            g = ih k (omega (arith, d))

            kq : IsUseful n first p q
            kq = kept_back n first p q h.0 (Reads arc.0 arc.1) rq arc.2 g.0

    -- What a state of the part stands for: the state `t`, an edge that leads to `t`, or the match where paths begin.
    abbrev pub Stands : ℕ → ℕ → Type 0
    Stands x t = (x ≡ place t) ⊎ IsEdgeTo n m first p place IsAnyLabel t x

    abbrev pub Comes : ℕ → ℕ → ℕ → ℕ → Type 0
    Comes p' j' i' t = (p' ≡ p) × HasWay n A b j' first i' t

    -- One more edge.
    comes_hop :
        (p' j' i i' s t : ℕ) (l : Label) → i + i' ≡ J → HasArc n s l t → Holds (A i') l → Comes p' j' i' s
        → Comes p' j' i' t
    comes_hop p' j' i i' s t l d arc holds w =
        let h = arc_hop_at (node n s) (A i') l t arc holds in
        (w.0, join n A b j' first i' s i' t w.1 (hop_way n A b i' s h.0 t h.1))

    abbrev pub Goes : List ℕ → Type 0
    Goes path =
        (i x j z i' j' t p' : ℕ) → IsUseful n first p t → i + i' ≡ J → j + j' ≡ J → Stands x t
        → IsWay m B c i x path j z → accepts m z ≡ Some p' → Comes p' j' i' t

    -- Ways from a state that stands for an edge that reads a byte or tests a look.
    from_asking :
        (path : List ℕ) (e : ℕ) → Goes path → (l : Label)
        → (i x j z i' j' s t p' : ℕ) → IsUseful n first p s → i + i' ≡ J → j + j' ≡ J → HasArc n s l t → IsAsking l
        → IsReversedArc m x l (place s) → IsWay m B c i x (e ∷ path) j z → accepts m z ≡ Some p' → Comes p' j' i' t
    from_asking path e ih Free i x j z i' j' s t p' ks d f arc asks turned w a = absurd asks
    from_asking path e ih (Asks look) i x j z i' j' s t p' ks d f arc asks turned (inl h) a =
        let g = assert_hop x (place s) e h.0 (flip look) (B i) turned h.1 in
        comes_hop p' j' i i' s t (Asks look) d arc
        (sym (turn.looks i' i look (omega (arith, d))) ∙ g.0)
        (ih i h.0 j z i' j' s p' ks d f (inl (sym g.1)) h.2 a)
    from_asking path e ih (Asks look) i x j z i' j' s t p' ks d f arc asks turned (inr h) a =
        absurd (none_some (sym (ap (λ v. takes_at v h.1) turned) ∙ h.3))
    from_asking path e ih (Reads lo hi) i x j z i' j' s t p' ks d f arc asks turned (inl h) a =
        absurd (none_some (sym (ap (λ v. hop_at v (B i) e) turned) ∙ h.1))
    from_asking path e ih (Reads lo hi) i x j z i' j' s t p' ks d f arc asks turned (inr h) a = go i' d
      where
        more : suc i ≤ j
        more = way_grows m B c (suc i) h.0 path j z h.4

        taken : (within lo hi h.1 ≡ true) × (place s ≡ h.0)
        taken = cond_true (within lo hi h.1) (place s) h.0 (sym (ap (λ v. takes_at v h.1) turned) ∙ h.3)

        go : (i' : ℕ) → i + i' ≡ J → Comes p' j' i' t
        go zero d = absurd (omega (arith, d, f, more))
        go (suc k) d =
            let w = ih (suc i) h.0 j z k j' s p' ks (omega (arith, d)) f (inl (sym taken.1)) h.4 a in (
              w.0,
              join n A b j' first k s (suc k) t w.1
                  (move_way n A b k s h.1 t (sym (turn.bytes k i (omega (arith, d))) ∙ h.2)
                  (arc_takes n s lo hi t h.1 apart arc taken.0)),
            )

    -- No way continues from a match.
    from_match :
        (path : List ℕ) (e i x j z : ℕ) (C : Type 0) → node m x ≡ Accept p → IsWay m B c i x (e ∷ path) j z → C
    from_match path e i x j z C is (inl h) = absurd (none_some (sym (ap (λ v. hop_at v (B i) e) is) ∙ h.1))
    from_match path e i x j z C is (inr h) = absurd (none_some (sym (ap (λ v. takes_at v h.1) is) ∙ h.3))

    -- Ways from a state that stands for `t`, once the first edge is known.
    from_place :
        (path : List ℕ) (e : ℕ) → Goes path
        → (i x j z i' j' t p' : ℕ) → IsUseful n first p t → i + i' ≡ J → j + j' ≡ J → x ≡ place t
        → IsWay m B c i x (e ∷ path) j z → accepts m z ≡ Some p' → Comes p' j' i' t
    from_place path e ih i x j z i' j' t p' kt d f same w a = go at.1.stands
      where
        at : (xs : List ℕ) × IsReversedAt n m first p place t xs
        at = part.turned t kt

        by_union : node m x ≡ Split at.0 → IsWay m B c i x (e ∷ path) j z → Comes p' j' i' t
        by_union is (inl h) =
            ih i h.0 j z i' j' t p' kt d f
            (inr (at.1.sound h.0 (hop_split m (B i) x at.0 e h.0 is h.1))) h.2 a
        by_union is (inr h) = absurd (none_some (sym (ap (λ v. takes_at v h.1) is) ∙ h.3))

        by_edge : IsEdgeTo n m first p place IsAsking t (place t) → Comes p' j' i' t
        by_edge (TurnsArc s l ks arc asks turned) =
            from_asking path e ih l i x j z i' j' s t p' ks d f arc asks
            (subst (λ v. IsReversedArc m v l (place s)) (sym same) turned) w a
        by_edge (EndsPath begins is) = from_match path e i x j z (Comes p' j' i' t) (ap (λ v. node m v) same ∙ is) w

        go : StandsForEdges n m first p place t at.0 → Comes p' j' i' t
        go (JoinsEdges is) = by_union (ap (λ v. node m v) same ∙ is) w
        go (IsOnlyEdge is g) = by_edge g

    from_edge :
        (path : List ℕ) (e : ℕ) → Goes path → (l : Label)
        → (i x j z i' j' s t p' : ℕ) → IsUseful n first p s → i + i' ≡ J → j + j' ≡ J → HasArc n s l t
        → IsReversedArc m x l (place s) → IsWay m B c i x (e ∷ path) j z → accepts m z ≡ Some p' → Comes p' j' i' t
    from_edge path e ih Free i x j z i' j' s t p' ks d f arc turned w a =
        comes_hop p' j' i i' s t Free d arc tt (from_place path e ih i x j z i' j' s p' ks d f turned w a)
    from_edge path e ih (Asks look) i x j z i' j' s t p' ks d f arc turned w a =
        from_asking path e ih (Asks look) i x j z i' j' s t p' ks d f arc tt turned w a
    from_edge path e ih (Reads lo hi) i x j z i' j' s t p' ks d f arc turned w a =
        from_asking path e ih (Reads lo hi) i x j z i' j' s t p' ks d f arc tt turned w a

    -- A way that ends at a match.
    stop_reported : (i j z i' j' t p' : ℕ) → i + i' ≡ J → j + j' ≡ J → i ≡ j → t ≡ first → node m z ≡ Accept p
        → accepts m z ≡ Some p' → Comes p' j' i' t
    stop_reported i j z i' j' t p' d f same begins is a = (
      some_inj (sym a ∙ ap accepts_at is),
      ([], (omega (arith, d, f, same), sym begins)),
    )

    stop_asking :
        (l : Label) (x z y p' : ℕ) (C : Type 0) → IsAsking l → IsReversedArc m x l y → x ≡ z → accepts m z ≡ Some p' → C
    stop_asking Free x z y p' C asks turned same a = absurd asks
    stop_asking (Asks look) x z y p' C asks turned same a =
        absurd (none_some (sym (ap accepts_at (ap (λ v. node m v) (sym same) ∙ turned)) ∙ a))
    stop_asking (Reads lo hi) x z y p' C asks turned same a =
        absurd (none_some (sym (ap accepts_at (ap (λ v. node m v) (sym same) ∙ turned)) ∙ a))

    stop_place :
        (i j z i' j' t p' : ℕ) → IsUseful n first p t → i + i' ≡ J → j + j' ≡ J → i ≡ j → place t ≡ z
        → accepts m z ≡ Some p'
        → Comes p' j' i' t
    stop_place i j z i' j' t p' kt d f same here a = go at.1.stands
      where
        at : (xs : List ℕ) × IsReversedAt n m first p place t xs
        at = part.turned t kt

        by_edge : IsEdgeTo n m first p place IsAsking t (place t) → Comes p' j' i' t
        by_edge (TurnsArc s l ks arc asks turned) =
            stop_asking l (place t) z (place s) p' (Comes p' j' i' t) asks turned here a
        by_edge (EndsPath begins is) =
            stop_reported i j z i' j' t p' d f same begins (ap (λ v. node m v) (sym here) ∙ is) a

        go : StandsForEdges n m first p place t at.0 → Comes p' j' i' t
        go (JoinsEdges is) = absurd (not_split z at.0 p' (ap (λ v. node m v) (sym here) ∙ is) a)
        go (IsOnlyEdge is g) = by_edge g

    -- A way back to a match gives a way forward.
    pub turned_forth : (path : List ℕ) → Goes path
    turned_forth [] i x j z i' j' t p' kt d f (inl same) w a =
        stop_place i j z i' j' t p' kt d f w.0 (sym same ∙ w.1) a
    turned_forth [] i x j z i' j' t p' kt d f (inr (TurnsArc s l ks arc any turned)) w a = go l arc turned
      where
        go : (l : Label) → HasArc n s l t → IsReversedArc m x l (place s) → Comes p' j' i' t
        go Free arc turned =
            comes_hop p' j' i i' s t Free d arc tt (stop_place i j z i' j' s p' ks d f w.0 (sym turned ∙ w.1) a)
        go (Asks look) arc turned = stop_asking (Asks look) x z (place s) p' (Comes p' j' i' t) tt turned w.1 a
        go (Reads lo hi) arc turned = stop_asking (Reads lo hi) x z (place s) p' (Comes p' j' i' t) tt turned w.1 a
    turned_forth [] i x j z i' j' t p' kt d f (inr (EndsPath begins is)) w a =
        stop_reported i j z i' j' t p' d f w.0 begins (ap (λ v. node m v) (sym w.1) ∙ is) a
    turned_forth (e ∷ path) i x j z i' j' t p' kt d f (inl same) w a =
        from_place path e (turned_forth path) i x j z i' j' t p' kt d f same w a
    turned_forth (e ∷ path) i x j z i' j' t p' kt d f (inr (TurnsArc s l ks arc any turned)) w a =
        from_edge path e (turned_forth path) l i x j z i' j' s t p' ks d f arc turned w a
    turned_forth (e ∷ path) i x j z i' j' t p' kt d f (inr (EndsPath begins is)) w a =
        from_match path e i x j z (Comes p' j' i' t) is w

    -- Ways from the entry.
    entry_back :
        (q : ℕ) → HasWay n A b 0 first J q → accepts n q ≡ Some p
        → (z : ℕ) × HasWay m B c 0 entry J z × (accepts m z ≡ Some p)
    entry_back q w a = (reported.0, way, ap accepts_at reported.2)
      where
        along : (i r : ℕ) (path : List ℕ) (j z : ℕ) → LeadsTo n first r → IsWay n A b i r path j z → LeadsTo n first z
        along i r [] j z k h = subst (λ v. LeadsTo n first v) h.1 k
        along i r (e ∷ path) j z k (inl h) =
            let l = hop_arc_at (node n r) (A i) e h.0 h.1 in along i h.0 path j z (leads_on n first r h.0 l.0 k l.1) h.2
        along i r (e ∷ path) j z k (inr h) =
            let l = takes_arc_at (node n r) h.1 h.0 h.3 in
            along (suc i) h.0 path j z (leads_on n first r h.0 (Reads l.0 l.1) k l.2) h.4

        lq : LeadsTo n first q
        lq = along 0 first w.0 J q (leads_here n first) w.1

        kq : IsUseful n first p q
        kq = kept_match n first p q lq a

        goes : GoesBack 0 q J first
        goes = turned_back 0 first w.0 J q J 0 (leads_here n first) kq (omega arith) (omega arith) w.1

        start : (e : ℕ) × (hop m (B 0) entry e ≡ Some (place q))
        start =
            split_hop m (B 0) entry part.enters.0 (place q) part.enters.1.union
            (part.enters.1.matches q lq a)

        at : (xs : List ℕ) × IsReversedAt n m first p place first xs
        at = part.turned first goes.0

        reported : (x : ℕ) × In x at.0 × (node m x ≡ Accept p)
        reported = at.1.reported refl

        way : HasWay m B c 0 entry J reported.0
        way =
            join m B c 0 entry 0 (place q) J reported.0 (hop_way m B c 0 entry start.0 (place q) start.1)
            (join m B c 0 (place q) J (place first) J reported.0 goes.1
            (enters first J reported.0 at.0 at.1 reported.1))

    entry_forth :
        (path : List ℕ) (p' z : ℕ) → IsWay m B c 0 entry path J z → accepts m z ≡ Some p'
        → (p' ≡ p) × ((q : ℕ) × HasWay n A b 0 first J q × (accepts n q ≡ Some p'))
    entry_forth [] p' z w a =
        absurd (not_split z part.enters.0 p' (ap (λ v. node m v) (sym w.1) ∙ part.enters.1.union) a)
    entry_forth (e ∷ path) p' z (inl h) a = (g.0, (q.0, g.1, q.2 ∙ ap Some (sym g.0)))
      where
        q : (q : ℕ) × IsUseful n first p q × (accepts n q ≡ Some p) × (h.0 ≡ place q)
        q = part.enters.1.sound h.0 (hop_split m (B 0) entry part.enters.0 e h.0 part.enters.1.union h.1)

        g : Comes p' 0 J q.0
        g = turned_forth path 0 h.0 J z J 0 q.0 p' q.1 (omega arith) (omega arith) (inl q.3) h.2 a
    entry_forth (e ∷ path) p' z (inr h) a =
        absurd (none_some (sym (ap (λ v. takes_at v h.1) part.enters.1.union) ∙ h.3))

  -- An accepting way of the pattern, forward from the first state, or back from a state.
  abbrev pub Forth : ℕ → Type 0
  Forth p = (q : ℕ) × HasWay n A b 0 first J q × (accepts n q ≡ Some p)

  abbrev pub Back : ℕ → ℕ → Type 0
  Back x p = (z : ℕ) × HasWay m B c 0 x J z × (accepts m z ≡ Some p)

  pub back_entry : (p entry : ℕ) → slice_get entries p ≡ Some entry → Forth p → Back entry p
  back_entry p entry e w =
      entry_back p entry (mirror.place p) (mirror.parts p entry e) w.0 w.1 w.2

  pub back_root : (p entry : ℕ) → slice_get entries p ≡ Some entry → Forth p → Back root p
  back_root p entry e w = (k.0, join m B c 0 root 0 entry J k.0 (hop_way m B c 0 root start.0 entry start.1) k.1, k.2)
    where
      k : Back entry p
      k = back_entry p entry e w

      start : (e : ℕ) × (hop m (B 0) root e ≡ Some entry)
      start = split_hop m (B 0) root entries entry mirror.roots (nth_in entries p entry e)

  pub forth_part :
      (path : List ℕ) (k entry p z : ℕ) → slice_get entries k ≡ Some entry → IsWay m B c 0 entry path J z
      → accepts m z ≡ Some p
      → (p ≡ k) × Forth p
  forth_part path k entry p z i w a =
      entry_forth k entry (mirror.place k) (mirror.parts k entry i) path p z w a

  pub forth_entry :
      (path : List ℕ) (entry p z : ℕ) → In entry entries → IsWay m B c 0 entry path J z → accepts m z ≡ Some p → Forth p
  forth_entry path entry p z i w a =
      let o = in_nth entries entry i in (forth_part path o.0 entry p z o.1 w a).1

  pub forth_root : (path : List ℕ) (p z : ℕ) → IsWay m B c 0 root path J z → accepts m z ≡ Some p → Forth p
  forth_root [] p z w a = absurd (not_split z entries p (ap (λ v. node m v) (sym w.1) ∙ mirror.roots) a)
  forth_root (e ∷ path) p z (inl h) a =
      forth_entry path h.0 p z (hop_split m (B 0) root entries e h.0 mirror.roots h.1) h.2 a
  forth_root (e ∷ path) p z (inr h) a =
      absurd (none_some (sym (ap (λ v. takes_at v h.1) mirror.roots) ∙ h.3))
