-- Ways through an NFA and through its folded form.
use Rattle.std.proofs.Common.{ℕ, zero, suc, ◌≡◌, ◌≤◌, List, [], ◌∷◌, ◌++◌, ◌⊎◌, Option, Some, None, inl, inr, refl, sym}
use Rattle.std.proofs.Common.{ap, ◌∙◌, subst, arith, length}
use Rattle.automata_base.specs.Lists.{In}
use Rattle.automata_base.specs.Nfas.Nfa.{Nfa, Node, Range, Split, Read, Truth, node, hop, hop_at, takes, takes_at}
use Rattle.automata_base.specs.Nfas.Nfa.{takes_in, accepts, accepts_at}
use Rattle.automata_transform.specs.Retraced.Folds.{IsNotFree, AreTargetsOf, StandsFor, StandsIfAny, IsFoldedUnion}
use Rattle.automata_transform.specs.Retraced.Folds.{IsFoldedAlternate, StaysAlternate, FoldsAlternate}
use Rattle.automata_transform.specs.Retraced.Folds.{IsFoldedNode, StaysNode, FoldsNode, IsTheTarget, JoinsStandIns}
use Rattle.automata_transform.specs.Retraced.Folds.{IsFolded}
use Rattle.automata_transform.proofs.Nfas.Mirrors.Ways.{Bytes, IsWay, HasWay, join, hop_way, move_way}
use Rattle.automata_base.proofs.Paths.Orders.{none_some}
use Rattle.automata_base.proofs.Paths.Sets.{nth_in, in_nth}
use Rattle.automata_base.proofs.Paths.Walks.{in_either, in_left}
use Rattle.automata_base.proofs.Paths.FirstVisits.{in_right}

-- Each joined target is a target of one of the states.
pub target_state :
    (S : ℕ → List ℕ → Type 0) (xs ts : List ℕ) (t : ℕ) → AreTargetsOf S xs ts → In t ts
    → (x : ℕ) × (own : List ℕ) × In x xs × S x own × In t own
target_state S [] ts t h k = absurd (subst (λ v. In t v) h k)
target_state S (x ∷ xs) ts t h k =
    go (in_either t h.0 h.1 (subst (λ v. In t v) h.4 k)) (λ a. target_state S xs h.1 t h.3 a)
  where
    go :
        In t h.0 ⊎ In t h.1 → (In t h.1 → (y : ℕ) × (own : List ℕ) × In y xs × S y own × In t own)
        → (y : ℕ) × (own : List ℕ) × In y (x ∷ xs) × S y own × In t own
    go (inl a) later = (x, h.0, inl refl, h.2, a)
    go (inr a) later = let r = later a in (r.0, r.1, inr r.2, r.3, r.4)

-- The targets of each state are among the joined targets.
pub state_targets :
    (S : ℕ → List ℕ → Type 0) (xs ts : List ℕ) (x : ℕ) → AreTargetsOf S xs ts → In x xs
    → (own : List ℕ) × S x own × ((t : ℕ) → In t own → In t ts)
state_targets S [] ts x h k = absurd k
state_targets S (y ∷ ys) ts x h (inl e) = (
  h.0,
  subst (λ v. S v h.0) (sym e) h.2,
  λ t a. subst (λ v. In t v) (sym h.4) (in_left t h.0 h.1 a),
)
state_targets S (y ∷ ys) ts x h (inr k) =
    let r = state_targets S ys h.1 x h.3 k in
    (r.0, r.1, λ t a. subst (λ v. In t v) (sym h.4) (in_right t h.0 h.1 (r.2 t a)))

module _ (n m : Nfa) (free : List ℕ) (made : List Node) (f : IsFolded n m free made) (A : ℕ → Truth) (b : Bytes) where
  -- A state leads to what it stands for.
  itself_way : (z t i : ℕ) (ts : List ℕ) → ts ≡ z ∷ [] → In t ts → HasWay m A b i z i t
  itself_way z t i ts e k = go (subst (λ v. In t v) e k)
    where
      go : In t (z ∷ []) → HasWay m A b i z i t
      go (inl e) = ([], (refl, sym e))
      go (inr c) = absurd c

  stands_way :
      (d z t i : ℕ) (ts : List ℕ) → StandsFor free made d z ts → In t ts → HasWay m A b i z i t
  stands_way zero z t i ts (IsTheTarget l e) k = itself_way z t i ts e k
  stands_way zero z t i ts (JoinsStandIns xs l h) k = absurd h
  stands_way (suc d) z t i ts (IsTheTarget l e) k = itself_way z t i ts e k
  stands_way (suc d) z t i ts (JoinsStandIns xs l h) k =
      let r = target_state (StandsFor free made d) xs ts t h k in
      let at = in_nth xs r.0 r.2 in
      join m A b i z i r.0 i t
      (hop_way m A b i z at.0 r.0 (ap (λ (v : Node). hop_at v (A i) at.0) (f.more z (Split xs) l) ∙ at.1))
      (stands_way d r.0 t i r.1 r.3 r.4)

  -- A way to a match from a state that stands for targets passes through one of them.
  abbrev Past : ℕ → List ℕ → List ℕ → ℕ → ℕ → Type 0
  Past i ts path j q = (t : ℕ) × (rest : List ℕ) × In t ts × IsWay m A b i t rest j q × (length rest ≤ length path)

  itself_past : (z i : ℕ) (ts path : List ℕ) (j q : ℕ) → ts ≡ z ∷ [] → IsWay m A b i z path j q → Past i ts path j q
  itself_past z i ts path j q e w = (z, path, subst (λ v. In z v) (sym e) (inl refl), w, omega arith)

  stands_past :
      (d z i : ℕ) (ts path : List ℕ) (j q p : ℕ) → StandsFor free made d z ts → IsWay m A b i z path j q
      → accepts m q ≡ Some p → Past i ts path j q
  stands_past zero z i ts path j q p (IsTheTarget l s) w a = itself_past z i ts path j q s w
  stands_past zero z i ts path j q p (JoinsStandIns xs l h) w a = absurd h
  stands_past (suc d) z i ts path j q p (IsTheTarget l s) w a = itself_past z i ts path j q s w
  stands_past (suc d) z i ts [] j q p (JoinsStandIns xs l h) w a =
      absurd (none_some
      (sym (ap (λ (v : Node). accepts_at v) (f.more z (Split xs) l)) ∙ (ap (λ v. accepts m v) w.1 ∙ a)))
  stands_past (suc d) z i ts (e ∷ path) j q p (JoinsStandIns xs l h) (inr w) a =
      absurd (none_some (sym (ap (λ (v : Node). takes_at v w.1) (f.more z (Split xs) l)) ∙ w.3))
  stands_past (suc d) z i ts (e ∷ path) j q p (JoinsStandIns xs l h) (inl w) a =
      let at = nth_in xs e w.0 (sym (ap (λ (v : Node). hop_at v (A i) e) (f.more z (Split xs) l)) ∙ w.1) in
      let own = state_targets (StandsFor free made d) xs ts w.0 h at in
      let r = stands_past d w.0 i own.0 path j q p own.1 w.2 a in
      let few = r.4 in
      (r.0, r.1, own.2 r.0 r.2, r.3, omega (arith, few))

  -- A way leads from `x` to a match of pattern `p`.
  abbrev There : Nfa → ℕ → ℕ → ℕ → ℕ → Type 0
  There o i x j p = (q : ℕ) × HasWay o A b i x j q × (accepts o q ≡ Some p)

  before : (o : Nfa) (i x k y j p : ℕ) → HasWay o A b i x k y → There o k y j p → There o i x j p
  before o i x k y j p w t = (t.0, join o A b i x k y j t.0 w t.1, t.2)

  -- On a byte, a byte state leads to each of its targets.
  reader_way :
      (s u t i : ℕ) (ts : List ℕ) (ranges : List Range) (o : Option ℕ) → o ≡ takes_in ranges u
      → node m s ≡ Read ranges → b i ≡ Some u → StandsIfAny free made o ts → In t ts → HasWay m A b i s (suc i) t
  reader_way s u t i ts ranges None e r d h k = absurd (subst (λ v. In t v) h k)
  reader_way s u t i ts ranges (Some z) e r d h k =
      join m A b i s (suc i) z (suc i) t
      (move_way m A b i s u z d (ap (λ (v : Node). takes_at v u) r ∙ sym e))
      (stands_way h.0 z t (suc i) ts h.1 k)

  -- A folded union leads to the alternates that stay and to the state that reads for the others.
  union_hop :
      (xs : List ℕ) (x y i : ℕ) (u : IsFoldedUnion n free made xs (node m x)) → In y (u.stay ++ u.reader ∷ [])
      → HasWay m A b i x i y
  union_hop xs x y i u k =
      let at = in_nth (u.stay ++ u.reader ∷ []) y k in
      hop_way m A b i x at.0 y (ap (λ (v : Node). hop_at v (A i) at.0) u.union ∙ at.1)

  reader_at : (xs : List ℕ) (x : ℕ) (u : IsFoldedUnion n free made xs (node m x)) → node m u.reader ≡ Read u.ranges
  reader_at xs x u = f.more u.reader (Read u.ranges) u.reads

  -- Ways of the first NFA, edge by edge.
  module _ (k j q p : ℕ) (a : accepts n q ≡ Some p)
      (on : (rest : List ℕ) (i y : ℕ) → length rest ≤ k → IsNotFree free y → IsWay n A b i y rest j q
      → There m i y j p) where
    forth_same :
        (path : List ℕ) (i x e : ℕ) → length path ≤ k → node m x ≡ node n x
        → ((A : Truth) (e y : ℕ) → hop n A x e ≡ Some y → IsNotFree free y) → IsWay n A b i x (e ∷ path) j q
        → There m i x j p
    forth_same path i x e few same leads (inl w) =
        before m i x i w.0 j p (hop_way m A b i x e w.0 (ap (λ (v : Node). hop_at v (A i) e) same ∙ w.1))
        (on path i w.0 few (leads (A i) e w.0 w.1) w.2)
    forth_same path i x e few same leads (inr w) =
        before m i x (suc i) w.0 j p
        (move_way m A b i x w.1 w.0 w.2 (ap (λ (v : Node). takes_at v w.1) same ∙ w.3))
        (on path (suc i) w.0 few (f.moves x w.1 w.0 w.3) w.4)

    -- A way from an alternate that reads bytes.
    forth_read :
        (path : List ℕ) (i x y : ℕ) (xs : List ℕ) (own : List Range) → length path ≤ k
        → (u : IsFoldedUnion n free made xs (node m x)) → node n y ≡ Read own
        → ((v t : ℕ) → takes_in own v ≡ Some t → In t (u.targets v)) → IsWay n A b i y path j q → There m i x j p
    forth_read [] i x y xs own few u r t w =
        absurd (none_some (sym (ap (λ (v : Node). accepts_at v) r) ∙ (ap (λ v. accepts n v) w.1 ∙ a)))
    forth_read (e ∷ path) i x y xs own few u r t (inl w) =
        absurd (none_some (sym (ap (λ (v : Node). hop_at v (A i) e) r) ∙ w.1))
    forth_read (e ∷ path) i x y xs own few u r t (inr w) =
        before m i x (suc i) w.0 j p
        (join m A b i x i u.reader (suc i) w.0
        (union_hop xs x u.reader i u (in_right u.reader u.stay (u.reader ∷ []) (inl refl)))
        (reader_way u.reader w.1 w.0 i (u.targets w.1) u.ranges (takes_in u.ranges w.1) refl (reader_at xs x u) w.2
        (u.stands w.1) (t w.1 w.0 (sym (ap (λ (v : Node). takes_at v w.1) r) ∙ w.3))))
        (on path (suc i) w.0 (omega (arith, few)) (f.moves y w.1 w.0 w.3) w.4)

    forth_folded :
        (path : List ℕ) (i x e : ℕ) (xs : List ℕ) → length path ≤ k → node n x ≡ Split xs
        → IsFoldedUnion n free made xs (node m x) → IsWay n A b i x (e ∷ path) j q → There m i x j p
    forth_folded path i x e xs few s u (inr w) =
        absurd (none_some (sym (ap (λ (v : Node). takes_at v w.1) s) ∙ w.3))
    forth_folded path i x e xs few s u (inl w) =
        go (u.alternates w.0 (nth_in xs e w.0 (sym (ap (λ (v : Node). hop_at v (A i) e) s) ∙ w.1)))
      where
        go : IsFoldedAlternate n u.stay u.targets w.0 → There m i x j p
        go (StaysAlternate h) =
            before m i x i w.0 j p (union_hop xs x w.0 i u (in_left w.0 u.stay (u.reader ∷ []) h))
            (on path i w.0 few (u.kept w.0 h).1 w.2)
        go (FoldsAlternate own reads leads) = forth_read path i x w.0 xs own few u reads leads w.2

  here_forth :
      (i x j q p : ℕ) → IsNotFree free x → IsWay n A b i x [] j q → accepts n q ≡ Some p → There m i x j p
  here_forth i x j q p low w a = go (f.each x low)
    where
      go : IsFoldedNode n free made (node n x) (node m x) → There m i x j p
      go (StaysNode same leads) =
          (x, ([], (w.0, refl)), ap (λ (v : Node). accepts_at v) same ∙ (ap (λ v. accepts n v) w.1 ∙ a))
      go (FoldsNode xs s u) =
          absurd (none_some (sym (ap (λ (v : Node). accepts_at v) s) ∙ (ap (λ v. accepts n v) w.1 ∙ a)))

  forth :
      (k : ℕ) (path : List ℕ) (i x j q p : ℕ) → length path ≤ k → IsNotFree free x → IsWay n A b i x path j q
      → accepts n q ≡ Some p → There m i x j p
  forth k [] i x j q p few low w a = here_forth i x j q p low w a
  forth zero (e ∷ path) i x j q p few low w a = absurd (omega (arith, few))
  forth (suc k) (e ∷ path) i x j q p few low w a =
      go (λ rest i y l d w. forth k rest i y j q p l d w a) (f.each x low)
    where
      short : length path ≤ k
      short = omega (arith, few)

      go :
          ((rest : List ℕ) (i y : ℕ) → length rest ≤ k → IsNotFree free y → IsWay n A b i y rest j q → There m i y j p)
          → IsFoldedNode n free made (node n x) (node m x) → There m i x j p
      go on (StaysNode same leads) = forth_same k j q p a on path i x e short same leads w
      go on (FoldsNode xs s u) = forth_folded k j q p a on path i x e xs short s u w

  -- Ways of the folded NFA, edge by edge.
  module _ (k j q p : ℕ) (a : accepts m q ≡ Some p)
      (on : (rest : List ℕ) (i y : ℕ) → length rest ≤ k → IsNotFree free y → IsWay m A b i y rest j q
      → There n i y j p) where
    back_same :
        (path : List ℕ) (i x e : ℕ) → length path ≤ k → node m x ≡ node n x
        → ((A : Truth) (e y : ℕ) → hop n A x e ≡ Some y → IsNotFree free y) → IsWay m A b i x (e ∷ path) j q
        → There n i x j p
    back_same path i x e few same leads (inl w) =
        let h = sym (ap (λ (v : Node). hop_at v (A i) e) same) ∙ w.1 in
        before n i x i w.0 j p (hop_way n A b i x e w.0 h) (on path i w.0 few (leads (A i) e w.0 h) w.2)
    back_same path i x e few same leads (inr w) =
        let h = sym (ap (λ (v : Node). takes_at v w.1) same) ∙ w.3 in
        before n i x (suc i) w.0 j p (move_way n A b i x w.1 w.0 w.2 h)
        (on path (suc i) w.0 few (f.moves x w.1 w.0 h) w.4)

    -- A way from an alternate of the union that takes a byte.
    back_taken :
        (i x y u t : ℕ) (xs : List ℕ) → node n x ≡ Split xs → b i ≡ Some u → In y xs → takes n y u ≡ Some t
        → (rest : List ℕ) → length rest ≤ k → IsWay m A b (suc i) t rest j q → There n i x j p
    back_taken i x y u t xs s d k' e rest few w =
        let at = in_nth xs y k' in
        let h = ap (λ (v : Node). hop_at v (A i) at.0) s ∙ at.1 in
        before n i x (suc i) t j p
        (join n A b i x i y (suc i) t (hop_way n A b i x at.0 y h) (move_way n A b i y u t d e))
        (on rest (suc i) t few (f.moves y u t e) w)

    -- A way from the state that reads for the alternates.
    back_read :
        (path : List ℕ) (i x : ℕ) (xs : List ℕ) → length path ≤ k → node n x ≡ Split xs
        → (u : IsFoldedUnion n free made xs (node m x)) → IsWay m A b i u.reader path j q → There n i x j p
    back_read [] i x xs few s u w =
        absurd (none_some (sym (ap (λ (v : Node). accepts_at v) (reader_at xs x u)) ∙ (ap (λ v. accepts m v) w.1 ∙ a)))
    back_read (e ∷ path) i x xs few s u (inl w) =
        absurd (none_some (sym (ap (λ (v : Node). hop_at v (A i) e) (reader_at xs x u)) ∙ w.1))
    back_read (e ∷ path) i x xs few s u (inr w) =
        go (takes_in u.ranges w.1) (u.stands w.1) (sym (ap (λ (v : Node). takes_at v w.1) (reader_at xs x u)) ∙ w.3)
      where
        go : (o : Option ℕ) → StandsIfAny free made o (u.targets w.1) → o ≡ Some w.0 → There n i x j p
        go None h c = absurd (none_some c)
        go (Some z) h c =
            let z-is : z ≡ w.0 = cc in
            let past =
            stands_past h.0 z (suc i) (u.targets w.1) path j q p h.1
            (subst (λ v. IsWay m A b (suc i) v path j q) (sym z-is) w.4) a in
            let few' = past.4 in
            let taken = u.sound w.1 past.0 past.2 in
            back_taken i x taken.0 w.1 past.0 xs s w.2 taken.1 taken.2 past.1 (omega (arith, few, few')) past.3

    back_folded :
        (path : List ℕ) (i x e : ℕ) (xs : List ℕ) → length path ≤ k → node n x ≡ Split xs
        → IsFoldedUnion n free made xs (node m x) → IsWay m A b i x (e ∷ path) j q → There n i x j p
    back_folded path i x e xs few s u (inr w) =
        absurd (none_some (sym (ap (λ (v : Node). takes_at v w.1) u.union) ∙ w.3))
    back_folded path i x e xs few s u (inl w) =
        go
        (in_either w.0 u.stay (u.reader ∷ [])
        (nth_in (u.stay ++ u.reader ∷ []) e w.0 (sym (ap (λ (v : Node). hop_at v (A i) e) u.union) ∙ w.1)))
      where
        go : In w.0 u.stay ⊎ In w.0 (u.reader ∷ []) → There n i x j p
        go (inl h) =
            let at = in_nth xs w.0 (u.kept w.0 h).0 in
            let g = ap (λ (v : Node). hop_at v (A i) at.0) s ∙ at.1 in
            before n i x i w.0 j p (hop_way n A b i x at.0 w.0 g) (on path i w.0 few (u.kept w.0 h).1 w.2)
        go (inr (inl h)) = back_read path i x xs few s u (subst (λ v. IsWay m A b i v path j q) h w.2)
        go (inr (inr h)) = absurd h

  here_back :
      (i x j q p : ℕ) → IsNotFree free x → IsWay m A b i x [] j q → accepts m q ≡ Some p → There n i x j p
  here_back i x j q p low w a = go (f.each x low)
    where
      go : IsFoldedNode n free made (node n x) (node m x) → There n i x j p
      go (StaysNode same leads) =
          (x, ([], (w.0, refl)), sym (ap (λ (v : Node). accepts_at v) same) ∙ (ap (λ v. accepts m v) w.1 ∙ a))
      go (FoldsNode xs s u) =
          absurd (none_some (sym (ap (λ (v : Node). accepts_at v) u.union) ∙ (ap (λ v. accepts m v) w.1 ∙ a)))

  back :
      (k : ℕ) (path : List ℕ) (i x j q p : ℕ) → length path ≤ k → IsNotFree free x → IsWay m A b i x path j q
      → accepts m q ≡ Some p → There n i x j p
  back k [] i x j q p few low w a = here_back i x j q p low w a
  back zero (e ∷ path) i x j q p few low w a = absurd (omega (arith, few))
  back (suc k) (e ∷ path) i x j q p few low w a =
      go (λ rest i y l d w. back k rest i y j q p l d w a) (f.each x low)
    where
      short : length path ≤ k
      short = omega (arith, few)

      go :
          ((rest : List ℕ) (i y : ℕ) → length rest ≤ k → IsNotFree free y → IsWay m A b i y rest j q → There n i y j p)
          → IsFoldedNode n free made (node n x) (node m x) → There n i x j p
      go on (StaysNode same leads) = back_same k j q p a on path i x e short same leads w
      go on (FoldsNode xs s u) = back_folded k j q p a on path i x e xs short s u w

  -- Both reach the same matches from each kept state.
  pub forth_there : (i x j p : ℕ) → IsNotFree free x → There n i x j p → There m i x j p
  forth_there i x j p low w = forth (length w.1.0) w.1.0 i x j w.0 p (omega arith) low w.1.1 w.2

  pub back_there : (i x j p : ℕ) → IsNotFree free x → There m i x j p → There n i x j p
  back_there i x j p low w = back (length w.1.0) w.1.0 i x j w.0 p (omega arith) low w.1.1 w.2
