-- Each path of the first NFA has a corresponding path in the merged NFA.
use Rattle.std.proofs.Common.{ℕ, zero, suc, ◌≡◌, ◌<◌, ◌≤◌, List, [], ◌∷◌, ◌⊎◌, length, Option, Some, None, inl, inr}
use Rattle.std.proofs.Common.{refl, sym, ap}
use Rattle.std.proofs.Common.{◌∙◌, subst}
use Rattle.std.proofs.lemmas.Bool.{cases_lt}
use Rattle.std.specs.Prelude.{slice_get}
use Rattle.automata_base.specs.Haystacks.Tapes.{IsHaystack}
use Rattle.automata_base.specs.Lists.{In, pick}
use Rattle.automata_base.specs.Nfas.Accepted.{IsInRange}
use Rattle.automata_transform.specs.Nfas.Merges.{stood_for, target_for, Shows, ReadsFor, IsMerged}
use Rattle.automata_base.specs.Nfas.Nfa.{Nfa, Node, Split, Assert, Read, Accept, Range, node, hop_at, takes, takes_at}
use Rattle.automata_base.specs.Nfas.Nfa.{takes_in}
use Rattle.automata_base.specs.Paths.Paths.{Tape, IsPathFrom, truth}
use Rattle.automata_base.specs.Paths.Paths.{StaysHere, ReadsByte}
use Rattle.automata_base.proofs.Paths.Orders.{none_some}
use Rattle.automata_transform.proofs.Nfas.Merges.Parts.{IsPart, IsPicked, part_of, picked_at}
use Rattle.automata_base.proofs.Paths.Sets.{nth_in}
use Rattle.automata_transform.proofs.Nfas.Merges.Places.{ReadsNone, HaveSame, MayEnd, old_one}
use Rattle.automata_transform.proofs.Nfas.Merges.Places.{same_cons, same_further, reads_none_split, reads_none_assert}
use Rattle.automata_transform.proofs.Nfas.Merges.Places.{hops_alike, further_shows, assert_old, union_shows}
use Rattle.automata_transform.proofs.Nfas.Merges.Places.{others_same}
use Rattle.automata_transform.proofs.Nfas.Merges.Places.{split_assert, split_read, cond_one}
use Rattle.automata_transform.proofs.Nfas.Merges.Routes.{meant, Turns, Keeps, Corresponds}

module _ (n m : Nfa) (anchored : ℕ) (lists : List (List ℕ)) (t : Tape)
    (merged : IsMerged n m anchored lists) (ranged : IsInRange n) (bytes : IsHaystack t.bytes) where
  -- The path from a state of the first NFA has a corresponding path.
  abbrev pub HasOld : List ℕ → Type 0
  HasOld path =
      (i z : ℕ) (seen met : List ℕ) (j w : ℕ) → z < length n.nodes → MayEnd n anchored w → ReadsNone n seen
      → ReadsNone m met → HaveSame (length n.nodes) seen met → IsPathFrom n t i seen z path j w
      → (other : List ℕ) × Corresponds n m lists t other i z 0 path × IsPathFrom m t i met z other j w

  -- The path from a state of a list has a corresponding path from each state that stands for the list.
  abbrev pub HasShown : List ℕ → Type 0
  HasShown path =
      (i z k s : ℕ) (x : Node) (list seen met : List ℕ) (j w : ℕ) → node m z ≡ x → Shows n m anchored lists x list
      → MayEnd n anchored w → ReadsNone n seen → ReadsNone m met → HaveSame (length n.nodes) seen (z ∷ met)
      → slice_get list k ≡ Some s → (In s seen → ⊥) → IsPathFrom n t i seen s path j w
      → (e : ℕ) × (other : List ℕ) × Turns n m lists t (Corresponds n m lists t other) i x list k path e
      × IsPathFrom m t i met z (e ∷ other) j w

  -- The path from a state of a list has a corresponding path from each state that reads for the list.
  abbrev pub HasRead : List ℕ → Type 0
  HasRead path =
      (i z k s : ℕ) (ranges : List Range) (list seen met : List ℕ) (j w : ℕ) → node m z ≡ Read ranges
      → ReadsFor n anchored lists ranges list → MayEnd n anchored w → slice_get list k ≡ Some s
      → IsPathFrom n t i seen s path j w
      → (e : ℕ) × (other : List ℕ) × Turns n m lists t (Corresponds n m lists t other) i (Read ranges) list k path e
      × IsPathFrom m t i met z (e ∷ other) j w

  -- Both hold for the rest of a path after its first edge.
  abbrev pub OfRest : List ℕ → Type 0
  OfRest [] = Unit {0}
  OfRest (e ∷ rest) = HasOld rest × HasShown rest

  -- The corresponding path at a new position, from one of the states that a state stands for.
  at_new :
      (path : List ℕ) (old : HasOld path) (shown : HasShown path) (i z k s j w : ℕ) → MayEnd n anchored w
      → slice_get (stood_for (length n.nodes) lists z) k ≡ Some s → IsPathFrom n t i [] s path j w
      → (other : List ℕ) × Corresponds n m lists t other i z k path × IsPathFrom m t i [] z other j w
  at_new path old shown i z k s j w ends is h = go (cases_lt z (length n.nodes))
    where
      go :
          (z < length n.nodes) ⊎ (length n.nodes ≤ z)
          → (other : List ℕ) × Corresponds n m lists t other i z k path × IsPathFrom m t i [] z other j w
      go (inl l) =
          let one = old_one (length n.nodes) lists z k s l is in
          let c =
          old i z [] [] j w l ends (λ q r i. absurd i) (λ q r i. absurd i) (λ q l. ((λ i. i), (λ i. i)))
          (subst (λ v. IsPathFrom n t i [] v path j w) one.1 h) in
          (c.0, subst (λ v. Corresponds n m lists t c.0 i z v path) (sym one.0) c.1, c.2)
      go (inr far) =
          let c =
          shown i z k s (node m z) (meant n m lists t z) [] [] j w refl
          (further_shows n m anchored lists merged z far) ends (λ q r i. absurd i) (λ q r i. absurd i)
          (same_further (length n.nodes) [] [] z far (λ q l. ((λ i. i), (λ i. i)))) is (λ i. absurd i) h in
          (c.0 ∷ c.1, inr (far, c.2), c.3)

  read_forth : (path : List ℕ) → OfRest path → HasRead path
  read_forth [] rest i z k s ranges list seen met j w is reads ends at h =
      let p = reads.plain s (nth_in list k s at) in
      absurd (p.0 (h.1 ∙ ends.1 p.1.0 (ap (λ v. node n v) (sym h.1) ∙ p.1.1)))
  read_forth (e ∷ rest) of i z k s ranges list seen met j w is reads ends at (StaysHere r hops new on) =
      let own = (reads.plain s (nth_in list k s at)).1 in
      absurd (none_some (subst (λ v. hop_at v (truth n t i) e ≡ Some r) own.1 hops))
  read_forth (e ∷ rest) of i z k s ranges list seen met j w is reads ends at (ReadsByte x edge moves on) =
      let p = picked_at (λ b. takes n b moves.0) list k s x at moves.2 in
      go p (takes_in ranges moves.0) refl
    where
      go :
          (o : ℕ) × (slice_get (pick (λ b. takes n b moves.0) list) o ≡ Some x)
          × IsPicked (λ b. takes n b moves.0) list k o x
          → (y : Option ℕ) → takes_in ranges moves.0 ≡ y
          → (d : ℕ) × (other : List ℕ)
          × Turns n m lists t (Corresponds n m lists t other) i (Read ranges) list k (e ∷ rest) d
          × IsPathFrom m t i met z (d ∷ other) j w
      go p None f =
          absurd (none_some (subst (λ v. slice_get v p.0 ≡ Some x)
          (sym (ap (λ v. target_for (length n.nodes) lists v) (sym f)
          ∙ reads.same moves.0 (bytes i moves.0 moves.1))) p.1))
      go p (Some r) f =
          let here : slice_get (stood_for (length n.nodes) lists r) p.0 ≡ Some x =
          subst (λ v. slice_get v p.0 ≡ Some x)
          (sym (ap (λ v. target_for (length n.nodes) lists v) (sym f)
          ∙ reads.same moves.0 (bytes i moves.0 moves.1))) p.1 in
          let c = at_new rest of.0 of.1 (suc i) r p.0 x j w ends here on in (
            0,
            c.0,
            (moves.0, x, r, p.0, rest, refl, ap (λ v. v ∷ rest) edge, moves.1, f, p.2, c.1),
            ReadsByte r refl (moves.0, moves.1, subst (λ v. takes_at v moves.0 ≡ Some r) (sym is) f) c.2,
          )

  old_forth_at :
      (e : ℕ) (rest : List ℕ) (old : HasOld rest) (shown : HasShown rest) (i z : ℕ) (x : Node) (seen met : List ℕ)
      (j w : ℕ)
      → z < length n.nodes → node n z ≡ x → MayEnd n anchored w → ReadsNone n seen
      → ReadsNone m met → HaveSame (length n.nodes) seen met → IsPathFrom n t i seen z (e ∷ rest) j w
      → (d : ℕ) × (other : List ℕ) × Keeps n m lists t (Corresponds n m lists t other) i (node m z) x (e ∷ rest) d
      × IsPathFrom m t i met z (d ∷ other) j w
  old_forth_at e rest old shown i z (Split alternates) seen met j w l is ends none nor same (ReadsByte r edge moves _) =
      absurd (none_some (subst (λ v. takes_at v moves.0 ≡ Some r) is moves.2))
  old_forth_at e rest old shown i z (Split alternates) seen met j w l is ends none nor same (StaysHere r hops new on) =
      let c =
      shown i z e r (node m z) alternates (z ∷ seen) met j w refl
      (union_shows n m anchored lists merged ranged z alternates l is) ends
      (reads_none_split n seen z alternates is none) nor (same_cons (length n.nodes) seen met z same)
      (subst (λ v. hop_at v (truth n t i) e ≡ Some r) is hops) new on in
      (c.0, c.1, (e, rest, refl, c.2), c.3)
  old_forth_at e rest old shown i z (Assert look r) seen met j w l is ends none nor same (ReadsByte y edge moves on) =
      absurd (none_some (subst (λ v. takes_at v moves.0 ≡ Some y) is moves.2))
  old_forth_at e rest old shown i z (Assert look r) seen met j w l is ends none nor same (StaysHere y hops new on) =
      go e (subst (λ v. hop_at v (truth n t i) e ≡ Some y) is hops)
    where
      own : node m z ≡ node n z
      own = others_same n m anchored lists merged z l (λ alternates f. split_assert alternates look r (sym f ∙ is))

      go :
          (b : ℕ) → hop_at (Assert look r) (truth n t i) b ≡ Some y
          → (d : ℕ) × (other : List ℕ)
          × Keeps n m lists t (Corresponds n m lists t other) i (node m z) (Assert look r) (b ∷ rest) d
          × IsPathFrom m t i met z (d ∷ other) j w
      go (suc b) f = absurd (none_some f)
      go zero f =
          let next : y ≡ r = cond_one (truth n t i look) r y f in
          let l2 : y < length n.nodes =
          subst (λ v. v < length n.nodes) (sym next) (assert_old n m anchored lists merged ranged z look r is) in
          let c =
          old i y (z ∷ seen) (z ∷ met) j w l2 ends (reads_none_assert n seen z look r is none)
          (reads_none_assert m met z look r (own ∙ is) nor)
          (same_cons (length n.nodes) seen met z same) on in (
            0,
            c.0,
            (rest, refl, refl, subst (λ v. Corresponds n m lists t c.0 i v 0 rest) next c.1),
            StaysHere y
                (subst (λ v. hop_at v (truth m t i) 0 ≡ Some y) (sym (own ∙ is))
                (hops_alike n m anchored lists merged (Assert look r) t i 0 ∙ f))
                (λ i. new ((same_cons (length n.nodes) seen met z same y l2).1 i)) c.2,
          )
  old_forth_at e rest old shown i z (Read ranges) seen met j w l is ends none nor same (StaysHere r hops new on) =
      absurd (none_some (subst (λ v. hop_at v (truth n t i) e ≡ Some r) is hops))
  old_forth_at e rest old shown i z (Read ranges) seen met j w l is ends none nor same (ReadsByte y edge moves on) =
      let l2 : y < length n.nodes = ranged.1 z moves.0 y moves.2 in
      let c =
      old (suc i) y [] [] j w l2 ends (λ q r i. absurd i) (λ q r i. absurd i) (λ q l. ((λ i. i), (λ i. i))) on in (
        0,
        c.0,
        (
          moves.0,
          y,
          rest,
          refl,
          ap (λ v. v ∷ rest) edge,
          moves.1,
          subst (λ v. takes_at v moves.0 ≡ Some y) is moves.2,
          c.1,
        ),
        ReadsByte y refl (moves.0, moves.1, subst (λ v. takes_at v moves.0 ≡ Some y) (sym own) moves.2) c.2,
      )
    where
      own : node m z ≡ node n z
      own = others_same n m anchored lists merged z l (λ alternates f. split_read alternates ranges (sym f ∙ is))
  old_forth_at e rest old shown i z (Accept p) seen met j w l is ends none nor same (StaysHere r hops new on) =
      absurd (none_some (subst (λ v. hop_at v (truth n t i) e ≡ Some r) is hops))
  old_forth_at e rest old shown i z (Accept p) seen met j w l is ends none nor same (ReadsByte r edge moves on) =
      absurd (none_some (subst (λ v. takes_at v moves.0 ≡ Some r) is moves.2))

  old_forth : (path : List ℕ) → OfRest path → HasOld path
  old_forth [] rest i z seen met j w l ends none nor same h = ([], (l, refl, refl), h)
  old_forth (e ∷ rest) of i z seen met j w l ends none nor same h =
      let c = old_forth_at e rest of.0 of.1 i z (node n z) seen met j w l refl ends none nor same h in
      (c.0 ∷ c.1, inl (l, refl, c.2), c.3)

  shown_forth : (path : List ℕ) → HasOld path → HasRead path → HasShown path
  shown_forth path old read i z k s (Assert look r) list seen met j w is shows ends none nor same at new h =
      absurd shows
  shown_forth path old read i z k s (Accept p) list seen met j w is shows ends none nor same at new h = absurd shows
  shown_forth path old read i z k s (Read ranges) list seen met j w is shows ends none nor same at new h =
      read i z k s ranges list seen met j w is shows ends at h
  shown_forth path old read i z k s (Split alternates) list seen met j w is shows ends none nor same at new h =
      let p = part_of (length n.nodes) lists alternates k s (subst (λ v. slice_get v k ≡ Some s) (sym shows.0) at) in
      go p.0 p.1 p.2 p.3 p.4 p.5 (cases_lt p.2 (length n.nodes))
    where
      go :
          (e o y : ℕ) → slice_get alternates e ≡ Some y → slice_get (stood_for (length n.nodes) lists y) o ≡ Some s
          → IsPart (stood_for (length n.nodes) lists) alternates e o k → (y < length n.nodes) ⊎ (length n.nodes ≤ y)
          → (d : ℕ) × (other : List ℕ)
          × Turns n m lists t (Corresponds n m lists t other) i (Split alternates) list k path d
          × IsPathFrom m t i met z (d ∷ other) j w
      go e o y edge of part (inl l) =
          let one = old_one (length n.nodes) lists y o s l of in
          let c =
          old i y seen (z ∷ met) j w l ends none (reads_none_split m met z alternates is nor) same
          (subst (λ v. IsPathFrom n t i seen v path j w) one.1 h) in (
            e,
            c.0,
            (y, o, edge, part, subst (λ v. Corresponds n m lists t c.0 i y v path) (sym one.0) c.1),
            StaysHere y (subst (λ v. hop_at v (truth m t i) e ≡ Some y) (sym is) edge)
                (λ b. new (subst (λ v. In v seen) (sym one.1) ((same y l).1 b))) c.2,
          )
      go e o y edge of part (inr far) =
          let reads = shows.1 y (nth_in alternates e y edge) far in
          let for_list =
          subst (λ v. Shows n m anchored lists v (stood_for (length n.nodes) lists y)) reads.1
          (further_shows n m anchored lists merged y far) in
          let c =
          read i y o s reads.0 (stood_for (length n.nodes) lists y) seen (z ∷ met) j w reads.1 for_list ends of h in (
            e,
            c.0 ∷ c.1,
            (
              y,
              o,
              edge,
              part,
              inr (
                far,
                subst
                    (λ v. Turns n m lists t (Corresponds n m lists t c.1) i v (stood_for (length n.nodes) lists y) o
                    path c.0)
                    (sym reads.1) c.2,
              ),
            ),
            StaysHere y (subst (λ v. hop_at v (truth m t i) e ≡ Some y) (sym is) edge)
                (λ b. reads_none_split m met z alternates is nor y reads.0 b reads.1) c.3,
          )

  build : (path : List ℕ) → OfRest path → HasOld path × HasShown path
  build path of =
      let old = old_forth path of in (old, shown_forth path old (read_forth path of))

  pub path_forth : (path : List ℕ) → HasOld path × HasShown path
  path_forth [] = build [] tt
  path_forth (e ∷ rest) = build (e ∷ rest) (path_forth rest)
