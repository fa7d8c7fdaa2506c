-- Each path of a merged NFA has a corresponding path in the first NFA.
use Rattle.std.proofs.Common.{ℕ, zero, suc, ◌≡◌, ◌<◌, ◌≤◌, List, [], ◌∷◌, ◌⊎◌, length, Some, inl, inr, refl, sym, ap}
use Rattle.std.proofs.Common.{◌∙◌, subst}
use Rattle.std.proofs.lemmas.Bool.{cases_lt}
use Rattle.std.specs.Prelude.{slice_get}
use Rattle.automata_base.specs.Haystacks.Tapes.{IsHaystack}
use Rattle.automata_base.specs.Lists.{In, pick}
use Rattle.automata_base.specs.Nfas.Accepted.{IsInRange}
use Rattle.automata_transform.specs.Nfas.Merges.{stood_for, target_for, Shows, IsMerged}
use Rattle.automata_base.specs.Nfas.Nfa.{Nfa, Node, Split, Assert, Read, Accept, node, hop_at, takes, takes_at}
use Rattle.automata_base.specs.Nfas.Nfa.{takes_in}
use Rattle.automata_base.specs.Paths.Paths.{Tape, IsPathFrom, truth}
use Rattle.automata_base.specs.Paths.Paths.{StaysHere, ReadsByte}
use Rattle.automata_base.proofs.Paths.Orders.{none_some}
use Rattle.automata_transform.proofs.Nfas.Merges.Parts.{part_at, picked_of}
use Rattle.automata_base.proofs.Paths.Sets.{nth_in}
use Rattle.automata_transform.proofs.Nfas.Merges.Places.{ReadsNone, HaveSame, MayEnd, old_means, old_one}
use Rattle.automata_transform.proofs.Nfas.Merges.Places.{same_cons, same_further, reads_none_split, reads_none_assert}
use Rattle.automata_transform.proofs.Nfas.Merges.Places.{hops_alike, further_shows, assert_old, union_shows}
use Rattle.automata_transform.proofs.Nfas.Merges.Places.{others_same}
use Rattle.automata_transform.proofs.Nfas.Merges.Places.{split_assert, split_read, split_accept, cond_one}
use Rattle.automata_transform.proofs.Nfas.Merges.Routes.{meant, Turns, Keeps, Corresponds}

module _ (n m : Nfa) (anchored : ℕ) (lists : List (List ℕ)) (t : Tape)
    (merged : IsMerged n m anchored lists) (ranged : IsInRange n) (bytes : IsHaystack t.bytes) where
  -- The path of the merged NFA has a corresponding path from one of the states that its first state stands for.
  abbrev pub HasFirst : List ℕ → Type 0
  HasFirst other =
      (i z : ℕ) (seen met : List ℕ) (j w : ℕ) → MayEnd n anchored w → ReadsNone n seen
      → HaveSame (length n.nodes) seen met → IsPathFrom m t i met z other j w
      → (k s : ℕ) × (path : List ℕ) × (slice_get (meant n m lists t z) k ≡ Some s)
      × Corresponds n m lists t other i z k path × IsPathFrom n t i seen s path j w

  -- A path continues from one of the states of a list, none of which was visited.
  abbrev pub HasTurn : (other : List ℕ) → (i : ℕ) → Node → (list seen : List ℕ) → (e j w : ℕ) → Type 0
  HasTurn other i x list seen e j w =
      (k s : ℕ) × (path : List ℕ) × (slice_get list k ≡ Some s)
      × Turns n m lists t (Corresponds n m lists t other) i x list k path e × (In s seen → ⊥)
      × IsPathFrom n t i seen s path j w

  turn_back :
      (other : List ℕ) (ih : HasFirst other) (i z e : ℕ) (x : Node) (list seen met : List ℕ) (j w : ℕ)
      → node m z ≡ x → Shows n m anchored lists x list → MayEnd n anchored w → ReadsNone n seen
      → HaveSame (length n.nodes) seen (z ∷ met) → IsPathFrom m t i met z (e ∷ other) j w
      → HasTurn other i x list seen e j w
  turn_back other ih i z e (Assert look next) list seen met j w is shows ends none same path = absurd shows
  turn_back other ih i z e (Accept p) list seen met j w is shows ends none same path = absurd shows
  turn_back other ih i z e (Split alternates) list seen met j w is shows ends none same (ReadsByte r edge moves on) =
      absurd (none_some (subst (λ v. takes_at v moves.0 ≡ Some r) is moves.2))
  turn_back other ih i z e (Split alternates) list seen met j w is shows ends none same (StaysHere r hops fresh on) =
      let c = ih i r seen (z ∷ met) j w ends none same on in
      let p = part_at (length n.nodes) lists alternates e c.0 r c.1 edge c.3 in (
        p.0,
        c.1,
        c.2,
        subst (λ v. slice_get v p.0 ≡ Some c.1) shows.0 p.1,
        (r, c.0, edge, p.2, c.4),
        new c.0 c.1 c.3 (cases_lt r (length n.nodes)),
        c.5,
      )
    where
      edge : slice_get alternates e ≡ Some r
      edge = subst (λ v. hop_at v (truth m t i) e ≡ Some r) is hops

      new :
          (o s : ℕ) → slice_get (meant n m lists t r) o ≡ Some s
          → (r < length n.nodes) ⊎ (length n.nodes ≤ r) → In s seen → ⊥
      new o s g (inl l) met =
          let one = (old_one (length n.nodes) lists r o s l g).1 in
          fresh ((same r l).0 (subst (λ v. In v seen) one met))
      new o s g (inr far) met =
          let reads = shows.1 r (nth_in alternates e r edge) far in
          let for_list =
          subst (λ v. Shows n m anchored lists v (stood_for (length n.nodes) lists r)) reads.1
          (further_shows n m anchored lists merged r far) in
          let own = (for_list.plain s (nth_in (stood_for (length n.nodes) lists r) o s g)).1 in
          none s own.0 met own.1
  turn_back other ih i z e (Read ranges) list seen met j w is shows ends none same (StaysHere r hops new on) =
      absurd (none_some (subst (λ v. hop_at v (truth m t i) e ≡ Some r) is hops))
  turn_back other ih i z e (Read ranges) list seen met j w is shows ends none same (ReadsByte y edge moves on) =
      let c = ih (suc i) y [] [] j w ends (λ q r i. absurd i) (λ q l. ((λ i. i), (λ i. i))) on in
      let p = picked_of (λ b. takes n b moves.0) list c.0 c.1 (subst (λ v. slice_get v c.0 ≡ Some c.1) target c.3) in
      let own = (shows.plain p.1 (nth_in list p.0 p.1 p.2)).1 in (
        p.0,
        p.1,
        0 ∷ c.2,
        p.2,
        (moves.0, c.1, y, c.0, c.2, edge, refl, moves.1, read, p.4, c.4),
        (λ i. none p.1 own.0 i own.1),
        ReadsByte c.1 refl (moves.0, moves.1, p.3) c.5,
      )
    where
      read : takes_in ranges moves.0 ≡ Some y
      read = subst (λ v. takes_at v moves.0 ≡ Some y) is moves.2

      target : stood_for (length n.nodes) lists y ≡ pick (λ b. takes n b moves.0) list
      target =
          ap (λ v. target_for (length n.nodes) lists v) (sym read) ∙ shows.same moves.0 (bytes i moves.0 moves.1)

  -- The case of a state of the first NFA, by its node.
  old_back :
      (other : List ℕ) (ih : HasFirst other) (i z e : ℕ) (x : Node) (seen met : List ℕ) (j w : ℕ)
      → z < length n.nodes → node n z ≡ x → MayEnd n anchored w → ReadsNone n seen
      → HaveSame (length n.nodes) seen met → IsPathFrom m t i met z (e ∷ other) j w
      → (path : List ℕ) × Keeps n m lists t (Corresponds n m lists t other) i (node m z) x path e
      × IsPathFrom n t i seen z path j w
  old_back other ih i z e (Split alternates) seen met j w l is ends none same path =
      let c =
      turn_back other ih i z e (node m z) alternates (z ∷ seen) met j w refl
      (union_shows n m anchored lists merged ranged z alternates l is) ends
      (reads_none_split n seen z alternates is none) (same_cons (length n.nodes) seen met z same) path in (
        c.0 ∷ c.2,
        (c.0, c.2, refl, c.4),
        StaysHere c.1 (subst (λ v. hop_at v (truth n t i) c.0 ≡ Some c.1) (sym is) c.3) c.5 c.6,
      )
  old_back other ih i z e (Assert look r) seen met j w l is ends none same (ReadsByte y edge moves on) =
      absurd (none_some (subst (λ v. takes_at v moves.0 ≡ Some y) (own ∙ is) moves.2))
    where
      own : node m z ≡ node n z
      own = others_same n m anchored lists merged z l (λ alternates f. split_assert alternates look r (sym f ∙ is))
  old_back other ih i z e (Assert look r) seen met j w l is ends none same (StaysHere y hops new on) = go e edge
    where
      own : node m z ≡ node n z
      own = others_same n m anchored lists merged z l (λ alternates f. split_assert alternates look r (sym f ∙ is))

      edge : hop_at (Assert look r) (truth n t i) e ≡ Some y
      edge =
          sym (hops_alike n m anchored lists merged (Assert look r) t i e)
          ∙ subst (λ v. hop_at v (truth m t i) e ≡ Some y) (own ∙ is) hops

      to_next : hop_at (Assert look r) (truth n t i) 0 ≡ Some y → y ≡ r
      to_next f = cond_one (truth n t i look) r y f

      go :
          (d : ℕ) → hop_at (Assert look r) (truth n t i) d ≡ Some y
          → (path : List ℕ) × Keeps n m lists t (Corresponds n m lists t other) i (node m z) (Assert look r) path d
          × IsPathFrom n t i seen z path j w
      go (suc d) f = absurd (none_some f)
      go zero f =
          let c =
          ih i y (z ∷ seen) (z ∷ met) j w ends (reads_none_assert n seen z look r is none)
          (same_cons (length n.nodes) seen met z same) on in
          let next = to_next f in
          let l2 : y < length n.nodes =
          subst (λ v. v < length n.nodes) (sym next) (assert_old n m anchored lists merged ranged z look r is) in
          let one = old_one (length n.nodes) lists y c.0 c.1 l2 c.3 in (
            0 ∷ c.2,
            (
              c.2,
              refl,
              refl,
              subst (λ v. Corresponds n m lists t other i v 0 c.2) next
                  (subst (λ v. Corresponds n m lists t other i y v c.2) one.0 c.4),
            ),
            StaysHere y (subst (λ v. hop_at v (truth n t i) 0 ≡ Some y) (sym is) f)
                (λ i. new ((same_cons (length n.nodes) seen met z same y l2).0 i))
                (subst (λ v. IsPathFrom n t i (z ∷ seen) v c.2 j w) one.1 c.5),
          )
  old_back other ih i z e (Read ranges) seen met j w l is ends none same (StaysHere r hops new on) =
      absurd (none_some (subst (λ v. hop_at v (truth m t i) e ≡ Some r) (own ∙ is) hops))
    where
      own : node m z ≡ node n z
      own = others_same n m anchored lists merged z l (λ alternates f. split_read alternates ranges (sym f ∙ is))
  old_back other ih i z e (Read ranges) seen met j w l is ends none same (ReadsByte r at moves on) =
      let c = ih (suc i) r [] [] j w ends (λ q r i. absurd i) (λ q l. ((λ i. i), (λ i. i))) on in
      let one = old_one (length n.nodes) lists r c.0 c.1 (ranged.1 z moves.0 r took) c.3 in (
        0 ∷ c.2,
        (
          moves.0,
          r,
          c.2,
          at,
          refl,
          moves.1,
          read,
          subst (λ v. Corresponds n m lists t other (suc i) r v c.2) one.0
              c.4,
        ),
        ReadsByte r refl (moves.0, moves.1, took) (subst (λ v. IsPathFrom n t (suc i) [] v c.2 j w) one.1 c.5),
      )
    where
      own : node m z ≡ node n z
      own = others_same n m anchored lists merged z l (λ alternates f. split_read alternates ranges (sym f ∙ is))

      read : takes_in ranges moves.0 ≡ Some r
      read = subst (λ v. takes_at v moves.0 ≡ Some r) (own ∙ is) moves.2

      took : takes n z moves.0 ≡ Some r
      took = subst (λ v. takes_at v moves.0 ≡ Some r) own moves.2
  old_back other ih i z e (Accept p) seen met j w l is ends none same (StaysHere r hops new on) =
      absurd (none_some (subst (λ v. hop_at v (truth m t i) e ≡ Some r) (own ∙ is) hops))
    where
      own : node m z ≡ node n z
      own = others_same n m anchored lists merged z l (λ alternates f. split_accept alternates p (sym f ∙ is))
  old_back other ih i z e (Accept p) seen met j w l is ends none same (ReadsByte r edge moves on) =
      absurd (none_some (subst (λ v. takes_at v moves.0 ≡ Some r) (own ∙ is) moves.2))
    where
      own : node m z ≡ node n z
      own = others_same n m anchored lists merged z l (λ alternates f. split_accept alternates p (sym f ∙ is))

  pub path_back : (other : List ℕ) → HasFirst other
  path_back [] i z seen met j w ends none same path =
      let l : z < length n.nodes = subst (λ v. v < length n.nodes) (sym path.1) ends.0 in
      (0, z, [], ap (λ v. slice_get v 0) (old_means (length n.nodes) lists z l), (l, refl, refl), path)
  path_back (e ∷ other) i z seen met j w ends none same path = go (cases_lt z (length n.nodes)) (path_back other)
    where
      go :
          (z < length n.nodes) ⊎ (length n.nodes ≤ z) → HasFirst other
          → (k s : ℕ) × (first : List ℕ) × (slice_get (meant n m lists t z) k ≡ Some s)
          × Corresponds n m lists t (e ∷ other) i z k first × IsPathFrom n t i seen s first j w
      go (inl l) ih =
          let c = old_back other ih i z e (node n z) seen met j w l refl ends none same path in
          (0, z, c.0, ap (λ v. slice_get v 0) (old_means (length n.nodes) lists z l), inl (l, refl, c.1), c.2)
      go (inr far) ih =
          let c =
          turn_back other ih i z e (node m z) (meant n m lists t z) seen met j w refl
          (further_shows n m anchored lists merged z far) ends none
          (same_further (length n.nodes) seen met z far same) path in
          (c.0, c.1, c.2, c.3, inr (far, c.4), c.6)
