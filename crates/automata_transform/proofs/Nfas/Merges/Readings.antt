-- What edges read in an NFA and in the merged one, if all looks are taken as true.
use Rattle.std.proofs.Common.{ℕ, ◌≡◌, ◌<◌, ◌≤◌, List, [], ◌∷◌, ◌⊎◌, length, Option, Some, None, inl, inr, refl}
use Rattle.std.proofs.Common.{sym, ap, ◌∙◌, subst}
use Rattle.std.proofs.lemmas.Bool.{cases_lt}
use Rattle.std.specs.Prelude.{slice_get}
use Rattle.automata_base.specs.Lists.{In, pick}
use Rattle.automata_base.specs.Nfas.Accepted.{IsInRange}
use Rattle.automata_transform.specs.Nfas.Merges.{stood_for, target_for, ReadsFor, Shows, IsMerged, IsMergedNode}
use Rattle.automata_transform.specs.Nfas.Merges.{KeepsNode}
use Rattle.automata_transform.specs.Nfas.Merges.{MergesUnion}
use Rattle.automata_base.specs.Nfas.Nfa.{Nfa, Node, Split, Assert, Read, Accept, Range, node, hop, hop_at, takes}
use Rattle.automata_base.specs.Nfas.Nfa.{takes_at, takes_in, accepts, accepts_at}
use Rattle.automata_base.specs.Nfas.Utf8.{ReadsTo, ends, goes, reads}
use Rattle.automata_base.specs.Paths.Paths.{all_true}
use Rattle.automata_transform.proofs.Nfas.Merges.Parts.{part_of, part_at, picked_of, picked_at}
use Rattle.automata_transform.proofs.Nfas.Merges.Places.{further_shows, union_shows, others_same, old_means, old_one}
use Rattle.automata_transform.proofs.Nfas.Merges.Places.{split_assert, split_read}
use Rattle.automata_transform.proofs.Nfas.Merges.Runs.{hop_old}
use Rattle.automata_base.proofs.Paths.Orders.{none_some}
use Rattle.automata_base.proofs.Paths.Sets.{nth_in, in_nth}

module _ (n m : Nfa) (anchored : ℕ) (lists : List (List ℕ)) (merged : IsMerged n m anchored lists)
    (ranged : IsInRange n) where
  -- One of the states that `y` stands for reads `bytes` up to `z`.
  abbrev HasSource : ℕ → List ℕ → ℕ → Type 0
  HasSource y bytes z =
      (k s : ℕ) × (slice_get (stood_for (length n.nodes) lists y) k ≡ Some s) × ReadsTo n s bytes z

  abbrev IsAsWas : ℕ → Type 0
  IsAsWas y = IsMergedNode n m anchored lists (node n y) (node m y)

  from_old : (y : ℕ) (bytes : List ℕ) (z : ℕ) → y < length n.nodes → ReadsTo n y bytes z → HasSource y bytes z
  from_old y bytes z l g = (0, y, ap (λ v. slice_get v 0) (old_means (length n.nodes) lists y l), g)

  to_old : (y : ℕ) (bytes : List ℕ) (z : ℕ) → y < length n.nodes → HasSource y bytes z → ReadsTo n y bytes z
  to_old y bytes z l c = subst (λ v. ReadsTo n v bytes z) (old_one (length n.nodes) lists y c.0 c.1 l c.2).1 c.3

  -- An epsilon edge of a state that stands for a list.
  hop_source :
      (x : Node) (list : List ℕ) (e r : ℕ) (bytes : List ℕ) (z : ℕ) → Shows n m anchored lists x list
      → hop_at x all_true e ≡ Some r → HasSource r bytes z
      → (k s : ℕ) × (slice_get list k ≡ Some s) × ReadsTo n s bytes z
  hop_source (Split alternates) list e r bytes z s h c =
      let p = part_at (length n.nodes) lists alternates e c.0 r c.1 h c.2 in
      (p.0, c.1, subst (λ v. slice_get v p.0 ≡ Some c.1) s.0 p.1, c.3)
  hop_source (Assert look q) list e r bytes z s h c = absurd s
  hop_source (Read ranges) list e r bytes z s h c = absurd (none_some h)
  hop_source (Accept p) list e r bytes z s h c = absurd s

  -- A byte edge of a state that stands for a list.
  read_source :
      (x : Node) (list : List ℕ) (u r : ℕ) (bytes : List ℕ) (z : ℕ) → u < 256 → Shows n m anchored lists x list
      → takes_at x u ≡ Some r → HasSource r bytes z
      → (k s : ℕ) × (slice_get list k ≡ Some s) × ReadsTo n s (u ∷ bytes) z
  read_source (Split alternates) list u r bytes z l s h c = absurd (none_some h)
  read_source (Assert look q) list u r bytes z l s h c = absurd s
  read_source (Accept p) list u r bytes z l s h c = absurd s
  read_source (Read ranges) list u r bytes z l s h c =
      let p =
      picked_of (λ b. takes n b u) list c.0 c.1
      (subst (λ v. slice_get v c.0 ≡ Some c.1) (ap (λ v. target_for (length n.nodes) lists v) (sym h) ∙ s.same u l)
      c.2) in
      (p.0, p.1, p.2, reads l p.3 c.3)

  hop_step :
      (q e r : ℕ) (bytes : List ℕ) (z : ℕ) → hop m all_true q e ≡ Some r → HasSource r bytes z
      → (q < length n.nodes) ⊎ (length n.nodes ≤ q) → HasSource q bytes z
  hop_step q e r bytes z h c (inr far) =
      hop_source (node m q) (stood_for (length n.nodes) lists q) e r bytes z
      (further_shows n m anchored lists merged q far) h c
  hop_step q e r bytes z h c (inl l) = go (merged.first_states q l)
    where
      go : IsAsWas q → HasSource q bytes z
      go (MergesUnion others was shows) =
          let p = hop_source (node m q) others e r bytes z shows h c in
          from_old q bytes z l (goes p.0 (subst (λ v. hop_at v all_true p.0 ≡ Some p.1) (sym was) p.2) p.3)
      go (KeepsNode f) =
          let h2 = subst (λ v. hop_at v all_true e ≡ Some r) f h in
          from_old q bytes z l (goes e h2 (to_old r bytes z (hop_old n m anchored lists merged ranged q e r h2) c))

  read_step :
      (q u r : ℕ) (bytes : List ℕ) (z : ℕ) → u < 256 → takes m q u ≡ Some r → HasSource r bytes z
      → (q < length n.nodes) ⊎ (length n.nodes ≤ q) → HasSource q (u ∷ bytes) z
  read_step q u r bytes z b h c (inr far) =
      read_source (node m q) (stood_for (length n.nodes) lists q) u r bytes z b
      (further_shows n m anchored lists merged q far)
      h c
  read_step q u r bytes z b h c (inl l) = go (merged.first_states q l)
    where
      go : IsAsWas q → HasSource q (u ∷ bytes) z
      go (MergesUnion others was shows) =
          let p = read_source (node m q) others u r bytes z b shows h c in
          from_old q (u ∷ bytes) z l (goes p.0 (subst (λ v. hop_at v all_true p.0 ≡ Some p.1) (sym was) p.2) p.3)
      go (KeepsNode f) =
          let h2 = subst (λ v. takes_at v u ≡ Some r) f h in
          from_old q (u ∷ bytes) z l (reads b h2 (to_old r bytes z (ranged.1 q u r h2) c))

  reads_back :
      (q : ℕ) (bytes : List ℕ) (z : ℕ) → z < length n.nodes → ReadsTo m q bytes z → HasSource q bytes z
  reads_back q bytes z k ends = from_old q [] q k ends
  reads_back q bytes z k (goes {r = r} e h rest) =
      hop_step q e r bytes z h (reads_back r bytes z k rest) (cases_lt q (length n.nodes))
  reads_back q bytes z k (reads {u = u} {r = r} {bytes = more} l h rest) =
      read_step q u r more z l h (reads_back r more z k rest) (cases_lt q (length n.nodes))

  pub reads_back_old :
      (q : ℕ) (bytes : List ℕ) (z : ℕ) → q < length n.nodes → z < length n.nodes → ReadsTo m q bytes z
      → ReadsTo n q bytes z
  reads_back_old q bytes z l k g = to_old q bytes z l (reads_back q bytes z k g)

  -- What a state of the first NFA reads, it also reads in the merged NFA.
  abbrev FromOld : ℕ → List ℕ → ℕ → Type 0
  FromOld s bytes z = s < length n.nodes → ReadsTo m s bytes z

  -- So does each state that reads for a list with it.
  abbrev FromRead : ℕ → List ℕ → ℕ → Type 0
  FromRead s bytes z =
      (y : ℕ) (ranges : List Range) (list : List ℕ) → node m y ≡ Read ranges → ReadsFor n anchored lists ranges list
      → In s list → ReadsTo m y bytes z

  -- So does each state that stands for a list with it.
  abbrev FromList : ℕ → List ℕ → ℕ → Type 0
  FromList s bytes z =
      (y : ℕ) (list : List ℕ) → Shows n m anchored lists (node m y) list → In s list → ReadsTo m y bytes z

  from_list : (s : ℕ) (bytes : List ℕ) (z : ℕ) → FromOld s bytes z → FromRead s bytes z → FromList s bytes z
  from_list s bytes z old read y list shows i = go (node m y) refl shows
    where
      go : (x : Node) → node m y ≡ x → Shows n m anchored lists x list → ReadsTo m y bytes z
      go (Assert look r) is f = absurd f
      go (Accept p) is f = absurd f
      go (Read ranges) is f = read y ranges list is f i
      go (Split alternates) is f =
          let k = in_nth list s i in
          let c =
          part_of (length n.nodes) lists alternates k.0 s (subst (λ v. slice_get v k.0 ≡ Some s) (sym f.0) k.1) in
          side c.0 c.1 c.2 c.3 c.4 (cases_lt c.2 (length n.nodes))
        where
          side :
              (j o w : ℕ) → slice_get alternates j ≡ Some w → slice_get (stood_for (length n.nodes) lists w) o ≡ Some s
              → (w < length n.nodes) ⊎ (length n.nodes ≤ w) → ReadsTo m y bytes z
          side j o w at of (inl l) =
              let one = (old_one (length n.nodes) lists w o s l of).1 in
              goes j (subst (λ v. hop_at v all_true j ≡ Some s) (sym is) (at ∙ ap Some (sym one)))
              (old (subst (λ v. v < length n.nodes) (sym one) l))
          side j o w at of (inr far) =
              let g = f.1 w (nth_in alternates j w at) far in
              let for_list =
              subst (λ v. Shows n m anchored lists v (stood_for (length n.nodes) lists w)) g.1
              (further_shows n m anchored lists merged w far) in
              goes j (subst (λ v. hop_at v all_true j ≡ Some w) (sym is) at)
              (read w g.0 (stood_for (length n.nodes) lists w) g.1 for_list
              (nth_in (stood_for (length n.nodes) lists w) o s of))

  goes_forth :
      (s e r : ℕ) (bytes : List ℕ) (z : ℕ) → hop n all_true s e ≡ Some r → FromOld r bytes z → FromRead r bytes z
      → FromOld s bytes z × FromRead s bytes z
  goes_forth s e r bytes z h old read = ((λ l. go (node n s) refl h l), stuck)
    where
      stuck : FromRead s bytes z
      stuck y ranges list is for i =
          let own = (for.plain s i).1 in absurd (none_some (subst (λ v. hop_at v all_true e ≡ Some r) own.1 h))

      go : (x : Node) → node n s ≡ x → hop n all_true s e ≡ Some r → s < length n.nodes → ReadsTo m s bytes z
      go (Split alternates) is f l =
          from_list r bytes z old read s alternates (union_shows n m anchored lists merged ranged s alternates l is)
          (nth_in alternates e r (subst (λ v. hop_at v all_true e ≡ Some r) is f))
      go (Assert look q) is f l =
          goes e
          (subst (λ v. hop_at v all_true e ≡ Some r)
          (sym (others_same n m anchored lists merged s l
          (λ alternates g. split_assert alternates look q (sym g ∙ is)))) f)
          (old (hop_old n m anchored lists merged ranged s e r f))
      go (Read ranges) is f l = absurd (none_some (subst (λ v. hop_at v all_true e ≡ Some r) is f))
      go (Accept p) is f l = absurd (none_some (subst (λ v. hop_at v all_true e ≡ Some r) is f))

  reads_step :
      (s u x : ℕ) (bytes : List ℕ) (z : ℕ) → u < 256 → takes n s u ≡ Some x → FromOld x bytes z → FromRead x bytes z
      → FromOld s (u ∷ bytes) z × FromRead s (u ∷ bytes) z
  reads_step s u x bytes z b h old read = ((λ l. go (node n s) refl h l), for_list)
    where
      go : (y : Node) → node n s ≡ y → takes n s u ≡ Some x → s < length n.nodes → ReadsTo m s (u ∷ bytes) z
      go (Split alternates) is f l = absurd (none_some (subst (λ v. takes_at v u ≡ Some x) is f))
      go (Assert look q) is f l = absurd (none_some (subst (λ v. takes_at v u ≡ Some x) is f))
      go (Accept p) is f l = absurd (none_some (subst (λ v. takes_at v u ≡ Some x) is f))
      go (Read ranges) is f l =
          reads b
          (subst (λ v. takes_at v u ≡ Some x)
          (sym (others_same n m anchored lists merged s l (λ alternates g. split_read alternates ranges (sym g ∙ is))))
          f)
          (old (ranged.1 s u x f))

      for_list : FromRead s (u ∷ bytes) z
      for_list y ranges list is for i =
          let k = in_nth list s i in
          let p = picked_at (λ b. takes n b u) list k.0 s x k.1 h in
          target (takes_in ranges u) refl p.0 p.1
        where
          all : (o : ℕ) → slice_get (pick (λ b. takes n b u) list) o ≡ Some x → (w : Option ℕ) → takes_in ranges u ≡ w
              → slice_get (target_for (length n.nodes) lists w) o ≡ Some x
          all o at w f =
              subst (λ v. slice_get v o ≡ Some x)
              (sym (ap (λ v. target_for (length n.nodes) lists v) (sym f) ∙ for.same u b)) at

          side :
              (r o : ℕ) → slice_get (stood_for (length n.nodes) lists r) o ≡ Some x
              → (r < length n.nodes) ⊎ (length n.nodes ≤ r) → ReadsTo m r bytes z
          side r o at (inl l) =
              let one = (old_one (length n.nodes) lists r o x l at).1 in
              subst (λ v. ReadsTo m v bytes z) one (old (subst (λ v. v < length n.nodes) (sym one) l))
          side r o at (inr far) =
              from_list x bytes z old read r (stood_for (length n.nodes) lists r)
              (further_shows n m anchored lists merged r far)
              (nth_in (stood_for (length n.nodes) lists r) o x at)

          target :
              (w : Option ℕ) → takes_in ranges u ≡ w → (o : ℕ) → slice_get (pick (λ b. takes n b u) list) o ≡ Some x
              → ReadsTo m y (u ∷ bytes) z
          target None f o at = absurd (none_some (all o at None f))
          target (Some r) f o at =
              reads b (subst (λ v. takes_at v u ≡ Some r) (sym is) f)
              (side r o (all o at (Some r) f) (cases_lt r (length n.nodes)))

  reads_forth :
      (s : ℕ) (bytes : List ℕ) (z p : ℕ) → accepts n z ≡ Some p → ReadsTo n s bytes z
      → FromOld s bytes z × FromRead s bytes z
  reads_forth s bytes z p h ends = ((λ l. ends), stuck)
    where
      stuck : FromRead s [] s
      stuck y ranges list is for i =
          let own = (for.plain s i).1 in absurd (none_some (ap accepts_at (sym own.1) ∙ h))
  reads_forth s bytes z p h (goes {r = r} e f rest) =
      let c = reads_forth r bytes z p h rest in goes_forth s e r bytes z f c.0 c.1
  reads_forth s bytes z p h (reads {u = u} {r = r} {bytes = more} l f rest) =
      let c = reads_forth r more z p h rest in reads_step s u r more z l f c.0 c.1

  pub reads_forth_old :
      (q : ℕ) (bytes : List ℕ) (z p : ℕ) → q < length n.nodes → ReadsTo n q bytes z → accepts n z ≡ Some p
      → ReadsTo m q bytes z
  reads_forth_old q bytes z p l g h = (reads_forth q bytes z p h g).0 l
