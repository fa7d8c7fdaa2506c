-- Each path of an NFA has a corresponding path in the flattened one, and the other way round.
use Rattle.std.proofs.Common.{ℕ, zero, suc, ◌≡◌, ◌<◌, ◌≤◌, ◌+◌, List, [], ◌∷◌, ◌⊎◌, ◌↔◌, length, Some, None, inl}
use Rattle.std.proofs.Common.{inr, refl, sym, ap, ap₂, ◌∙◌, subst, arith, cond}
use Rattle.std.proofs.lemmas.Bool.{cases_lt}
use Rattle.std.specs.Prelude.{slice_get}
use Rattle.automata_base.specs.Haystacks.Looks.{holds}
use Rattle.automata_base.specs.Lists.{In}
use Rattle.automata_base.specs.Nfas.Nfa.{Nfa, Node, Split, Assert, Read, Accept, node, hop_at, takes_at, takes_in}
use Rattle.automata_base.specs.Nfas.Nfa.{accepts, accepts_at}
use Rattle.automata_base.specs.Paths.Paths.{Tape, IsPathFrom, TakesEdge, StaysHere, ReadsByte, truth, prev, next}
use Rattle.automata_transform.specs.Nfas.FlattenedNfas.{AreOfChain, EndsChain, KeepsAlternate, FollowsLink, IsNoLink}
use Rattle.automata_transform.specs.Nfas.FlattenedNfas.{IsFlatNode, IsFlattened, followed}
use Rattle.automata_base.proofs.Paths.Orders.{some_inj, none_some}
use Rattle.automata_base.proofs.Paths.Sets.{nth_in}
use Rattle.automata_transform.proofs.Nfas.Flattens.Picks.{Picks, PicksThis, PicksLater, PicksInLink, picks_more}
use Rattle.automata_transform.proofs.Nfas.Flattens.Picks.{picks_order}
use Rattle.automata_transform.proofs.Nfas.Merges.Comparing.{Compares, both_ways, other_way, same_head, with_equal}
use Rattle.automata_transform.proofs.Nfas.Merges.Places.{cond_one, node_past}

module _ (n m : Nfa) (links : List ℕ) (t : Tape) (flat : IsFlattened n m links) where
  -- Past the last state, both have fail states.
  pub flat_node : (q : ℕ) → IsFlatNode n links q (node n q) (node m q)
  flat_node q = go (cases_lt q (length n.nodes))
    where
      go : (q < length n.nodes) ⊎ (length n.nodes ≤ q) → IsFlatNode n links q (node n q) (node m q)
      go (inl l) = flat.nodes q l
      go (inr far) =
          let same = flat.count in
          subst (λ v. IsFlatNode n links q v (node m q)) (sym (node_past n q far))
          ((λ r i. absurd i), (λ out. ([], node_past m q (omega (arith, far, same)), EndsChain)))

  -- Looks hold alike in both NFAs.
  flat_hops : (x : Node) (i e : ℕ) → hop_at x (truth m t i) e ≡ hop_at x (truth n t i) e
  flat_hops (Split alternates) i e = refl
  flat_hops (Read ranges) i e = refl
  flat_hops (Accept p) i e = refl
  flat_hops (Assert look r) i (suc e) = refl
  flat_hops (Assert look r) i zero =
      ap₂ (λ b d. cond (holds b d look (prev t i) (next t i)) (Some r) None) flat.terminator flat.reverse

  -- Edge `k` of the flattened NFA from a state with this node corresponds to the first edges of the path. `Next`
  -- relates how both continue.
  abbrev pub Steps : (Next : ℕ → ℕ → List ℕ → Type 0) → (i : ℕ) → Node → (k : ℕ) → (path : List ℕ) → Type 0
  Steps Next i (Split alternates) k path =
      (y : ℕ) × (rest : List ℕ) × Picks n links alternates 0 k y path rest × Next i y rest
  Steps Next i (Assert look r) k path = (rest : List ℕ) × (k ≡ 0) × (path ≡ 0 ∷ rest) × Next i r rest
  Steps Next i (Read ranges) k path =
      (u y : ℕ) × (rest : List ℕ) × (k ≡ 0) × (path ≡ 0 ∷ rest) × (slice_get t.bytes i ≡ Some u)
      × (takes_in ranges u ≡ Some y) × Next (suc i) y rest
  Steps Next i (Accept p) k path = ⊥

  -- The second path, from a state at a place of the first NFA, corresponds to the first one in the flattened NFA.
  abbrev pub Matches : List ℕ → (i q : ℕ) → List ℕ → Type 0
  Matches [] i q path = path ≡ []
  Matches (k ∷ other) i q path = Steps (Matches other) i (node n q) k path

  -- The path from a state that is not a link has a corresponding path.
  abbrev pub HasFlat : List ℕ → Type 0
  HasFlat path =
      (i q : ℕ) (seen met : List ℕ) (j w : ℕ) → IsNoLink links q → IsNoLink links w
      → ((r : ℕ) → In r met → In r seen) → IsPathFrom n t i seen q path j w
      → (other : List ℕ) × Matches other i q path × IsPathFrom m t i met q other j w

  -- So do all its parts up to its end.
  abbrev AllFlat : List ℕ → Type 0
  AllFlat [] = HasFlat []
  AllFlat (e ∷ path) = HasFlat (e ∷ path) × AllFlat path

  first_flat : (path : List ℕ) → AllFlat path → HasFlat path
  first_flat [] all = all
  first_flat (e ∷ path) all = all.0

  -- How a path leaves a chain: at alternate `k`, which is `y`, by the edges of `rest`.
  abbrev Leaves : (xs ys : List ℕ) (base i : ℕ) (seen path : List ℕ) (j w : ℕ) → Type 0
  Leaves xs ys base i seen path j w =
      (k y : ℕ) × (rest beyond : List ℕ) × (slice_get ys k ≡ Some y) × Picks n links xs base k y path rest
      × IsNoLink links y × ((r : ℕ) → In r seen → In r beyond) × (In y beyond → ⊥)
      × IsPathFrom n t i beyond y rest j w × AllFlat rest

  leave :
      (xs ys : List ℕ) → AreOfChain n links xs ys → (edge base e r i : ℕ) (seen path : List ℕ) (j w : ℕ)
      → edge ≡ base + e → IsNoLink links w → slice_get xs e ≡ Some r → (In r seen → ⊥)
      → IsPathFrom n t i seen r path j w → AllFlat path → Leaves xs ys base i seen (edge ∷ path) j w
  leave [] ys chain edge base e r i seen path j w sum ends at new on all = absurd (none_some at)
  leave (x ∷ xs) ys (KeepsAlternate {ys = more} out chain) edge base zero r i seen path j w sum ends at new on all =
      let is : r ≡ x = sym (some_inj at) in (
        0,
        x,
        path,
        seen,
        refl,
        PicksThis out (ap (λ v. v ∷ path) (omega (arith, sum))),
        out,
        (λ s k. k),
        subst (λ v. In v seen → ⊥) is new,
        subst (λ v. IsPathFrom n t i seen v path j w) is on,
        all,
      )
  leave (x ∷ xs) ys (KeepsAlternate {ys = more} out chain) edge base (suc e) r i seen path j w sum ends at new on all =
      let c = leave xs more chain edge (suc base) e r i seen path j w (omega (arith, sum)) ends at new on all in (
        suc c.0,
        c.1,
        c.2,
        c.3,
        c.4,
        PicksLater out c.5,
        c.6,
        c.7,
        c.8,
        c.9,
        c.10,
      )
  leave (x ∷ []) ys (FollowsLink out at chain) edge base (suc e) r i seen path j w sum ends is new on all =
      absurd (none_some is)
  leave (x ∷ []) ys (FollowsLink out at chain) edge base zero r i seen [] j w sum ends is new on all =
      absurd (out (subst (IsNoLink links) (sym (on.1) ∙ sym (some_inj is)) ends))
  leave (x ∷ []) ys (FollowsLink {alternates = alternates} out at chain) edge base zero r i seen (d ∷ path) j w sum
      ends is new on all =
      go on
      (λ s f fresh here. leave alternates ys chain d 0 d s i (r ∷ seen) path j w (omega arith) ends f fresh here all.1)
    where
      same : r ≡ x
      same = sym (some_inj is)

      own : node n r ≡ Split alternates
      own = ap (λ v. node n v) same ∙ at

      go :
          TakesEdge n t i seen r d (λ s. IsPathFrom n t i (r ∷ seen) s path j w)
          (λ s. IsPathFrom n t (suc i) [] s path j w)
          → ((s : ℕ) → slice_get alternates d ≡ Some s → (In s (r ∷ seen) → ⊥) → IsPathFrom n t i (r ∷ seen) s path j w
          → Leaves alternates ys 0 i (r ∷ seen) (d ∷ path) j w)
          → Leaves (x ∷ []) ys base i seen (edge ∷ (d ∷ path)) j w
      go (ReadsByte s edge moves later) ih =
          absurd (none_some (subst (λ v. takes_at v moves.0 ≡ Some s) own moves.2))
      go (StaysHere s hops fresh here) ih =
          let c = ih s (subst (λ v. hop_at v (truth n t i) d ≡ Some s) own hops) fresh here in (
            c.0,
            c.1,
            c.2,
            c.3,
            c.4,
            PicksInLink out at (ap (λ v. v ∷ (d ∷ path)) (omega (arith, sum))) c.5,
            c.6,
            (λ v k. c.7 v (inr k)),
            c.8,
            c.9,
            c.10,
          )

  keep_met : (q : ℕ) (seen met : List ℕ) → ((r : ℕ) → In r met → In r seen) → (r : ℕ) → In r (q ∷ met) → In r (q ∷ seen)
  keep_met q seen met f r (inl e) = inl e
  keep_met q seen met f r (inr k) = inr (f r k)

  flat_step :
      (e : ℕ) (path : List ℕ) → AllFlat path → (i q : ℕ) (x : Node) (seen met : List ℕ) (j w : ℕ)
      → node n q ≡ x → IsFlatNode n links q x (node m q) → IsNoLink links q → IsNoLink links w
      → ((r : ℕ) → In r met → In r seen) → IsPathFrom n t i seen q (e ∷ path) j w
      → (k : ℕ) × (other : List ℕ) × Steps (Matches other) i x k (e ∷ path) × IsPathFrom m t i met q (k ∷ other) j w
  flat_step e path all i q (Split alternates) seen met j w is step out ends within (ReadsByte r edge moves later) =
      absurd (none_some (subst (λ v. takes_at v moves.0 ≡ Some r) is moves.2))
  flat_step e path all i q (Split alternates) seen met j w is step out ends within (StaysHere r hops fresh here) =
      let to = step.1 out in
      let c =
      leave alternates to.0 to.2 e 0 e r i (q ∷ seen) path j w (omega arith) ends
      (subst (λ v. hop_at v (truth n t i) e ≡ Some r) is hops) fresh here all in
      let g =
      first_flat c.2 c.10 i c.1 c.3 (q ∷ met) j w c.6 ends (λ s k. c.7 s (keep_met q seen met within s k)) c.9 in (
        c.0,
        g.0,
        (c.1, c.2, c.5, g.1),
        StaysHere c.1 (subst (λ v. hop_at v (truth m t i) c.0 ≡ Some c.1) (sym to.1) c.4)
            (λ k. c.8 (c.7 c.1 (keep_met q seen met within c.1 k))) g.2,
      )
  flat_step e path all i q (Assert look r) seen met j w is step out ends within (ReadsByte y edge moves later) =
      absurd (none_some (subst (λ v. takes_at v moves.0 ≡ Some y) is moves.2))
  flat_step e path all i q (Assert look r) seen met j w is step out ends within (StaysHere y hops fresh here) =
      go e (subst (λ v. hop_at v (truth n t i) e ≡ Some y) is hops)
    where
      go :
          (d : ℕ) → hop_at (Assert look r) (truth n t i) d ≡ Some y
          → (k : ℕ) × (other : List ℕ) × Steps (Matches other) i (Assert look r) k (d ∷ path)
          × IsPathFrom m t i met q (k ∷ other) j w
      go (suc d) f = absurd (none_some f)
      go zero f =
          let same : y ≡ r = cond_one (truth n t i look) r y f in
          let g =
          first_flat path all i y (q ∷ seen) (q ∷ met) j w (subst (IsNoLink links) (sym same) step.1) ends
          (keep_met q seen met within) here in (
            0,
            g.0,
            (path, refl, refl, subst (λ v. Matches g.0 i v path) same g.1),
            StaysHere y
                (subst (λ v. hop_at v (truth m t i) 0 ≡ Some y) (sym step.2) (flat_hops (Assert look r) i 0 ∙ f))
                (λ k. fresh (keep_met q seen met within y k)) g.2,
          )
  flat_step e path all i q (Read ranges) seen met j w is step out ends within (StaysHere r hops fresh here) =
      absurd (none_some (subst (λ v. hop_at v (truth n t i) e ≡ Some r) is hops))
  flat_step e path all i q (Read ranges) seen met j w is step out ends within (ReadsByte y edge moves later) =
      let reads = subst (λ v. takes_at v moves.0 ≡ Some y) is moves.2 in
      let g = first_flat path all (suc i) y [] [] j w (step.1 moves.0 y reads) ends (λ r k. k) later in (
        0,
        g.0,
        (moves.0, y, path, refl, ap (λ v. v ∷ path) edge, moves.1, reads, g.1),
        ReadsByte y refl (moves.0, moves.1, subst (λ v. takes_at v moves.0 ≡ Some y) (sym step.2) reads) g.2,
      )
  flat_step e path all i q (Accept p) seen met j w is step out ends within (StaysHere r hops fresh here) =
      absurd (none_some (subst (λ v. hop_at v (truth n t i) e ≡ Some r) is hops))
  flat_step e path all i q (Accept p) seen met j w is step out ends within (ReadsByte r edge moves later) =
      absurd (none_some (subst (λ v. takes_at v moves.0 ≡ Some r) is moves.2))

  all_flat : (path : List ℕ) → AllFlat path
  all_flat [] = λ i q seen met j w out ends within h. ([], refl, h)
  all_flat (e ∷ path) = (
    (λ i q seen met j w out ends within h.
        let c = flat_step e path (all_flat path) i q (node n q) seen met j w refl (flat_node q) out ends within h in
        (c.0 ∷ c.1, c.2, c.3)),
    all_flat path,
  )

  pub flat_forth : (path : List ℕ) → HasFlat path
  flat_forth path = first_flat path (all_flat path)

  -- The union that each visited link follows was visited, too.
  abbrev pub Follows : List ℕ → Type 0
  Follows seen = (r : ℕ) → In r seen → (IsNoLink links r → ⊥) → In (followed links r) seen

  -- The alternates of a chain are not links.
  stands : (xs ys : List ℕ) → AreOfChain n links xs ys → (k y : ℕ) → slice_get ys k ≡ Some y → IsNoLink links y
  stands [] ys EndsChain k y at = absurd (none_some at)
  stands (x ∷ xs) ys (KeepsAlternate {ys = more} out chain) zero y at = subst (IsNoLink links) (some_inj at) out
  stands (x ∷ xs) ys (KeepsAlternate {ys = more} out chain) (suc k) y at = stands xs more chain k y at
  stands (x ∷ []) ys (FollowsLink {alternates = zs} not own chain) k y at = stands zs ys chain k y at

  -- The union before a link is the only state that leads there.
  before_link :
      (s x e : ℕ) (alternates : List ℕ) → node n s ≡ Split alternates → slice_get alternates e ≡ Some x
      → (IsNoLink links x → ⊥) → followed links x ≡ s
  before_link s x e alternates is at not =
      from ((subst (λ v. IsFlatNode n links s v (node m s)) is (flat_node s)).0 x (nth_in alternates e x at))
    where
      from : IsNoLink links x ⊎ (followed links x ≡ s) → followed links x ≡ s
      from (inl f) = absurd (not f)
      from (inr f) = f

  -- The path from a state that is not a link has a corresponding path in the first NFA.
  abbrev pub HasFirst : List ℕ → Type 0
  HasFirst other =
      (i q : ℕ) (seen met : List ℕ) (j w : ℕ) → IsNoLink links q → (In q seen → ⊥)
      → ((r : ℕ) → In r seen → IsNoLink links r → In r met) → Follows seen → IsPathFrom m t i met q other j w
      → (path : List ℕ) × Matches other i q path × IsPathFrom n t i seen q path j w

  -- A path to alternate `k` of a chain also passes the chain's links in the first NFA.
  enter :
      (xs ys : List ℕ) → AreOfChain n links xs ys → (base k y i s : ℕ) (alternates seen other : List ℕ) (j w : ℕ)
      → node n s ≡ Split alternates → ((e r : ℕ) → slice_get xs e ≡ Some r → slice_get alternates (base + e) ≡ Some r)
      → (In s seen → ⊥) → Follows seen → ((IsNoLink links s → ⊥) → In (followed links s) seen)
      → slice_get ys k ≡ Some y → IsNoLink links y → (In y (s ∷ seen) → ⊥)
      → ((more : List ℕ) → (In y more → ⊥) → Follows more
      → ((r : ℕ) → In r more → IsNoLink links r → In r (s ∷ seen))
      → (rest : List ℕ) × Matches other i y rest × IsPathFrom n t i more y rest j w)
      → (path rest : List ℕ) × Picks n links xs base k y path rest × Matches other i y rest
      × IsPathFrom n t i seen s path j w
  enter [] ys EndsChain base k y i s alternates seen other j w is edges new follows own at free fresh on =
      absurd (none_some at)
  enter (x ∷ xs) ys (KeepsAlternate {ys = more} out chain) base zero y i s alternates seen other j w is
      edges new follows own at free fresh on =
      let same : x ≡ y = some_inj at in
      let c = on (s ∷ seen) fresh grown (λ r k o. k) in (
        base ∷ c.0,
        c.0,
        subst (λ v. Picks n links (x ∷ xs) base 0 v (base ∷ c.0) c.0) same (PicksThis out refl),
        c.1,
        StaysHere y
            (subst (λ v. hop_at v (truth n t i) base ≡ Some y) (sym is)
            (subst (λ v. slice_get alternates v ≡ Some y) (omega arith) (edges 0 y at)))
            fresh c.2,
      )
    where
      grown : Follows (s ∷ seen)
      grown r (inl e) f =
          inr (subst (λ v. In (followed links v) seen) (sym e) (own (subst (λ v. IsNoLink links v → ⊥) e f)))
      grown r (inr k) f = inr (follows r k f)
  enter (x ∷ xs) ys (KeepsAlternate {ys = more} out chain) base (suc k) y i s alternates seen other j w is
      edges new follows own at free fresh on =
      let c =
      enter xs more chain (suc base) k y i s alternates seen other j w is
      (λ e r f. subst (λ v. slice_get alternates v ≡ Some r) (omega arith) (edges (suc e) r f)) new follows own at free
      fresh on in
      (c.0, c.1, PicksLater out c.2, c.3, c.4)
  enter (x ∷ []) ys (FollowsLink {alternates = zs} not node_is chain) base k y i s alternates seen other j w is
      edges new follows own at free fresh on =
      let c =
      enter zs ys chain 0 k y i x zs (s ∷ seen) other j w node_is
      (λ e r f. subst (λ v. slice_get zs v ≡ Some r) (omega arith) f)
      unseen grown (λ f. inl before) at free unmet (λ more f g h. on more f g (λ r k o. after r o (h r k o))) in (
        base ∷ c.0,
        c.1,
        PicksInLink not node_is refl c.2,
        c.3,
        StaysHere x (subst (λ v. hop_at v (truth n t i) base ≡ Some x) (sym is) edge) unseen c.4,
      )
    where
      edge : slice_get alternates base ≡ Some x
      edge = subst (λ v. slice_get alternates v ≡ Some x) (omega arith) (edges 0 x refl)

      before : followed links x ≡ s
      before = before_link s x base alternates is edge not

      unseen : In x (s ∷ seen) → ⊥
      unseen (inl e) = not (before ∙ sym e)
      unseen (inr k) = new (subst (λ v. In v seen) before (follows x k not))

      grown : Follows (s ∷ seen)
      grown r (inl e) f =
          inr (subst (λ v. In (followed links v) seen) (sym e) (own (subst (λ v. IsNoLink links v → ⊥) e f)))
      grown r (inr k) f = inr (follows r k f)

      unmet : In y (x ∷ (s ∷ seen)) → ⊥
      unmet (inl e) = not (subst (IsNoLink links) e free)
      unmet (inr k) = fresh k

      after : (r : ℕ) → IsNoLink links r → In r (x ∷ (s ∷ seen)) → In r (s ∷ seen)
      after r o (inl e) = absurd (not (subst (IsNoLink links) e o))
      after r o (inr k) = k

  keep_seen :
      (q : ℕ) (seen met : List ℕ) → ((r : ℕ) → In r seen → IsNoLink links r → In r met) → (r : ℕ) → In r (q ∷ seen)
      → IsNoLink links r → In r (q ∷ met)
  keep_seen q seen met f r (inl e) o = inl e
  keep_seen q seen met f r (inr k) o = inr (f r k o)

  keep_follows : (q : ℕ) (seen : List ℕ) → IsNoLink links q → Follows seen → Follows (q ∷ seen)
  keep_follows q seen out follows r (inl e) f = absurd (f (subst (IsNoLink links) (sym e) out))
  keep_follows q seen out follows r (inr k) f = inr (follows r k f)

  first_step :
      (k : ℕ) (other : List ℕ) → HasFirst other → (i q : ℕ) (x : Node) (seen met : List ℕ) (j w : ℕ)
      → node n q ≡ x → IsFlatNode n links q x (node m q) → IsNoLink links q → (In q seen → ⊥)
      → ((r : ℕ) → In r seen → IsNoLink links r → In r met) → Follows seen → IsPathFrom m t i met q (k ∷ other) j w
      → (path : List ℕ) × Steps (Matches other) i x k path × IsPathFrom n t i seen q path j w
  first_step k other ih i q (Split alternates) seen met j w is step out new within follows
      (ReadsByte y edge moves later) =
      absurd (none_some (subst (λ v. takes_at v moves.0 ≡ Some y) ((step.1 out).1) moves.2))
  first_step k other ih i q (Split alternates) seen met j w is step out new within follows
      (StaysHere y hops fresh here) =
      let to = step.1 out in
      let at = subst (λ v. hop_at v (truth m t i) k ≡ Some y) to.1 hops in
      let free = stands alternates to.0 to.2 k y at in
      let c =
      enter alternates to.0 to.2 0 k y i q alternates seen other j w is
      (λ e r f. subst (λ v. slice_get alternates v ≡ Some r) (omega arith) f) new follows (λ f. absurd (f out)) at free
      (λ v. fresh (keep_seen q seen met within y v free))
      (λ more f g h. ih i y more (q ∷ met) j w free f (λ r v o. keep_seen q seen met within r (h r v o) o) g here) in
      (c.0, (y, c.1, c.2, c.3), c.4)
  first_step k other ih i q (Assert look r) seen met j w is step out new within follows (ReadsByte y edge moves later) =
      absurd (none_some (subst (λ v. takes_at v moves.0 ≡ Some y) step.2 moves.2))
  first_step k other ih i q (Assert look r) seen met j w is step out new within follows (StaysHere y hops fresh here) =
      go k (subst (λ v. hop_at v (truth m t i) k ≡ Some y) step.2 hops)
    where
      go :
          (d : ℕ) → hop_at (Assert look r) (truth m t i) d ≡ Some y
          → (path : List ℕ) × Steps (Matches other) i (Assert look r) d path × IsPathFrom n t i seen q path j w
      go (suc d) f = absurd (none_some f)
      go zero f =
          let same : y ≡ r = cond_one (truth m t i look) r y f in
          let free : IsNoLink links y = subst (IsNoLink links) (sym same) step.1 in
          let unseen : (In y (q ∷ seen) → ⊥) = (λ v. fresh (keep_seen q seen met within y v free)) in
          let g =
          ih i y (q ∷ seen) (q ∷ met) j w free unseen (keep_seen q seen met within) (keep_follows q seen out follows)
          here
          in (
            0 ∷ g.0,
            (g.0, refl, refl, subst (λ v. Matches other i v g.0) same g.1),
            StaysHere y
                (subst (λ v. hop_at v (truth n t i) 0 ≡ Some y) (sym is) (sym (flat_hops (Assert look r) i 0) ∙ f))
                unseen g.2,
          )
  first_step k other ih i q (Read ranges) seen met j w is step out new within follows (StaysHere y hops fresh here) =
      absurd (none_some (subst (λ v. hop_at v (truth m t i) k ≡ Some y) step.2 hops))
  first_step k other ih i q (Read ranges) seen met j w is step out new within follows (ReadsByte y edge moves later) =
      let reads = subst (λ v. takes_at v moves.0 ≡ Some y) step.2 moves.2 in
      let g =
      ih (suc i) y [] [] j w (step.1 moves.0 y reads) (λ r. r) (λ r v o. v) (λ r v f. absurd v) later in (
        0 ∷ g.0,
        (moves.0, y, g.0, edge, refl, moves.1, reads, g.1),
        ReadsByte y refl (moves.0, moves.1, subst (λ v. takes_at v moves.0 ≡ Some y) (sym is) reads) g.2,
      )
  first_step k other ih i q (Accept p) seen met j w is step out new within follows (StaysHere y hops fresh here) =
      absurd (none_some (subst (λ v. hop_at v (truth m t i) k ≡ Some y) step.1 hops))
  first_step k other ih i q (Accept p) seen met j w is step out new within follows (ReadsByte y edge moves later) =
      absurd (none_some (subst (λ v. takes_at v moves.0 ≡ Some y) step.1 moves.2))

  pub flat_back : (other : List ℕ) → HasFirst other
  flat_back [] i q seen met j w out new within follows h = ([], refl, h)
  flat_back (k ∷ other) i q seen met j w out new within follows h =
      first_step k other (flat_back other) i q (node n q) seen met j w refl (flat_node q) out new within follows h

  -- A path of the flattened NFA ends at no link if it begins at none.
  ends_step :
      (k : ℕ) (other : List ℕ)
      → ((i q : ℕ) (met : List ℕ) (j w : ℕ) → IsNoLink links q → IsPathFrom m t i met q other j w → IsNoLink links w)
      → (i q : ℕ) (x : Node) (met : List ℕ) (j w : ℕ) → IsFlatNode n links q x (node m q) → IsNoLink links q
      → IsPathFrom m t i met q (k ∷ other) j w → IsNoLink links w
  ends_step k other ih i q (Split alternates) met j w step out (ReadsByte y edge moves later) =
      absurd (none_some (subst (λ v. takes_at v moves.0 ≡ Some y) ((step.1 out).1) moves.2))
  ends_step k other ih i q (Split alternates) met j w step out (StaysHere y hops fresh here) =
      let to = step.1 out in
      let at = subst (λ v. hop_at v (truth m t i) k ≡ Some y) to.1 hops in
      ih i y (q ∷ met) j w (stands alternates to.0 to.2 k y at) here
  ends_step k other ih i q (Assert look r) met j w step out (ReadsByte y edge moves later) =
      absurd (none_some (subst (λ v. takes_at v moves.0 ≡ Some y) step.2 moves.2))
  ends_step k other ih i q (Assert look r) met j w step out (StaysHere y hops fresh here) =
      ih i y (q ∷ met) j w (go k (subst (λ v. hop_at v (truth m t i) k ≡ Some y) step.2 hops)) here
    where
      go : (d : ℕ) → hop_at (Assert look r) (truth m t i) d ≡ Some y → IsNoLink links y
      go (suc d) f = absurd (none_some f)
      go zero f = subst (IsNoLink links) (sym (cond_one (truth m t i look) r y f)) step.1
  ends_step k other ih i q (Read ranges) met j w step out (StaysHere y hops fresh here) =
      absurd (none_some (subst (λ v. hop_at v (truth m t i) k ≡ Some y) step.2 hops))
  ends_step k other ih i q (Read ranges) met j w step out (ReadsByte y edge moves later) =
      ih (suc i) y [] j w (step.1 moves.0 y (subst (λ v. takes_at v moves.0 ≡ Some y) step.2 moves.2)) later
  ends_step k other ih i q (Accept p) met j w step out (StaysHere y hops fresh here) =
      absurd (none_some (subst (λ v. hop_at v (truth m t i) k ≡ Some y) step.1 hops))
  ends_step k other ih i q (Accept p) met j w step out (ReadsByte y edge moves later) =
      absurd (none_some (subst (λ v. takes_at v moves.0 ≡ Some y) step.1 moves.2))

  pub flat_ends :
      (other : List ℕ) (i q : ℕ) (met : List ℕ) (j w : ℕ) → IsNoLink links q → IsPathFrom m t i met q other j w
      → IsNoLink links w
  flat_ends [] i q met j w out h = subst (IsNoLink links) h.1 out
  flat_ends (k ∷ other) i q met j w out h =
      ends_step k other (flat_ends other) i q (node n q) met j w (flat_node q) out h

  -- Match states stay, and are not links.
  pub match_free : (w p : ℕ) → accepts n w ≡ Some p → IsNoLink links w × (accepts m w ≡ Some p)
  match_free w p is = go (node n w) (flat_node w) is
    where
      go :
          (x : Node) → IsFlatNode n links w x (node m w) → accepts_at x ≡ Some p
          → IsNoLink links w × (accepts m w ≡ Some p)
      go (Split alternates) step f = absurd (none_some f)
      go (Assert look r) step f = absurd (none_some f)
      go (Read ranges) step f = absurd (none_some f)
      go (Accept o) step f = (step.0, ap accepts_at step.1 ∙ f)

  pub match_first : (w p : ℕ) → IsNoLink links w → accepts m w ≡ Some p → accepts n w ≡ Some p
  match_first w p out is = go (node n w) (flat_node w)
    where
      go : (x : Node) → IsFlatNode n links w x (node m w) → accepts_at x ≡ Some p
      go (Split alternates) step = absurd (none_some (ap accepts_at (sym ((step.1 out).1)) ∙ is))
      go (Assert look r) step = absurd (none_some (ap accepts_at (sym step.2) ∙ is))
      go (Read ranges) step = absurd (none_some (ap accepts_at (sym step.2) ∙ is))
      go (Accept o) step = ap accepts_at (sym step.1) ∙ is

  -- Corresponding paths from one state are ordered alike.
  module _ (E B U : Type 0) where
    steps_more :
        (Next : ℕ → ℕ → List ℕ → Type 0) (i : ℕ) (x : Node) (k : ℕ) (path : List ℕ) → Steps Next i x k path
        → (e : ℕ) × (more : List ℕ) × (path ≡ e ∷ more)
    steps_more Next i (Split alternates) k path s =
        let c = picks_more n links alternates 0 k s.0 path s.1 s.2 in (c.0, c.1, c.2)
    steps_more Next i (Assert look r) k path s = (0, s.0, s.2)
    steps_more Next i (Read ranges) k path s = (0, s.2, s.4)
    steps_more Next i (Accept p) k path s = absurd s

    -- Paths that go on alike, if the first edges are the same, are ordered alike.
    abbrev Orders : (X Y : ℕ → ℕ → List ℕ → Type 0) → (a b : List ℕ) → Type 0
    Orders X Y a b =
        (i q : ℕ) (p o : List ℕ) → X i q p → Y i q o → Compares E B U a b ↔ Compares E B U p o

    steps_order :
        (X Y : ℕ → ℕ → List ℕ → Type 0) (a b : List ℕ) → Orders X Y a b → (i : ℕ) (x : Node) (k l : ℕ) (p o : List ℕ)
        → Steps X i x k p → Steps Y i x l o → Compares E B U (k ∷ a) (l ∷ b) ↔ Compares E B U p o
    steps_order X Y a b ih i (Split alternates) k l p o s u =
        let c = picks_order n links E B U alternates 0 k l s.0 u.0 p o s.1 u.1 s.2 u.2 in
        both_ways (to c.1, from c.1) c.0
      where
        rest : (k ≡ l → s.0 ≡ u.0) → k ≡ l → Compares E B U a b ↔ Compares E B U s.1 u.1
        rest same e = ih i s.0 s.1 u.1 s.3 (subst (λ v. Y i v u.1) (sym (same e)) u.3)

        to : (k ≡ l → s.0 ≡ u.0) → Compares E B U (k ∷ a) (l ∷ b) → Compares E B U (k ∷ s.1) (l ∷ u.1)
        to same (inl h) = inl h
        to same (inr h) = inr (h.0, (rest same h.0).0 h.1)

        from : (k ≡ l → s.0 ≡ u.0) → Compares E B U (k ∷ s.1) (l ∷ u.1) → Compares E B U (k ∷ a) (l ∷ b)
        from same (inl h) = inl h
        from same (inr h) = inr (h.0, (rest same h.0).1 h.1)
    steps_order X Y a b ih i (Assert look r) k l p o s u =
        both_ways (same_head E B U k l a b (s.1 ∙ sym u.1))
        (with_equal E B U (Compares E B U a b) p o (0 ∷ s.0) (0 ∷ u.0) s.2 u.2
        (both_ways (ih i r s.0 u.0 s.3 u.3) (other_way (same_head E B U 0 0 s.0 u.0 refl))))
    steps_order X Y a b ih i (Read ranges) k l p o s u =
        both_ways (same_head E B U k l a b (s.3 ∙ sym u.3))
        (with_equal E B U (Compares E B U a b) p o (0 ∷ s.2) (0 ∷ u.2) s.4 u.4
        (both_ways (ih (suc i) s.1 s.2 u.2 s.7 (subst (λ v. Y (suc i) v u.2) target u.7))
        (other_way (same_head E B U 0 0 s.2 u.2 refl))))
      where
        target : u.1 ≡ s.1
        target = some_inj (sym u.6 ∙ (ap (λ v. takes_in ranges v) (some_inj (sym u.5 ∙ s.5)) ∙ s.6))
    steps_order X Y a b ih i (Accept p) k l q o s u = absurd s

    pub flat_order : (a b : List ℕ) → Orders (Matches a) (Matches b) a b
    flat_order [] [] i q p o s u = with_equal E B U E p o [] [] s u ((λ e. e), (λ e. e))
    flat_order [] (l ∷ b) i q p o s u =
        let c = steps_more (Matches b) i (node n q) l o u in
        with_equal E B U B p o [] (c.0 ∷ c.1) s c.2 ((λ e. e), (λ e. e))
    flat_order (k ∷ a) [] i q p o s u =
        let c = steps_more (Matches a) i (node n q) k p s in
        with_equal E B U ⊥ p o (c.0 ∷ c.1) [] c.2 u ((λ e. e), (λ e. e))
    flat_order (k ∷ a) (l ∷ b) i q p o s u =
        steps_order (Matches a) (Matches b) a b (flat_order a b) i (node n q) k l p o s u
