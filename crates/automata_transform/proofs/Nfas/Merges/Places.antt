-- Properties of the states of a merged NFA, and of the states that paths have visited.
use Rattle.std.proofs.Common.{ℕ, zero, suc, ◌≡◌, ◌<◌, ◌≤◌, ◌-◌, Bool, true, false, cond, List, [], ◌∷◌, ◌++◌, ◌⊎◌, ◌↔◌}
use Rattle.std.proofs.Common.{length, Option, Some, None, inl, inr, refl, sym, ap, ap₂, ◌∙◌, subst, arith, lt-ltb}
use Rattle.std.proofs.Common.{le-ltb}
use Rattle.std.proofs.lemmas.Bool.{cases_lt}
use Rattle.std.specs.Prelude.{slice_get}
use Rattle.automata_base.specs.declared.util.look.Look.{Look}
use Rattle.automata_base.specs.Haystacks.Looks.{holds}
use Rattle.automata_base.specs.Lists.{In}
use Rattle.automata_base.specs.Nfas.Accepted.{IsInRange}
use Rattle.automata_transform.specs.Nfas.Merges.{stood_for, all_stood_for, list_or_none, Shows, IsMerged, IsMergedNode}
use Rattle.automata_transform.specs.Nfas.Merges.{KeepsNode, MergesUnion}
use Rattle.automata_base.specs.Nfas.Nfa.{Nfa, Node, Split, Assert, Read, Accept, Range, node, node_or_fail, hop_at}
use Rattle.automata_base.specs.Nfas.Nfa.{accepts}
use Rattle.automata_base.specs.Nfas.Nfa.{accepts_at}
use Rattle.automata_base.specs.Paths.Paths.{Tape, truth, prev, next}
use Rattle.automata_base.specs.Powersets.Closure.{children_at}
use Rattle.automata_base.proofs.Paths.Orders.{some_inj, none_some}

pub split_inj : (xs ys : List ℕ) → Split xs ≡ Split ys → xs ≡ ys
split_inj xs ys e = cc

-- A state past the last one is a fail state.
past : (xs : List Node) (q : ℕ) → length xs ≤ q → node_or_fail (slice_get xs q) ≡ Split []
past [] q l = refl
past (x ∷ xs) zero l = absurd (omega (arith, l))
past (x ∷ xs) (suc q) l = past xs q (omega (arith, l))

past_lists : (xs : List (List ℕ)) (q : ℕ) → length xs ≤ q → list_or_none (slice_get xs q) ≡ []
past_lists [] q l = refl
past_lists (x ∷ xs) zero l = absurd (omega (arith, l))
past_lists (x ∷ xs) (suc q) l = past_lists xs q (omega (arith, l))

pub node_past : (n : Nfa) (q : ℕ) → length n.nodes ≤ q → node n q ≡ Split []
node_past n q l = past n.nodes q l

pub old_means : (count : ℕ) (lists : List (List ℕ)) (q : ℕ) → q < count → stood_for count lists q ≡ q ∷ []
old_means count lists q l =
    ap (λ b. cond b (q ∷ []) (list_or_none (slice_get lists (q - count)))) (lt-ltb q count l)

further_means :
    (count : ℕ) (lists : List (List ℕ)) (q : ℕ) → count ≤ q
    → stood_for count lists q ≡ list_or_none (slice_get lists (q - count))
further_means count lists q l =
    ap (λ b. cond b (q ∷ []) (list_or_none (slice_get lists (q - count)))) (le-ltb q count l)

-- A state of the first NFA stands only for itself.
pub old_one :
    (count : ℕ) (lists : List (List ℕ)) (q o s : ℕ) → q < count → slice_get (stood_for count lists q) o ≡ Some s
    → (o ≡ 0) × (s ≡ q)
old_one count lists q o s l e = go o (subst (λ v. slice_get v o ≡ Some s) (old_means count lists q l) e)
  where
    go : (o : ℕ) → slice_get (q ∷ []) o ≡ Some s → (o ≡ 0) × (s ≡ q)
    go zero e = (refl, sym (some_inj e))
    go (suc o) e = absurd (none_some e)

all_old :
    (count : ℕ) (lists : List (List ℕ)) (qs : List ℕ) → ((q : ℕ) → In q qs → q < count)
    → all_stood_for count lists qs ≡ qs
all_old count lists [] f = refl
all_old count lists (q ∷ qs) f =
    ap₂ ◌++◌ (old_means count lists q (f q (inl refl))) (all_old count lists qs (λ r i. f r (inr i)))

-- No state of the list reads bytes.
abbrev pub ReadsNone : Nfa → List ℕ → Type 0
ReadsNone n seen = (q : ℕ) (ranges : List Range) → In q seen → node n q ≡ Read ranges → ⊥

-- A state of the first NFA is in both lists or in neither.
abbrev pub HaveSame : (count : ℕ) → List ℕ → List ℕ → Type 0
HaveSame count seen other = (q : ℕ) → q < count → In q seen ↔ In q other

pub same_cons :
    (count : ℕ) (seen other : List ℕ) (z : ℕ) → HaveSame count seen other → HaveSame count (z ∷ seen) (z ∷ other)
same_cons count seen other z f q l = (to, from)
  where
    to : In q (z ∷ seen) → In q (z ∷ other)
    to (inl e) = inl e
    to (inr i) = inr ((f q l).0 i)

    from : In q (z ∷ other) → In q (z ∷ seen)
    from (inl e) = inl e
    from (inr i) = inr ((f q l).1 i)

pub same_further :
    (count : ℕ) (seen other : List ℕ) (z : ℕ) → count ≤ z → HaveSame count seen other → HaveSame count seen (z ∷ other)
same_further count seen other z far f q l = ((λ i. inr ((f q l).0 i)), from)
  where
    from : In q (z ∷ other) → In q seen
    from (inl e) = absurd (omega (arith, l, far, e))
    from (inr i) = (f q l).1 i

pub split_read : (xs : List ℕ) (ranges : List Range) → Split xs ≡ Read ranges → ⊥
split_read xs ranges e = cc

pub cond_one : (b : Bool) (r x : ℕ) → ◌≡◌ {A = Option ℕ} (cond b (Some r) None) (Some x) → x ≡ r
cond_one true r x e = sym (some_inj e)
cond_one false r x e = absurd (none_some e)

pub split_assert : (xs : List ℕ) (look : Look) (next : ℕ) → Split xs ≡ Assert look next → ⊥
split_assert xs look next e = cc

pub split_accept : (xs : List ℕ) (p : ℕ) → Split xs ≡ Accept p → ⊥
split_accept xs p e = cc

assert_read : (look : Look) (next : ℕ) (ranges : List Range) → Assert look next ≡ Read ranges → ⊥
assert_read look next ranges e = cc

pub reads_none_split :
    (n : Nfa) (seen : List ℕ) (z : ℕ) (alternates : List ℕ) → node n z ≡ Split alternates → ReadsNone n seen
    → ReadsNone n (z ∷ seen)
reads_none_split n seen z alternates e f q ranges (inl i) r =
    split_read alternates ranges (sym e ∙ (ap (λ v. node n v) (sym i) ∙ r))
reads_none_split n seen z alternates e f q ranges (inr i) r = f q ranges i r

pub reads_none_assert :
    (n : Nfa) (seen : List ℕ) (z : ℕ) (look : Look) (next : ℕ) → node n z ≡ Assert look next → ReadsNone n seen
    → ReadsNone n (z ∷ seen)
reads_none_assert n seen z look next e f q ranges (inl i) r =
    assert_read look next ranges (sym e ∙ (ap (λ v. node n v) (sym i) ∙ r))
reads_none_assert n seen z look next e f q ranges (inr i) r = f q ranges i r

-- A state where a path may end: one of the first NFA that is not merged away.
abbrev pub MayEnd : Nfa → (anchored : ℕ) → ℕ → Type 0
MayEnd n anchored w = (w < length n.nodes) × ((ranges : List Range) → node n w ≡ Read ranges → w ≡ anchored)

accepting_at : (x : Node) (p : ℕ) (ranges : List Range) → accepts_at x ≡ Some p → x ≡ Read ranges → ⊥
accepting_at x p ranges h e = none_some (ap accepts_at (sym e) ∙ h)

pub match_may_end : (n : Nfa) (anchored w p : ℕ) → accepts n w ≡ Some p → MayEnd n anchored w
match_may_end n anchored w p h =
    (go (cases_lt w (length n.nodes)), (λ ranges e. absurd (accepting_at (node n w) p ranges h e)))
  where
    go : (w < length n.nodes) ⊎ (length n.nodes ≤ w) → w < length n.nodes
    go (inl l) = l
    go (inr l) = absurd (none_some (ap accepts_at (sym (node_past n w l)) ∙ h))

module _ (n m : Nfa) (anchored : ℕ) (lists : List (List ℕ)) (merged : IsMerged n m anchored lists) where
  -- Looks hold alike in both NFAs.
  pub hops_alike :
      (x : Node) (t : Tape) (i e : ℕ) → hop_at x (truth m t i) e ≡ hop_at x (truth n t i) e
  hops_alike (Split alternates) t i e = refl
  hops_alike (Read ranges) t i e = refl
  hops_alike (Accept p) t i e = refl
  hops_alike (Assert look r) t i (suc e) = refl
  hops_alike (Assert look r) t i zero =
      ap₂ (λ b d. cond (holds b d look (prev t i) (next t i)) (Some r) None) merged.terminator merged.reverse

  -- A further state stands for its list.
  pub further_shows :
      (z : ℕ) → length n.nodes ≤ z → Shows n m anchored lists (node m z) (stood_for (length n.nodes) lists z)
  further_shows z l = go (cases_lt z (length m.nodes))
    where
      go :
          (z < length m.nodes) ⊎ (length m.nodes ≤ z)
          → Shows n m anchored lists (node m z) (stood_for (length n.nodes) lists z)
      go (inl k) = merged.further z l k
      go (inr k) =
          subst (λ v. Shows n m anchored lists v (stood_for (length n.nodes) lists z)) (sym (node_past m z k)) (
            sym (further_means (length n.nodes) lists z l
                ∙ past_lists lists (z - length n.nodes) (omega (arith, k, l, merged.count))),
            (λ q i. absurd i),
          )

  module _ (ranged : IsInRange n) where
    pub alternate_old :
        (z : ℕ) (alternates : List ℕ) → node n z ≡ Split alternates → (q : ℕ) → In q alternates → q < length n.nodes
    alternate_old z alternates e q i =
        ranged.0 z q (λ look. true) (subst (λ v. In q (children_at v (λ look. true))) (sym e) i)

    pub assert_old : (z : ℕ) (look : Look) (r : ℕ) → node n z ≡ Assert look r → r < length n.nodes
    assert_old z look r e =
        ranged.0 z r (λ look. true) (subst (λ v. In r (children_at v (λ look. true))) (sym e) (inl refl))

    -- A union of the first NFA becomes a node that stands for its alternates.
    pub union_shows :
        (z : ℕ) (alternates : List ℕ) → z < length n.nodes → node n z ≡ Split alternates
        → Shows n m anchored lists (node m z) alternates
    union_shows z alternates l e = go (merged.first_states z l)
      where
        go :
            IsMergedNode n m anchored lists (node n z) (node m z) → Shows n m anchored lists (node m z) alternates
        go (KeepsNode h) =
            subst (λ v. Shows n m anchored lists v alternates) (sym (h ∙ e)) (
              all_old (length n.nodes) lists alternates (alternate_old z alternates e),
              (λ q i far. absurd (omega (arith, far, alternate_old z alternates e q i))),
            )
        go (MergesUnion others was shows) =
            subst (λ v. Shows n m anchored lists (node m z) v) (split_inj others alternates (sym was ∙ e)) shows

  -- Any other state of the first NFA is unchanged.
  pub others_same :
      (z : ℕ) → z < length n.nodes → ((alternates : List ℕ) → node n z ≡ Split alternates → ⊥) → node m z ≡ node n z
  others_same z l f = go (merged.first_states z l)
    where
      go :
          IsMergedNode n m anchored lists (node n z) (node m z) → node m z ≡ node n z
      go (KeepsNode h) = h
      go (MergesUnion others was shows) = absurd (f others was)
