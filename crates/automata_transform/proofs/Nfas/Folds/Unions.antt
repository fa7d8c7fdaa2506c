-- How a union is folded.
use Rattle.std.proofs.Common.{ℕ, zero, suc, ◌≡◌, ◌<◌, ◌≤◌, ◌+◌, ◌-◌, ◌/◌, ◌↔◌, List, [], ◌∷◌, ◌++◌, ◌⊎◌, Option, inl}
use Rattle.std.proofs.Common.{inr, refl, sym}
use Rattle.std.proofs.Common.{ap, ◌∙◌, subst, arith, length}
use Rattle.std.proofs.lemmas.Bool.{cases_lt}
use Rattle.std.proofs.lemmas.Option.{slice_get_past}
use Rattle.automata_base.specs.declared.nfa.thompson.state.State.{State}
use Rattle.automata_base.specs.declared.nfa.thompson.state.Transition.{Transition}
use Rattle.automata_base.specs.Lists.{In}
use Rattle.automata_base.specs.Nfas.Nfa.{Node, Split, Read, takes_in}
use Rattle.automata_base.specs.Nfas.Nodes.{ranges_of}
use Rattle.automata_transform.specs.Retraced.Folds.{AreTreeHeads, IsFoldOf, IsNotFree, IsMade, StandsIfAny, ReadsRange}
use Rattle.automata_transform.specs.Retraced.Folds.{SomeReads, StaysOrReads}
use Rattle.automata_base.specs.Retraced.ReversedEdges.{list_at}
use Rattle.automata_transform.specs.Retraced.Segments.{above, IsOnWay, head_or_none, leaf_head}
use Rattle.automata_transform.proofs.Nfas.Folds.Heads.{any_more}

-- Each node has a leaf below it.
abbrev Doubles : (times k : ℕ) → Type 0
Doubles zero k = 256 ≤ k
Doubles (suc times) k = Doubles times (k + k)

abbrev LeafBelow : ℕ → Type 0
LeafBelow k = (u steps : ℕ) × (u < 256) × (above steps (u + 256) ≡ k)

leaf_itself : (k : ℕ) → 256 ≤ k → k < 512 → LeafBelow k
leaf_itself k a b = (k - 256, 0, omega (arith, a, b), omega (arith, a))

leaf_below : (times k : ℕ) → Doubles times k → k < 512 → LeafBelow k
leaf_below zero k d l = leaf_itself k d l
leaf_below (suc times) k d l = go (cases_lt k 256) (λ s. leaf_below times (k + k) d s)
  where
    go : (k < 256) ⊎ (256 ≤ k) → (k + k < 512 → LeafBelow (k + k)) → LeafBelow k
    go (inl a) f = let r = f (omega (arith, a)) in (r.0, suc r.1, r.2, ap (λ v. v / 2) r.3 ∙ half k)
      where
        half : (k : ℕ) → (k + k) / 2 ≡ k
        half k = omega arith
    go (inr a) f = leaf_itself k a l

node_below : (k : ℕ) → k < 512 → LeafBelow k
node_below k l = go (cases_lt 0 k)
  where
    go : (0 < k) ⊎ (k ≤ 0) → LeafBelow k
    go (inl a) = leaf_below 8 k (omega (arith, a)) l
    go (inr a) = (0, 9, omega arith, omega (arith, a))

list_past : (lists : List (List ℕ)) (k : ℕ) → length lists ≤ k → list_at lists k ≡ []
list_past [] k l = refl
list_past (x ∷ lists) zero l = absurd (omega (arith, l))
list_past (x ∷ lists) (suc k) l = list_past lists k (omega (arith, l))

-- The states in the tree are kept.
pub lists_kept :
    (states : List State) (free xs : List ℕ) (lists : List (List ℕ)) → length lists ≡ 512
    → ((u t : ℕ) → u < 256 → IsOnWay lists (u + 256) t ↔ SomeReads states xs u t)
    → ((u t : ℕ) → SomeReads states xs u t → IsNotFree free t) → (k t : ℕ) → In t (list_at lists k) → IsNotFree free t
lists_kept states free xs lists nodes reads kept k t i = go (cases_lt k 512)
  where
    go : (k < 512) ⊎ (512 ≤ k) → IsNotFree free t
    go (inl l) =
        let b = node_below k l in
        kept b.0 t ((reads b.0 t b.2).0 (b.1, subst (λ v. In t (list_at lists v)) (sym b.3) i))
    go (inr l) = absurd (subst (λ v. In t v) (list_past lists k (omega (arith, l, nodes))) i)

pub fold_of :
    (states : List State) (free : List ℕ) (m1 m2 : List Node) (xs others stay : List ℕ) (lists : List (List ℕ))
    (heads : List (Option ℕ)) (ts : List Transition) (reader : ℕ)
    → AreTreeHeads free m1 lists heads 512 → length heads ≡ 512
    → ((u : ℕ) → takes_in (ranges_of ts) u ≡ leaf_head heads u)
    → ((u t : ℕ) → u < 256 → IsOnWay lists (u + 256) t ↔ SomeReads states xs u t)
    → ((u t : ℕ) → SomeReads states xs u t → u < 256)
    → ((x : ℕ) → In x others → In x xs × ((range : Transition) → ReadsRange states x range → ⊥))
    → ((x : ℕ) → In x xs → StaysOrReads states others x)
    → m2 ≡ m1 ++ Read (ranges_of ts) ∷ [] → IsMade free m2 reader (Read (ranges_of ts)) → stay ≡ others ++ reader ∷ []
    → IsFoldOf states free m2 xs (Split stay)
fold_of states free m1 m2 xs others stay lists heads ts reader h nodes takes reads low sound all grows made is =
    record {
      stay = others;
      reader = reader;
      ranges = ranges_of ts;
      union = ap Split is;
      reads = made;
      sound = sound;
      alternates = all;
      stands = λ u. go u (cases_lt u 256);
    }
  where
    go :
        (u : ℕ) → (u < 256) ⊎ (256 ≤ u)
        → (targets : List ℕ) × StandsIfAny free m2 (takes_in (ranges_of ts) u) targets
        × ((t : ℕ) → In t targets ↔ SomeReads states xs u t)
    go u (inl l) =
        let k = h (u + 256) (omega (arith, l)) in (
          k.0,
          subst (λ v. StandsIfAny free m2 v k.0) (sym (takes u))
              (subst (λ v. StandsIfAny free v (leaf_head heads u) k.0) (sym grows)
              (any_more free m1 (Read (ranges_of ts) ∷ []) (leaf_head heads u) k.0 k.1)),
          λ t. ((λ i. (reads u t l).0 ((k.2 t).0 i)), λ w. (k.2 t).1 ((reads u t l).1 w)),
        )
    go u (inr l) = (
      [],
      subst (λ v. StandsIfAny free m2 v [])
          (sym (takes u ∙ ap head_or_none (slice_get_past heads (u + 256) (omega (arith, l, nodes))))) refl,
      λ t. ((λ i. absurd i), λ w. let k = low u t w in absurd (omega (arith, k, l))),
    )
