-- A walk over the pairs, and the tests of the pairs that it reached.
use Rattle.std.proofs.Common.{ℕ, ◌≡◌, ◌<◌, ◌≤◌, ◌+◌, ◌⊎◌, ◌↔◌, Bool, true, false, not, List, [], ◌∷◌, ◌++◌, length}
use Rattle.std.proofs.Common.{get_or, take, inl, inr, refl, sym, ap, ◌∙◌, subst, true≢false}
use Rattle.std.specs.Prelude.{IsTrue}
use Rattle.std.proofs.lemmas.Bool.{false≢true}
use Rattle.std.proofs.lemmas.List.{take_more, take_all}
use Rattle.automata_base.specs.Lists.{In}
use Rattle.automata_base.specs.Retraced.Once.{once_from}
use Rattle.automata_base.specs.Retraced.Reach.{IsReachedBy}
use Rattle.automata_base.proofs.Powersets.Distinct.{In-get_or}
use Rattle.automata_base.proofs.Nfas.Reach.Adding.{once_has, once_only}
use Rattle.automata_base.proofs.Nfas.Reach.Walked.{IsWalked}
use Rattle.automata_base.proofs.Paths.Walks.{in_either}

-- A walk begins with its roots.
pub walk_from : (G : ℕ → List ℕ) (items : List ℕ) → IsWalked G items 0 items
walk_from G items = record {
  has = λ q i. i;
  sound = λ q i. (q, [], i, refl);
  closed = λ q r i j. absurd i;
}

-- A test of each member.
module _ (P : ℕ → Type 0) (ids : List ℕ) where
  pub each_fails :
      (i id : ℕ) → i < length ids → id ≡ get_or ids i id → (P id → ⊥) → IsTrue false ↔ ((x : ℕ) → In x ids → P x)
  each_fails i id l e f = (
    λ t. absurd (true≢false (sym t)),
    λ h. absurd (f (h id (subst (λ z. In z ids) (sym e) (In-get_or ids i id l)))),
  )

  pub each_next :
      (i id : ℕ) → i < length ids → id ≡ get_or ids i id → P id → ((x : ℕ) → In x (take i ids) → P x) → (x : ℕ)
      → In x (take (i + 1) ids) → P x
  each_next i id l e p before x j =
      go (in_either x (take i ids) (id ∷ [])
      (subst (λ z. In x z) (take_more ids i id l ∙ ap (λ z. take i ids ++ z ∷ []) (sym e)) j))
    where
      go : In x (take i ids) ⊎ In x (id ∷ []) → P x
      go (inl k) = before x k
      go (inr (inl k)) = subst P (sym k) p
      go (inr (inr k)) = absurd k

  pub each_done :
      (i : ℕ) → length ids ≤ i → ((x : ℕ) → In x (take i ids) → P x) → IsTrue true ↔ ((x : ℕ) → In x ids → P x)
  each_done i l all = (λ _ x j. all x (subst (λ z. In x z) (sym (take_all i ids l)) j), λ _. refl)

-- If `Q` does not hold, the negated test of `P` decides whether `P` implies `Q`.
pub test_not : (P Q : Type 0) (b : Bool) → IsTrue b ↔ P → (Q → ⊥) → IsTrue (not b) ↔ (P → Q)
test_not P Q true test never = (λ e. absurd (true≢false (sym e)), λ f. absurd (never (f (test.0 refl))))
test_not P Q false test never = (λ _ p. absurd (false≢true (test.1 p)), λ _. refl)

-- What holds for each member holds for each pair that is reached.
pub test_reached :
    (G : ℕ → List ℕ) (P : ℕ → Type 0) (roots old items slice : List ℕ) (b : Bool) → old ≡ once_from [] roots
    → slice ≡ items
    → ((x : ℕ) → In x items ↔ IsReachedBy G old x) → IsTrue b ↔ ((x : ℕ) → In x slice → P x)
    → IsTrue b ↔ ((x : ℕ) → IsReachedBy G roots x → P x)
test_reached G P roots old items slice b begun same reached test = (
  λ t x r. test.0 t x (subst (λ z. In x z) (sym same) ((reached x).1 (r.0, r.1, root r.0 r.2, r.3))),
  λ h. test.1 (λ x i. let r = (reached x).0 (subst (λ z. In x z) same i) in h x (r.0, r.1, back r.0 r.2, r.3)),
)
  where
    root : (x : ℕ) → In x roots → In x old
    root x i = subst (λ z. In x z) (sym begun) (once_has x [] roots i)

    only : (x : ℕ) → In x [] ⊎ In x roots → In x roots
    only x (inl i) = absurd i
    only x (inr i) = i

    back : (x : ℕ) → In x old → In x roots
    back x i = only x (once_only x [] roots (subst (λ z. In x z) begun i))
