-- The keys of a sorted list.
use Rattle.std.proofs.Common.{ℕ, List, [], ◌∷◌, inl, inr}
use Rattle.std.proofs.Common.{sym, subst}
use Rattle.automata_base.specs.Lists.{In, Sorted}

pub sorted_has : (P : ℕ → List ℕ → Type 0) (xs : List ℕ) (q : ℕ) → Sorted P xs → In q xs → (key : List ℕ) × P q key
sorted_has P [] q s i = absurd i
sorted_has P (x ∷ xs) q s (inl i) = (s.0.key, subst (λ v. P v s.0.key) (sym i) s.0.has)
sorted_has P (x ∷ xs) q s (inr i) = sorted_has P xs q s.1 i
