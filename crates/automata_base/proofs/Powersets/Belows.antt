-- Tests of lists of numbers, and what they say about each number.
use Rattle.std.proofs.Common.{ℕ, ◌≡◌, ◌<◌, ◌&&◌, true, List, [], ◌∷◌, inl, inr, refl, ap, ◌∙◌}
use Rattle.std.proofs.lemmas.Bool.{lt-ltb}
use Rattle.automata_base.specs.Lists.{all_below, In}

pub all_below_from : (n : ℕ) (xs : List ℕ) → ((s : ℕ) → In s xs → s < n) → all_below n xs ≡ true
all_below_from n [] h = refl
all_below_from n (x ∷ xs) h =
    ap (λ b. b && all_below n xs) (lt-ltb x n (h x (inl refl))) ∙ all_below_from n xs (λ s i. h s (inr i))
