-- Bytes that are replaced one by one.
use Rattle.std.proofs.Common.{◌≡◌, ◌<◌, ℕ, zero, suc, List, [], ◌∷◌, ap, refl, sym, map, length, slice_index_or}
use Rattle.std.proofs.Common.{slice_set, arith}
use Rattle.lgrep.specs.Blocks.{line_ends}

-- the bytes, of which the first `n` are replaced
abbrev pub so_far : ℕ → List ℕ → List ℕ
so_far n [] = []
so_far zero (x ∷ xs) = x ∷ xs
so_far (suc n) (x ∷ xs) = line_ends x ∷ so_far n xs

pub none : (xs : List ℕ) → so_far 0 xs ≡ xs
none [] = refl
none (x ∷ xs) = refl

pub whole : (xs : List ℕ) → so_far (length xs) xs ≡ map line_ends xs
whole [] = refl
whole (x ∷ xs) = ap (λ v. line_ends x ∷ v) (whole xs)

pub turn : (xs : List ℕ) (i d : ℕ) → i < length xs →
    slice_set (so_far i xs) i (line_ends (slice_index_or (so_far i xs) i d)) ≡ so_far (suc i) xs
turn [] i d inside = absurd (omega (arith, inside))
turn (x ∷ xs) zero d inside = ap (λ v. line_ends x ∷ v) (sym (none xs))
turn (x ∷ xs) (suc i) d inside = ap (λ v. line_ends x ∷ v) (turn xs i d (omega (arith, inside)))
