-- Beginnings of patterns, with which their matches begin.
use Rattle.std.specs.Prelude.{ℕ, ◌≤◌, List, [], ◌∷◌}
use Rattle.regex_hir.specs.Matches.{Matches}
use Rattle.regex_hir.specs.Re.{Re}

-- every match of the pattern begins with a match of the other one
abbrev pub BeginsWithOneOf : (re first : Re) → Type 0
BeginsWithOneOf re first =
    (hay : List ℕ) (i j : ℕ) → Matches hay re i j → (k : ℕ) × (k ≤ j) × Matches hay first i k

-- every match of each pattern begins with a match of the one at the same place of the other list
abbrev pub AreBeginnings : (res firsts : List Re) → Type 0
AreBeginnings [] [] = Unit {0}
AreBeginnings [] (first ∷ firsts) = ⊥
AreBeginnings (re ∷ res) [] = ⊥
AreBeginnings (re ∷ res) (first ∷ firsts) = BeginsWithOneOf re first × AreBeginnings res firsts
