-- The elements of a list, each once, as a loop collects them.
use Rattle.std.specs.Prelude.{ℕ, cond, List, [], ◌∷◌, ◌++◌}
use Rattle.automata_base.specs.Retraced.Computed.{is_in}

-- the elements collected so far, followed by the new elements of a list, each once
abbrev pub once_from : List ℕ → List ℕ → List ℕ
once_from ys [] = ys
once_from ys (x ∷ xs) = once_from (ys ++ cond (is_in x ys) [] (x ∷ [])) xs
