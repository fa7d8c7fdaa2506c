-- Lists of numbers by index, and where a number is in a list.
use Rattle.std.specs.Prelude.{ℕ, zero, suc, ◌+◌, List, [], ◌∷◌, ◌++◌, cond, eqb}
use Rattle.std.specs.Prelude.{◌-◌}
use Rattle.std.specs.declared.alloc.Global.{Global}
use Rattle.std.proofs.Common.{Vec}

-- The items of each list.
abbrev pub lists_of : List (Vec ℕ Global) → List (List ℕ)
lists_of [] = []
lists_of (v ∷ vs) = v.items ∷ lists_of vs

-- Adds `x` after the alternates of the state `k`.
abbrev pub push_at : List (List ℕ) → ℕ → ℕ → List (List ℕ)
push_at [] k x = []
push_at (xs ∷ rest) zero x = (xs ++ x ∷ []) ∷ rest
push_at (xs ∷ rest) (suc k) x = xs ∷ push_at rest k x

-- The alternates of a state.
abbrev pub list_at : List (List ℕ) → ℕ → List ℕ
list_at [] k = []
list_at (xs ∷ rest) zero = xs
list_at (xs ∷ rest) (suc k) = list_at rest k

-- This many empty lists.
abbrev pub no_lists : ℕ → List (List ℕ)
no_lists zero = []
no_lists (suc n) = [] ∷ no_lists n

-- The index where a number first occurs in a list.
abbrev pub place_in : List ℕ → ℕ → ℕ
place_in [] q = 0
place_in (x ∷ xs) q = cond (eqb x q) 0 (suc (place_in xs q))
