-- The encoding of a list of NFA states in bytes.
use Rattle.std.specs.Prelude.{ℕ, zero, suc, List, [], ◌∷◌, ◌++◌, Bool, true, false, ◌+◌, ◌*◌, ◌-◌, ◌/◌, ◌%◌}
use Rattle.std.specs.Prelude.{nat_lt, nat_le, ◌<◌, ◌^◌, if◌then◌else◌}

-- 1 for true, and 0 for false
abbrev pub bit : Bool → ℕ
bit b = if b then 1 else 0

-- the difference d from the previous number, as 2d if d is at least 0, and as -2d-1 otherwise
abbrev pub difference : ℕ → ℕ → ℕ
difference before id = if nat_le before id then 2 * (id - before) else 2 * (before - id) - 1

-- a number in groups of 7 bits, the least significant first, with bit 7 set on all but the last: as few groups as
-- possible, and at most one and this many more
unfoldable pub groups : ℕ → ℕ → List ℕ
groups zero n = n ∷ []
groups (suc more) n = if nat_lt n 128 then n ∷ [] else (128 + n % 128) ∷ groups more (n / 128)

-- a number as a varint: five groups have room for each number below 2 ^ 35
abbrev pub varint : ℕ → List ℕ
varint n = groups 4 n

-- the NFA states, each as its difference from the previous one
unfoldable pub ids_code : ℕ → List ℕ → List ℕ
ids_code before [] = []
ids_code before (id ∷ ids) = varint (difference before id) ++ ids_code id ids

-- one group and this many more have room for the number
abbrev pub FitsGroups : ℕ → ℕ → Type 0
FitsGroups zero n = n < 128
FitsGroups (suc more) n = FitsGroups more (n / 128)
