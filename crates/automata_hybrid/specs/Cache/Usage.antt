-- The bytes that a new row takes, and when too few bytes were searched.
use Rattle.std.specs.Prelude.{ℕ, ◌+◌, ◌*◌, Bool, true, Option, None, Some}
use Rattle.std.specs.Prelude.{nat_lt}
use Rattle.automata_determinize.specs.Powersets.Accounting.{cell_size, entry_size, row_size}
use Rattle.automata_hybrid.specs.Machines.Machine.{Machine}
use Rattle.automata_hybrid.specs.Cache.Progress.{saturated}

-- the bytes that a new row takes in addition to the cost of its state: its cells, and its entries in the list and in
-- the map
abbrev pub row_usage : Machine → ℕ
row_usage m = cell_size * m.stride + (row_size + entry_size)

-- too few bytes were searched for this number of states: fewer than the minimum per state, or any number if no minimum
-- is set
abbrev pub short_of : Option ℕ → ℕ → ℕ → Bool
short_of None states searched = true
short_of (Some bytes) states searched = nat_lt searched (saturated (bytes * states))
