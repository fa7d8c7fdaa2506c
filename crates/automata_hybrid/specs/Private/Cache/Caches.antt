-- When the rows, start slots and accounted bytes of a store are those of a cache of a DFA.
use Rattle.std.specs.Prelude.{ℕ, ◌≡◌, ◌^◌, ◌<◌, ◌≤◌, length}
use Rattle.automata_hybrid.specs.Known.Events.{usage}
use Rattle.automata_hybrid.specs.Machines.Machine.{Machine}
use Rattle.automata_hybrid.specs.Private.Cache.Table.{RowsFitCells}
use Rattle.automata_hybrid.specs.Private.Cache.Clears.{AllStarts}
use Rattle.automata_hybrid.specs.Private.Cache.Stores.{known_in}
use Rattle.automata_hybrid.specs.Cache.Stores.{Stored}
use Rattle.automata_hybrid.specs.Cache.Caches.{CacheView}

-- a cache with another count of determinizations
abbrev pub with_count : CacheView → ℕ → CacheView
with_count c n = record { store = c.store; count = n }

-- a cache of this DFA: its rows fit together, each start slot has its own start state or is empty, and its accounted
-- bytes are within the settings
pub record IsStoreOf (c : Stored) (m : Machine) : Type 0 where
  -- it belongs to the DFA
  pub of : c.table.of ≡ m
  -- its rows and cells fit each other
  pub rows : RowsFitCells c.table
  -- each start slot has its own start state, or is empty
  pub starts : AllStarts c.table c.starts
  -- there are as many start slots as the DFA has
  pub slots : length c.starts ≡ m.slots
  -- its accounted bytes are within the capacity
  pub within : usage m (known_in c) ≤ m.capacity
  -- a row has at most 512 cells
  pub small : c.table.of.stride ≤ 512
  -- a new row has as many cells as each row
  pub wide : length c.table.of.template ≡ c.table.of.stride
  -- the count of clears fits in 64 bits
  pub clears : c.clears < 2 ^ 64
