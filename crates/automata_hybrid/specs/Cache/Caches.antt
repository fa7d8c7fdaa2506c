-- What contracts see of a cache, and which DFA it belongs to.
use Rattle.std.specs.Prelude.{◌≡◌, ℕ, ◌⊎◌}
use Rattle.automata_hybrid.specs.Cache.Ids.{dead_id, quit_id}
use Rattle.automata_hybrid.specs.Machines.Machine.{Machine}
use Rattle.automata_hybrid.specs.Cache.Table.{IsRowId}
use Rattle.automata_hybrid.specs.Cache.Stores.{Stored, fresh_store}

-- what contracts see of a cache: its states, and how often it determinized
pub record CacheView : Type 0 where
  -- its rows, its start slots, how often it was cleared, and the progress of searches
  pub store : Stored
  -- the count of determinizations
  pub count : ℕ

-- the DFA that a cache belongs to
abbrev pub dfa_of : CacheView → Machine
dfa_of c = c.store.table.of

-- the cache belongs to this DFA
abbrev pub IsCacheOf : CacheView → Machine → Type 0
IsCacheOf c m = dfa_of c ≡ m

-- a new cache
abbrev pub fresh_cache : Machine → CacheView
fresh_cache m = record { store = fresh_store m; count = 0 }

-- a cache with another store
abbrev pub with_store : CacheView → Stored → CacheView
with_store c s = record { store = s; count = c.count }

-- the cache has a row of exactly this ID, so that a step may be taken from it: the dead row, the quit row, or the row
-- of a state
abbrev pub HoldsRow : CacheView → (id : ℕ) → Type 0
HoldsRow c id =
    (id ≡ dead_id c.store.table.of.stride)
    ⊎ ((id ≡ quit_id c.store.table.of.stride) ⊎ IsRowId c.store.table id)
