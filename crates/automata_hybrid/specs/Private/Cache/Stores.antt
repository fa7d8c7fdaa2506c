-- Which transitions and start states of a store are cached, stores with one of these written, and the limits of a
-- cache.
use Rattle.std.specs.Prelude.{ℕ, ◌<◌, slice_index, slice_set}
use Rattle.automata_config.specs.Options.{minimum_cache_clear_count_of, minimum_bytes_per_state_of}
use Rattle.automata_hybrid.specs.declared.cache.settings.Settings.{Settings}
use Rattle.automata_hybrid.specs.Known.Known.{Known}
use Rattle.automata_hybrid.specs.Known.Stores.{known_of}
use Rattle.automata_hybrid.specs.Machines.Machine.{Machine}
use Rattle.automata_hybrid.specs.Cache.Ids.{unknown_id}
use Rattle.automata_hybrid.specs.Private.Cache.Table.{with_cell}
use Rattle.automata_hybrid.specs.Cache.Stores.{Stored, cell_of}
use Rattle.automata_hybrid.specs.Cache.Table.{Rows}

-- what a store knows: no rule about a store asks for the count of determinizations
abbrev pub known_in : Stored → Known
known_in c = known_of (record { store = c; count = 0 })

-- a store with another table
abbrev pub with_table : Stored → Rows → Stored
with_table c t = record { table = t; starts = c.starts; clears = c.clears; searched = c.searched }

-- the transition of a row at a class is cached
abbrev pub IsKnownTransition : Stored → ℕ → ℕ → Type 0
IsKnownTransition c id class = cell_of c id class < unknown_id

-- a store with a transition written
abbrev pub with_next : Stored → ℕ → ℕ → ℕ → Stored
with_next c id class next = with_table c (with_cell c.table id class next)

-- a store with an ID written into a start slot
abbrev pub with_slot : Stored → ℕ → ℕ → Stored
with_slot c slot id = record {
  table = c.table;
  starts = slice_set c.starts slot id;
  clears = c.clears;
  searched = c.searched;
}

-- the start state of a slot is cached
abbrev pub IsKnownStart : Stored → ℕ → Type 0
IsKnownStart c slot = slice_index c.starts slot < unknown_id

-- the limits of a machine's cache
abbrev pub cache_settings : Machine → Settings
cache_settings m = record {
  capacity = m.capacity;
  fixed = m.fixed;
  minimum_clear_count = minimum_cache_clear_count_of m.config;
  minimum_bytes_per_state = minimum_bytes_per_state_of m.config;
}
