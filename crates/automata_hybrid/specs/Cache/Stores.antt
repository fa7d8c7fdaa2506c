-- The store of a cache: what a clear replaces.
use Rattle.std.specs.Prelude.{ℕ, List, None, slice_index, replicate}
use Rattle.automata_hybrid.specs.declared.cache.progress.Searched.{Searched}
use Rattle.automata_config.specs.declared.error.StepError.{StepError}
use Rattle.automata_config.specs.declared.error.StepError.TheVariants.{Cache, OutOfMemory}
use Rattle.automata_hybrid.specs.Cache.Ids.{unknown_id}
use Rattle.automata_hybrid.specs.Machines.Machine.{Machine}
use Rattle.automata_hybrid.specs.Cache.Table.{Rows, cell_at, fresh}

-- what contracts see of the store of a cache
pub record Stored : Type 0 where
  -- the rows of states, and their transitions
  pub table : Rows
  -- the ID in each start slot, or the unknown ID
  pub starts : List ℕ
  -- how often it was cleared, up to the largest 64-bit number
  pub clears : ℕ
  -- the progress of searches
  pub searched : Searched

-- a step failed because the cache is full, not because memory ran out
abbrev pub IsCacheError : StepError → Type 0
IsCacheError (Cache e) = Unit {0}
IsCacheError OutOfMemory = ⊥

-- the cell of a row at a class: the ID that its transition leads to, or the unknown ID
abbrev pub cell_of : Stored → ℕ → ℕ → ℕ
cell_of c id class = slice_index c.table.cells (cell_at id class)

-- the store of a fresh cache
abbrev pub fresh_store : Machine → Stored
fresh_store m = record {
  table = fresh m;
  starts = replicate m.slots unknown_id;
  clears = 0;
  searched = record { bytes = 0; running = None };
}

-- a store with another progress
abbrev pub with_searched : Stored → Searched → Stored
with_searched c s = record { table = c.table; starts = c.starts; clears = c.clears; searched = s }
