-- Which rows and start slots a clear keeps, one slot after another.
use Rattle.std.specs.Prelude.{◌≡◌, ℕ, ◌+◌, ◌*◌, ◌<◌, ◌≤◌, ◌⊎◌, List, [], ◌∷◌, ◌++◌, length, None, Some, Option, cond}
use Rattle.std.specs.Prelude.{is_some, map, slice_get, slice_index}
use Rattle.automata_base.specs.Powersets.Powerset.{Powerset}
use Rattle.automata_hybrid.specs.Machines.FullDfas.{full_dfa}
use Rattle.automata_hybrid.specs.declared.cache.row.Row.{Row}
use Rattle.automata_hybrid.specs.Cache.Table.{Leads, Names, Rows, id_of, row_of}
use Rattle.automata_hybrid.specs.Cache.Ids.{unknown_id}
use Rattle.automata_hybrid.specs.Known.Known.{keep_start, rows_of_starts}
use Rattle.automata_hybrid.specs.Known.Stores.{start_named}
use Rattle.automata_base.specs.declared.util.search.Anchored.{Anchored}
use Rattle.automata_hybrid.specs.Machines.StartSlots.{slot_behind}
use Rattle.automata_hybrid.specs.Private.Cache.Table.{with_row_cells}

-- an ID leads to the start state of a slot, for each anchored mode and look-behind byte that have this slot
abbrev pub LeadsToStart : Rows → ℕ → (slot : ℕ) → Type 0
LeadsToStart t id slot =
    (q : Powerset) × Leads t id q
    × ((mode : Anchored) (behind : Option ℕ) → slot_behind t.of mode behind ≡ slot
    → q ≡ (full_dfa t.of).start mode behind)

-- the ID in a slot: unknown, dead for the dead state, or the ID of its start state
abbrev pub IsSlot : Rows → (slot id : ℕ) → Type 0
IsSlot t slot id = (id ≡ unknown_id) ⊎ LeadsToStart t id slot

-- each start slot is unknown, dead, or has the ID of its start state
abbrev pub AllStarts : Rows → List ℕ → Type 0
AllStarts t starts = (slot id : ℕ) → slice_get starts slot ≡ Some id → IsSlot t slot id

-- a table with this row, unless its state already has one
abbrev pub with_row_once : Rows → Row → Rows
with_row_once t r = cond (is_some (id_of t r.state)) t (with_row_cells t r)

-- rows and slots while start states are kept
pub record Kept : Type 0 where
  -- the rows kept so far, after the fixed ones
  pub table : Rows
  -- the slots kept so far, each with its new ID
  pub starts : List ℕ

-- no cell of a table was written: each cell of a row is as in a new row
pub record IsUnwritten (t : Rows) : Type 0 where
  -- there are as many cells as all rows have
  pub whole : length t.cells ≡ (length t.rows + 3) * t.of.stride
  -- each cell is as in a new row
  pub cells :
      (k class : ℕ) → k < length t.rows → class < t.of.stride
      → slice_index t.cells ((k + 3) * t.of.stride + class) ≡ slice_index t.of.template class

-- the row of an ID was put into another table, where it has a new ID
pub record IsPut (old before after : Rows) (id new : ℕ) : Type 0 where
  -- there is a row
  pub row : Row
  -- the ID names it in the old table
  pub at : row_of old id ≡ Some row
  -- it was put into the other one, unless its state was there
  pub put_there : after ≡ with_row_once before row
  -- the new ID names its state there
  pub named : Names after new row.state

-- the effect of keeping one more slot of an old table on the rows and slots that are kept
pub record KeepsSlot (old : Rows) (id : ℕ) (before after : Kept) : Type 0 where
  -- the row of its start state is kept, if that is cached
  pub rows : after.table.rows ≡ keep_start old.rows before.table.rows (start_named old id)
  -- its new ID names its start state, and the IDs before it still name theirs
  pub names :
      map (start_named after.table) after.starts
      ≡ map (start_named before.table) before.starts ++ start_named old id ∷ []
  -- no cell is written
  pub unwritten : IsUnwritten before.table → IsUnwritten after.table
  -- each slot has its start state, or is empty
  pub named : AllStarts after.table after.starts
  -- there is at most one more row
  pub few : length after.table.rows ≤ length before.table.rows + 1
  -- there is one more slot
  pub slots : length after.starts ≡ length before.starts + 1
  -- it has no state that neither table had
  pub absent : (q : Powerset) → id_of old q ≡ None → id_of before.table q ≡ None → id_of after.table q ≡ None
  -- the rows belong to the same machine
  pub of : after.table.of ≡ before.table.of

-- the rows and the slots that are kept of an old table
pub record KeepsAllStarts (old : Rows) (starts : List ℕ) (k : Kept) : Type 0 where
  -- the rows of the start states are kept
  pub rows : k.table.rows ≡ rows_of_starts old.rows (map (start_named old) starts)
  -- the slots name the same start states
  pub names : map (start_named k.table) k.starts ≡ map (start_named old) starts
  -- no cell is written
  pub unwritten : IsUnwritten k.table
  -- each slot has its start state, or is empty
  pub named : AllStarts k.table k.starts
  -- there are at most as many rows as slots
  pub few : length k.table.rows ≤ length starts
  -- there are as many slots as before
  pub slots : length k.starts ≡ length starts
  -- it has no state that the old table did not have
  pub absent : (q : Powerset) → id_of old q ≡ None → id_of k.table q ≡ None
  -- the rows belong to the same machine
  pub of : k.table.of ≡ old.of
