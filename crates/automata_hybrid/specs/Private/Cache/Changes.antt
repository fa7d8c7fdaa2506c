-- The effect of adding a row to a store.
use Rattle.std.specs.Prelude.{◌≡◌, ℕ, None}
use Rattle.automata_base.specs.Powersets.Powerset.{Powerset}
use Rattle.automata_hybrid.specs.declared.cache.row.Row.{Row}
use Rattle.automata_hybrid.specs.Cache.Stores.{Stored}
use Rattle.automata_hybrid.specs.Cache.Table.{Names, Rows, id_of, row_of}
use Rattle.automata_hybrid.specs.Known.Known.{keep_row, with_row}
use Rattle.automata_hybrid.specs.Private.Cache.Stores.{known_in}
use Rattle.automata_hybrid.specs.Private.Cache.Table.{HasNewRow}
use Rattle.automata_hybrid.specs.Private.Cache.Usage.{FitsAny}

-- a row was added to a store, with this ID
pub record HasGrown (old : Stored) (r : Row) (new : Stored) (id : ℕ) : Type 0 where
  -- the store knows the row, after the others
  pub known : known_in new ≡ with_row r (known_in old)
  -- the row was added to its table, with this ID
  pub row : HasNewRow old.table r new.table id
  -- the start slots are unchanged
  pub starts : new.starts ≡ old.starts

-- the row of an ID of another table was put into a store, with this ID
pub record HasSavedRow (t : Rows) (id : ℕ) (old new : Stored) (now : ℕ) : Type 0 where
  -- the store knows the row, unless its state already had one
  pub known : known_in new ≡ record (known_in old) { rows = keep_row old.table.rows (row_of t id) }
  -- the ID names the state of the row
  pub named : (q : Powerset) → Names t id q → Names new.table now q
  -- any state still fits
  pub room : FitsAny new
  -- a state that neither had has no row
  pub absent : (q : Powerset) → id_of t q ≡ None → id_of old.table q ≡ None → id_of new.table q ≡ None
