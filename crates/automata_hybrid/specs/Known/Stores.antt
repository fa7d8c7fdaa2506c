-- What a cache knows, by its rows, its cells and its slots.
use Rattle.std.specs.Prelude.{ℕ, map, Bool, false, cond, nat_eq, nat_lt, nat_le, ◌&&◌, Option, None, Some, option_map}
use Rattle.std.specs.Prelude.{unwrap_or, slice_index}
use Rattle.automata_base.specs.Powersets.Powerset.{Powerset, dead}
use Rattle.automata_hybrid.specs.Cache.Caches.{CacheView}
use Rattle.automata_hybrid.specs.Cache.Table.{row_of, Rows, id_of}
use Rattle.automata_hybrid.specs.Cache.Ids.{fixed_from, unknown_id}
use Rattle.automata_hybrid.specs.Cache.Stores.{Stored, cell_of}
use Rattle.automata_hybrid.specs.Known.Known.{Known}
use Rattle.automata_hybrid.specs.Machines.Machine.{Machine}
use Rattle.automata_hybrid.specs.declared.cache.row.Row.{Row}

-- a row has a transition at a class: there is a cell for it, and the class is not one of quit bytes
abbrev pub has_steps_at : Machine → (class : ℕ) → Bool
has_steps_at m class = nat_lt class m.stride && nat_eq (slice_index m.template class) unknown_id

-- a row has this state, and its cell at a class is known
abbrev pub is_cell_known : Stored → Powerset → (class : ℕ) → Bool
is_cell_known c q class =
    unwrap_or (option_map (λ id. nat_lt (cell_of c id class) unknown_id) (id_of c.table q)) false

-- the transition from a state at a class is cached
abbrev pub is_step_known : Stored → Powerset → (class : ℕ) → Bool
is_step_known c q class = has_steps_at c.table.of class && is_cell_known c q class

-- the start state of a slot, by the slot's ID: none, dead, or the state of a row
abbrev pub start_named : Rows → (id : ℕ) → Option Powerset
start_named t id =
    cond (nat_le unknown_id id) None
    (cond (nat_le fixed_from id) (Some dead) (option_map (λ (r : Row). r.state) (row_of t id)))

-- what a cache knows
abbrev pub known_of : CacheView → Known
known_of c = record {
  rows = c.store.table.rows;
  steps = is_step_known c.store;
  starts = map (start_named c.store.table) c.store.starts;
  clears = c.store.clears;
  searched = c.store.searched;
  count = c.count;
}
