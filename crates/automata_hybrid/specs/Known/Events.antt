-- The effect of an event on what a cache knows: a state is added if there is room for it, or after a clear, or the call
-- gives up.
use Rattle.std.specs.Prelude.{ℕ, ◌+◌, ◌*◌, length, sum_by, Bool, true, false, cond, nat_eq, nat_lt, nat_le, ◌&&◌, ◌||◌}
use Rattle.std.specs.Prelude.{Option, None, Some, is_some, option_map, unwrap_or, slice_get, slice_set}
use Rattle.automata_determinize.specs.Powersets.Accounting.{cell_size, entry_size, fixed_rows_cost, row_size}
use Rattle.automata_determinize.specs.Powersets.Equal.{powerset_eq}
use Rattle.automata_base.specs.Powersets.Powerset.{Powerset}
use Rattle.automata_config.specs.Options.{minimum_bytes_per_state_of, minimum_cache_clear_count_of}
use Rattle.automata_hybrid.specs.Machines.FullDfas.{full_dfa}
use Rattle.automata_hybrid.specs.Cache.Ids.{offset_limit}
use Rattle.automata_hybrid.specs.Cache.Progress.{total_len}
use Rattle.automata_hybrid.specs.Cache.Table.{row_cost}
use Rattle.automata_hybrid.specs.Cache.Usage.{row_usage, short_of}
use Rattle.automata_hybrid.specs.Steps.Events.{Event, Start, Step}
use Rattle.automata_hybrid.specs.Known.Known.{Known, cleared, cleared_saving, has_state, with_row}
use Rattle.automata_hybrid.specs.Machines.Machine.{Machine, unit_class}
use Rattle.automata_hybrid.specs.Machines.StartSlots.{slot_behind}
use Rattle.automata_hybrid.specs.Steps.Starts.{start_row}
use Rattle.automata_hybrid.specs.declared.cache.row.Row.{Row}

-- the accounted bytes: the cells, the start slots, the rows with the three fixed ones, and the map entries, one for
-- each row and one more; the costs of all states, and the room for determinization
abbrev pub usage : Machine → Known → ℕ
usage m c =
    cell_size * ((length c.rows + 3) * m.stride) + cell_size * m.slots + row_size * (length c.rows + 3)
    + entry_size * (length c.rows + 1) + fixed_rows_cost + sum_by row_cost c.rows + m.fixed

-- a new state of this cost fits, and so does its row's offset
abbrev pub fits : Machine → Known → (bytes : ℕ) → Bool
fits m c bytes =
    nat_le (usage m c + row_usage m + bytes) m.capacity && nat_lt ((length c.rows + 3) * m.stride) offset_limit

-- no clear is allowed: the limit on clears is reached, and too few bytes were searched since the last one
abbrev pub refuses_past : Machine → Known → (limit : Option ℕ) → Bool
refuses_past m c None = false
refuses_past m c (Some limit) =
    cond (nat_lt c.clears limit) false
    (short_of (minimum_bytes_per_state_of m.config) (length c.rows + 3) (total_len c.searched))

-- the clear rule does not allow a clear
abbrev pub refuses_to_clear : Machine → Known → Bool
refuses_to_clear m c = refuses_past m c (minimum_cache_clear_count_of m.config)

-- what is known once a new row is added; if it does not fit, the cache is cleared first; none if the clear rule does
-- not allow that
abbrev pub with_new_row : Machine → (emptied : Known) → Row → Known → Option Known
with_new_row m emptied r c =
    cond (fits m c (row_cost r)) (Some (with_row r c)) (cond (refuses_to_clear m c) None (Some (with_row r emptied)))

-- what is known with a row for a state, which is added unless the state is there; none if the call gives up
abbrev pub with_state : Machine → (emptied : Known) → Row → Known → Option Known
with_state m emptied r c = cond (has_state c r.state) (Some c) (with_new_row m emptied r c)

-- what is known once one more transition is cached, after one determinization
abbrev pub with_step : Powerset → (class : ℕ) → Known → Known
with_step q class c = record c {
  steps = λ p other. (powerset_eq p q && nat_eq other class) || c.steps p other;
  count = c.count + 1;
}

-- what is known once one more start state is cached, after one determinization
abbrev pub with_start : (slot : ℕ) → Powerset → Known → Known
with_start slot q c = record c { starts = slice_set c.starts slot (Some q); count = c.count + 1 }

-- what is known after an event that asks for something not cached; none if the call gives up
abbrev pub made : Machine → Event → Known → Option Known
made m (Start mode behind) c =
    option_map (with_start (slot_behind m mode behind) ((full_dfa m).start mode behind))
    (with_state m (cleared c) (start_row m mode behind) c)
made m (Step q unit) c =
    option_map (with_step q (unit_class m unit))
    (with_state m (cleared_saving q c)
    (record { state = (full_dfa m).step q unit; started = false }) c)

-- what an event asks for is cached; the anchored mode of a pattern that is out of range asks for nothing
abbrev pub is_cached : Machine → Event → Known → Bool
is_cached m (Start mode behind) c = unwrap_or (option_map is_some (slice_get c.starts (slot_behind m mode behind))) true
is_cached m (Step q unit) c = c.steps q (unit_class m unit)

-- what is known after an event; none if the call gives up. `come` is what is known once the search has reached the
-- event
abbrev pub after_event : Machine → Event → (come c : Known) → Option Known
after_event m e come c = cond (is_cached m e c) (Some c) (made m e come)
