-- The accounted bytes of a cache, and the capacity that it needs.
use Rattle.std.specs.Prelude.{ℕ, ◌+◌, ◌*◌, Bool, if◌then◌else◌, length, max}
use Rattle.automata_base.specs.Nfas.Nodes.{Automaton, stack_room}
use Rattle.automata_base.specs.Powersets.Powerset.{head_cost, pattern_cost, id_cost}

-- The size of a cell of the table, or of a start slot: an ID.
abbrev pub cell_size : ℕ
cell_size = 4

-- The size of each row in the list of rows, without its cells and the cost of its state.
abbrev pub row_size : ℕ
row_size = 16

-- The size of each row's entry in the map.
abbrev pub entry_size : ℕ
entry_size = 20

-- The cost of the states of the three rows that every table begins with, each without lists.
abbrev pub fixed_rows_cost : ℕ
fixed_rows_cost = 3 * head_cost

-- The greatest cost of a powerset state.
abbrev pub max_cost : Automaton → ℕ
max_cost a = head_cost + pattern_cost * length a.start_pattern + id_cost * length a.states

-- The cost, for each NFA state, of two sets of NFA states, each with two numbers of four bytes.
abbrev pub sets_cost : ℕ
sets_cost = 16

-- The cost of an entry on the stack of a closure.
abbrev pub place_cost : ℕ
place_cost = 4

-- The room for determinization: two sets of states, the stack of a closure, and one powerset state.
abbrev pub fixed_cost : Automaton → ℕ
fixed_cost a = sets_cost * length a.states + place_cost * stack_room a.states + max_cost a

-- The start slots: one for each of the six kinds of look-behind byte, for unanchored and for anchored searches, and for
-- each pattern if patterns have their own starts.
abbrev pub start_slots : Automaton → (each : Bool) → ℕ
start_slots a each = 12 + (if each then 6 * length a.start_pattern else 0)

-- The minimum capacity: room for determinization, for the three first rows, for a state in each start slot, and for two
-- more states. Two of the three rows, the unknown and the quit row, are not in the map.
abbrev pub minimum_capacity : (stride slots greatest fixed : ℕ) → ℕ
minimum_capacity stride slots greatest fixed =
    cell_size * ((5 + slots) * stride) + cell_size * slots + row_size * (5 + slots) + entry_size * (3 + slots)
    + fixed_rows_cost + (2 + slots) * greatest + fixed

-- The effective capacity of a cache: at least the minimum.
abbrev pub effective_capacity : (given minimum : ℕ) → ℕ
effective_capacity given minimum = max given minimum
