-- The states that a cache holds, one by one, as a picture of the cache needs them.
use Rattle.std.specs.Prelude.{ℕ, ◌≡◌, ◌+◌, ◌*◌, ◌<◌, ◌⊎◌, List, [], ◌∷◌, take, drop, length, slice_index, Option}
use Rattle.automata_determinize.specs.Powersets.Passes.{IsUnit}
use Rattle.automata_base.specs.declared.util.search.Anchored.{Anchored}
use Rattle.automata_hybrid.specs.Machines.FullDfas.{full_dfa}
use Rattle.automata_hybrid.specs.Cache.Ids.{quit_id, unknown_id}
use Rattle.automata_hybrid.specs.Machines.Machine.{unit_class}
use Rattle.automata_hybrid.specs.Machines.OwnStates.{IsOwn}
use Rattle.automata_hybrid.specs.Machines.StartSlots.{slot_behind}
use Rattle.automata_hybrid.specs.Steps.Starts.{known_start}
use Rattle.automata_base.specs.Powersets.Powerset.{Powerset}
use Rattle.automata_hybrid.specs.declared.cache.row.Row.{Row}
use Rattle.automata_hybrid.specs.Cache.Stores.{Stored, cell_of}
use Rattle.automata_hybrid.specs.Cache.Table.{Leads, Names, Rows, row_id}

-- a state that a cache holds
pub record HeldState : Type 0 where
  -- the ID of its row, tags included
  pub id : ℕ
  -- its powerset state
  pub state : Powerset
  -- its cell at each class: the ID that the transition leads to, or the unknown ID
  pub transitions : List ℕ

-- the states of rows of `stride` cells each, the first of them at an offset
abbrev pub states_from : (stride at : ℕ) → (cells : List ℕ) → List Row → List HeldState
states_from s at cells [] = []
states_from s at cells (r ∷ rs) =
    record { id = row_id at r; state = r.state; transitions = take s cells } ∷ states_from s (at + s) (drop s cells) rs

-- the states of a table, in the order of its rows, which is the order in which they were added
abbrev pub held_states : Rows → List HeldState
held_states t = states_from t.of.stride (3 * t.of.stride) (drop (3 * t.of.stride) t.cells) t.rows

-- the ID that a held state has for its transition on a unit
abbrev pub transition_on : Stored → HeldState → (unit : Option ℕ) → ℕ
transition_on c s unit = slice_index s.transitions (unit_class c.table.of unit)

-- a transition of a held state: it is not cached, or is the ID of quit, or leads to the next state
abbrev pub IsTransition : Stored → HeldState → (unit : Option ℕ) → Type 0
IsTransition c s unit =
    transition_on c s unit < unknown_id
    → (transition_on c s unit ≡ quit_id c.table.of.stride)
    ⊎ Leads c.table (transition_on c s unit) ((full_dfa c.table.of).step s.state unit)

-- a cache holds this state: its row has this ID, and its transitions are those of the row
pub record IsHeldState (c : Stored) (s : HeldState) : Type 0 where
  -- the ID names the state
  pub named : Names c.table s.id s.state
  -- the transition at each class is the row's cell
  pub cells : (class : ℕ) → class < c.table.of.stride → slice_index s.transitions class ≡ cell_of c s.id class
  -- if a transition is cached, it is the ID of quit, or leads to the next state on each unit of its class
  pub leads : (unit : Option ℕ) → IsUnit unit → unit_class c.table.of unit < c.table.of.stride → IsTransition c s unit
  -- it is a state of the automaton
  pub own : IsOwn c.table.of.nfa s.state

-- a start state that is cached: the ID in its slot leads to it
abbrev pub LeadsAsStart : Stored → Anchored → (behind : Option ℕ) → Type 0
LeadsAsStart c mode behind =
    slot_behind c.table.of mode behind < length c.starts → known_start c.table.of c mode behind < unknown_id
    → Leads c.table (known_start c.table.of c mode behind) ((full_dfa c.table.of).start mode behind)
