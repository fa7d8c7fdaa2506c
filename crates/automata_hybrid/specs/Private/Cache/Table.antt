-- What is true of every table: how its rows, their IDs and their cells fit each other.
use Rattle.std.specs.Prelude.{◌≡◌, ℕ, ◌*◌, ◌≤◌, List, length, Some, slice_get, sum_by, ◌+◌, ◌<◌, [], ◌∷◌, ◌++◌, Option}
use Rattle.std.specs.Prelude.{None, slice_index, slice_set, take}
use Rattle.std.specs.HashMap.{HashMap, get}
use Rattle.std.specs.declared.hash.FoldHasher.{FoldHasher}
use Rattle.std.specs.declared.hash.BuildHasherDefault.{BuildHasherDefault}
use Rattle.automata_base.specs.Powersets.Powerset.{Powerset, cost, dead}
use Rattle.automata_determinize.specs.Powersets.Equal.{powerset_eq}
use Rattle.automata_hybrid.specs.Machines.FullDfas.{full_dfa}
use Rattle.automata_hybrid.specs.declared.cache.row.Row.{Row}
use Rattle.automata_hybrid.specs.Private.Machines.Machine.{IsTemplate}
use Rattle.automata_hybrid.specs.Machines.Reachable.{IsStateOf}
use Rattle.automata_hybrid.specs.Cache.Table.{HasItsMatchTag, Rows, id_of, row_cost, Names, row_id, Leads, fixed_rows}
use Rattle.automata_hybrid.specs.Cache.Table.{IsRowState, IsRowId, cell_at}
use Rattle.automata_determinize.specs.Powersets.Passes.{IsUnit}
use Rattle.automata_hybrid.specs.Cache.Ids.{quit_id, unknown_id, fixed_from, offset_limit}
use Rattle.automata_hybrid.specs.Machines.Machine.{unit_class}
use Rattle.automata_hybrid.specs.Machines.OwnStates.{IsOwn}

-- an ID leads to the successor of a state on each unit of a class
abbrev pub LeadsByClass : Rows → ℕ → Powerset → (class : ℕ) → Type 0
LeadsByClass t id q class =
    (unit : Option ℕ) → IsUnit unit → unit_class t.of unit ≡ class
    → Leads t id ((full_dfa t.of).step q unit)

-- what a cell of a state's row contains; the template says which classes are quit classes
pub data IsCell (t : Rows) (q : Powerset) (class id : ℕ) : Type 0 where
  -- at a quit class it is the quit ID
  CellQuits : slice_index t.of.template class ≡ quit_id t.of.stride → id ≡ quit_id t.of.stride → IsCell t q class id
  -- at any other class it may still be unknown
  CellUnknown : slice_index t.of.template class ≡ unknown_id → id ≡ unknown_id → IsCell t q class id
  -- otherwise it leads to the next state
  CellLeads : slice_index t.of.template class ≡ unknown_id → LeadsByClass t id q class → IsCell t q class id

-- each cached cell of a row names the next state of that row's state
abbrev pub IsStepped : Rows → Type 0
IsStepped t =
    (k class : ℕ) (r : Row) → slice_get t.rows k ≡ Some r → class < t.of.stride
    → IsCell t r.state class (slice_index t.cells ((k + 3) * t.of.stride + class))

-- each row is found by its state, so no two rows have the same state, and its offset is below the limit
abbrev pub HasRowIds : Rows → Type 0
HasRowIds t =
    (k : ℕ) (r : Row) → slice_get t.rows k ≡ Some r
    → Names t (row_id ((k + 3) * t.of.stride) r) r.state × ((k + 3) * t.of.stride < offset_limit)

-- rows and cells fit each other: the fixed rows come first, no state has two rows, and each cached cell leads where its
-- row's state goes
pub record RowsFitCells (t : Rows) : Type 0 where
  -- there are as many cells as all rows have
  pub whole : length t.cells ≡ (length t.rows + 3) * t.of.stride
  -- the offset of the last row is below the limit
  pub small : length t.cells < offset_limit + t.of.stride
  -- the fixed rows come first
  pub fixed : take (3 * t.of.stride) t.cells ≡ fixed_rows t.of.stride
  -- each cached cell leads where its row's state goes
  pub stepped : IsStepped t
  -- each row is found by its state, and its offset is below the limit
  pub ids : HasRowIds t
  -- each row has a state that a row may have
  pub states : (k : ℕ) (r : Row) → slice_get t.rows k ≡ Some r → IsRowState t.of r.state

-- each row has a cell for each class
abbrev pub HasCells : Rows → Type 0
HasCells t = (id class : ℕ) → IsRowId t id → class < t.of.stride → cell_at id class < length t.cells

-- IDs of rows have no high tag
abbrev pub HasLowIds : Rows → Type 0
HasLowIds t = (id : ℕ) (q : Powerset) → Names t id q → id < fixed_from

-- no row has the dead state
abbrev pub HasNoDeadRow : Rows → Type 0
HasNoDeadRow t = (id : ℕ) (q : Powerset) → Names t id q → q ≡ dead → ⊥

-- each row has a state of the automaton
abbrev pub HasOwnStates : Rows → Type 0
HasOwnStates t = (id : ℕ) (q : Powerset) → Names t id q → IsOwn t.of.nfa q

-- a state that is not dead, and that no row has
abbrev pub Lacks : Rows → Powerset → Type 0
Lacks t q = (id_of t q ≡ None) × (q ≡ dead → ⊥)

-- a table with the cells of one more row
abbrev pub with_row_cells : Rows → Row → Rows
with_row_cells t r = record { of = t.of; cells = t.cells ++ t.of.template; rows = t.rows ++ r ∷ [] }

-- a table with a cell written
abbrev pub with_cell : Rows → ℕ → ℕ → ℕ → Rows
with_cell t id class next = record { of = t.of; cells = slice_set t.cells (cell_at id class) next; rows = t.rows }

-- a row was added to a table, with this ID
pub record HasNewRow (old : Rows) (r : Row) (new : Rows) (id : ℕ) : Type 0 where
  -- It has the row after the others.
  pub more : new ≡ with_row_cells old r
  -- The ID names the state of the row.
  pub named : Names new id r.state
  -- Each ID still names the state that it named.
  pub kept : (n : ℕ) (q : Powerset) → Names old n q → Names new n q

-- a copy of the row at an index of a table
pub record IsCopiedRow (t : Rows) (k : ℕ) (r : Row) : Type 0 where
  -- It is that row.
  pub value : slice_get t.rows k ≡ Some r
  -- Its state is one that a row may have.
  pub state : IsRowState t.of r.state
  -- The table has its state.
  pub had : id_of t r.state ≡ None → ⊥

-- the map from states to IDs
abbrev pub StateMap : Type 0
StateMap = HashMap Powerset ℕ (BuildHasherDefault FoldHasher)

-- what is true of the rows of every table
pub record IsSoundTable (t : Rows) : Type 0 where
  -- rows and cells fit each other
  pub rows : RowsFitCells t
  -- each cell of a new row is quit or unknown
  pub template : IsTemplate t.of.stride t.of.template
  -- the states cost no more than as many states of the greatest cost
  pub costs : sum_by row_cost t.rows ≤ length t.rows * t.of.greatest
  -- IDs of rows have no high tag
  pub low : HasLowIds t
  -- an ID has the match tag exactly if its state has patterns
  pub tagged : (id : ℕ) → HasItsMatchTag t id
  -- no row has the dead state
  pub alive : HasNoDeadRow t
  -- each row has a state of the automaton
  pub own : HasOwnStates t
  -- each row has a cell for each class
  pub cells : HasCells t

-- the row at an index has this state
abbrev pub HasState : Rows → ℕ → Powerset → Type 0
HasState t k q = (r : Row) × (slice_get t.rows k ≡ Some r) × (r.state ≡ q)

-- a state that may be added to a table
pub record IsNewState (t : Rows) (q : Powerset) : Type 0 where
  -- no row has it, and it is not dead
  pub lacks : Lacks t q
  -- it costs no more than a state may
  pub cheap : cost q ≤ t.of.greatest
  -- it is a state of the DFA
  pub own : IsStateOf t.of q

-- the parts of a table: its rows fit together, a new row and the length of a row are the machine's, the map finds each
-- state's row, and the costs are those of all states
pub record IsHeld (t : Rows) (s : ℕ) (row : List ℕ) (map : StateMap) (costs : ℕ) : Type 0 where
  -- rows and cells fit each other
  pub rows : RowsFitCells t
  -- each cell of a new row is quit or unknown
  pub cells : IsTemplate t.of.stride t.of.template
  -- the length of a row is the machine's
  pub stride : s ≡ t.of.stride
  -- a new row is the machine's
  pub template : row ≡ t.of.template
  -- the map has for each state the ID of its row
  pub mapped : (q : Powerset) → get powerset_eq map q ≡ id_of t q
  -- the costs are those of all states
  pub costs_of : costs ≡ sum_by row_cost t.rows
