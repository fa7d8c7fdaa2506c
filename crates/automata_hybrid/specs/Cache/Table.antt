-- What contracts see of the table: the rows of the states, and what their IDs name.
use Rattle.std.specs.Prelude.{◌≡◌, ℕ, ◌+◌, ◌*◌, ◌%◌, ◌<◌, ◌≤◌, ◌↔◌, List, [], ◌∷◌, ◌++◌, length, Bool, cond}
use Rattle.std.specs.Prelude.{nat_lt, Option, None, Some, replicate, ◌-◌, ◌/◌, slice_get}
use Rattle.automata_base.specs.Powersets.Powerset.{Powerset, cost, dead}
use Rattle.automata_determinize.specs.Powersets.Equal.{powerset_eq}
use Rattle.automata_hybrid.specs.declared.cache.row.Row.{Row}
use Rattle.automata_hybrid.specs.Cache.Ids.{tags, dead_id, quit_id, unknown_id, offset_limit, HasMatchTag}
use Rattle.automata_hybrid.specs.Machines.Machine.{Machine}
use Rattle.automata_hybrid.specs.Machines.Reachable.{IsStateOf}

-- a state has patterns
abbrev pub has_patterns : Powerset → Bool
has_patterns q = nat_lt 0 (length q.patterns)

-- the ID of a row at an offset
abbrev pub row_id : ℕ → Row → ℕ
row_id at r = at + tags r.started (has_patterns r.state)

-- the accounted bytes of a row's state
abbrev pub row_cost : Row → ℕ
row_cost r = cost r.state

-- what contracts see of a table: the rows after the three fixed ones, and all cells
pub record Rows : Type 0 where
  -- the DFA that the table belongs to
  pub of : Machine
  -- the cells of all rows, beginning with the three fixed ones
  pub cells : List ℕ
  -- the rows after the fixed ones, each with its state
  pub rows : List Row

-- the ID of a state among rows, the first of them at an offset
abbrev pub find_id : ℕ → ℕ → Powerset → List Row → Option ℕ
find_id s at q [] = None
find_id s at q (r ∷ rs) = cond (powerset_eq q r.state) (Some (row_id at r)) (find_id s (at + s) q rs)

-- the ID that a table has for a state
abbrev pub id_of : Rows → Powerset → Option ℕ
id_of t q = find_id t.of.stride (3 * t.of.stride) q t.rows

-- the row that an ID names
abbrev pub row_of : Rows → ℕ → Option Row
row_of t id = slice_get t.rows ((id % offset_limit) / t.of.stride - 3)

-- this is the ID, tags included, of the row of this state
abbrev pub Names : Rows → ℕ → Powerset → Type 0
Names t id q = id_of t q ≡ Some id

-- an ID has the match tag exactly if the state that it names has patterns
abbrev pub HasItsMatchTag : Rows → ℕ → Type 0
HasItsMatchTag t id = (q : Powerset) → Names t id q → HasMatchTag id ↔ (0 < length q.patterns)

-- an ID leads to a state
pub data Leads (t : Rows) (id : ℕ) (q : Powerset) : Type 0 where
  -- it is the dead ID, and the state is dead
  LeadsToDead : id ≡ dead_id t.of.stride → q ≡ dead → Leads t id q
  -- it is the ID of the row of this state
  LeadsToNamed : Names t id q → Leads t id q

-- the three fixed rows
abbrev pub fixed_rows : ℕ → List ℕ
fixed_rows s = replicate s unknown_id ++ (replicate s (dead_id s) ++ replicate s (quit_id s))

-- a table with only the fixed rows
abbrev pub fresh : Machine → Rows
fresh m = record { of = m; cells = fixed_rows m.stride; rows = [] }

-- a state that a row may have: it is a state of the DFA, costs no more than a state may, and is not dead
pub record IsRowState (m : Machine) (q : Powerset) : Type 0 where
  -- it is a state of the DFA
  pub own : IsStateOf m q
  -- it costs no more than a state may
  pub cheap : cost q ≤ m.greatest
  -- it is not dead
  pub alive : q ≡ dead → ⊥

-- some row has exactly this ID
abbrev pub IsRowId : Rows → ℕ → Type 0
IsRowId t id = (q : Powerset) × Names t id q

-- the index of a cell in the list of all cells
abbrev pub cell_at : ℕ → ℕ → ℕ
cell_at id class = id % offset_limit + class
