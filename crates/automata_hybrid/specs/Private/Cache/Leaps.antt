-- Leaps: where cells lead from a row on a few classes, one after another, by untagged IDs.
use Rattle.std.specs.Prelude.{ℕ, zero, suc, ◌≡◌, ◌+◌, ◌*◌, ◌/◌, ◌%◌, ◌^◌, ◌<◌, ◌≤◌, ◌⊎◌, List, Option, IfSome, length}
use Rattle.std.specs.Prelude.{slice_index, cond, nat_lt, ◌-◌, max}
use Rattle.std.specs.Global.{Box}
use Rattle.automata_base.specs.ByteClasses.Classes.{eoi_class}
use Rattle.automata_base.specs.Nfas.Nodes.{Automaton}
use Rattle.automata_hybrid.specs.Cache.Ids.{offset_limit}
use Rattle.automata_hybrid.specs.Cache.Stores.{Stored}
use Rattle.automata_hybrid.specs.Cache.Table.{Rows}
use Rattle.automata_hybrid.specs.Known.Events.{usage}
use Rattle.automata_hybrid.specs.Private.Cache.Stores.{known_in}
use Rattle.automata_hybrid.specs.declared.cache.leaps.Leaps.{Leaps}
use Rattle.automata_hybrid.specs.declared.cache.leaps.Shape.{Shape}

-- the value of a cell of leaps whose bytes have to be followed one by one
abbrev pub mark : ℕ
mark = 2 ^ 32 - 1

-- the cell of a row at a class has the untagged ID of a row
pub record LeadsToRow (t : Rows) (row class to : ℕ) : Type 0 where
  -- the cell has the offset of the row that it leads to
  pub cell : slice_index t.cells ((row + 3) * t.of.stride + class) ≡ (to + 3) * t.of.stride
  -- that offset is below the limit, so that as an ID it has no tag
  pub untagged : (to + 3) * t.of.stride < offset_limit

-- a place is a row's index followed by `count` classes, as the digits of a number to the base `n`, and these classes
-- lead from that row to another one
abbrev pub ReachesRow : Rows → (n count place to : ℕ) → Type 0
ReachesRow t n zero place to = place ≡ to
ReachesRow t n (suc count) place to = (row : ℕ) × ReachesRow t n count (place / n) row × LeadsToRow t row (place % n) to

-- how many bytes a leap reads, and how many cells a row has: one for each sequence of that many classes
pub record IsShape (s : Shape) : Type 0 where
  -- there are at most 32 classes
  pub few : s.classes ≤ 32
  -- a leap reads at least one byte
  pub some : 0 < s.reach
  -- a leap reads at most four bytes
  pub short : s.reach ≤ 4
  -- a row has a cell for each sequence of as many classes as a leap reads bytes
  pub width : s.width ≡ s.classes ^ s.reach
  -- a row has at most 2^10 cells
  pub narrow : s.width ≤ 2 ^ 10
  -- at most 2^18 rows have leaps
  pub rows : s.rows ≤ 2 ^ 18

-- leaps of this shape for a table
pub record IsShapeOf (t : Rows) (s : Shape) : Type 0 where
  -- it is a shape of leaps
  pub shape : IsShape s
  -- its classes are the classes of bytes, without the class of the end
  pub classes : s.classes ≡ eoi_class t.of.classes
  -- the rows that have leaps are rows of the table
  pub rows : s.rows ≤ length t.rows

-- a cell has the place of the first cell of the row that the classes of its own place lead to
pub record LeapsTo (t : Rows) (s : Shape) (place cell : ℕ) : Type 0 where
  -- the row that the classes lead to
  pub to : ℕ
  -- it is one of the rows that have leaps
  pub known : to < s.rows
  -- the cell has the place of the first cell of that row
  pub first : cell ≡ to * s.width
  -- the classes of the cell's own place lead to that row
  pub reaches : ReachesRow t s.classes s.reach place to

-- each cell is marked, or leads to the row that its classes lead to
pub record AreLeaps (t : Rows) (l : Leaps) : Type 0 where
  -- their shape is for the table
  pub of : IsShapeOf t l.shape
  -- there are as many cells as the rows of the shape have
  pub cells : length l.cells.items ≡ l.shape.rows * l.shape.width
  -- each cell is marked, or leads over its classes to a row
  pub leads :
      (place : ℕ) → place < length l.cells.items
      → (slice_index l.cells.items place ≡ mark) ⊎ LeapsTo t l.shape place (slice_index l.cells.items place)

-- the bytes that leaps take: their cells, and the list that holds these
abbrev pub leaps_bytes : ℕ → ℕ
leaps_bytes cells = 64 + 4 * cells

-- the bytes that building leaps takes: the leaps, where one byte leads from each row and from "no row", and where all
-- bytes of a leap but one lead from each row
abbrev pub making_bytes : Shape → ℕ
making_bytes s = leaps_bytes (s.rows * s.width) + 4 * ((s.rows + 1) * s.classes + s.rows * (s.width / max s.classes 1))

-- the parts of a cache: its buffers are for its NFA; its leaps, if there are any, are leaps of its table, and together
-- with the accounted bytes they are within the capacity
pub record AreCacheParts (c : Stored) (nfa : Automaton) (held : Option (Box Leaps)) : Type 0 where
  -- the buffers are for the NFA of the cache
  pub scratch : nfa ≡ c.table.of.nfa
  -- leaps are leaps of its table
  pub leaps : IfSome held (λ l. AreLeaps c.table l.value)
  -- the accounted bytes and those of the leaps are within the capacity
  pub within :
      IfSome held (λ l. usage c.table.of (known_in c) + leaps_bytes (length l.value.cells.items) ≤ c.table.of.capacity)

-- a step on one class, from a row to a row or, if it is not cached or its ID has a tag, to "no row", which is the index
-- after the last row
pub record IsLeapStep (t : Rows) (n place to : ℕ) : Type 0 where
  -- it leads to a row, or to the index after the last row
  pub upto : to ≤ length t.rows
  -- if it leads to a row, it begins at one
  pub from : to < length t.rows → place / n < length t.rows
  -- if it leads to a row, the cell of the class leads there
  pub leads : to < length t.rows → LeadsToRow t (place / n) (place % n) to

-- steps of a table, class by class for each row
abbrev pub AreLeapSteps : Rows → ℕ → List ℕ → Type 0
AreLeapSteps t n steps = (place : ℕ) → place < length steps → IsLeapStep t n place (slice_index steps place)

-- where `count` classes lead from a row: to a row or to "no row"
pub record IsLevelCell (t : Rows) (n count place to : ℕ) : Type 0 where
  -- this is a row, or the index after the last row
  pub upto : to ≤ length t.rows
  -- if it is a row, the classes lead there
  pub reaches : to < length t.rows → ReachesRow t n count place to

-- where each sequence of `count` classes leads from each row: to a row or to "no row"
abbrev pub IsLevel : Rows → ℕ → ℕ → List ℕ → Type 0
IsLevel t n count level = (place : ℕ) → place < length level → IsLevelCell t n count place (slice_index level place)

-- the place of a row's first cell, or the mark for "no row"
abbrev pub first_cell : (rows width row : ℕ) → ℕ
first_cell rows width row = cond (nat_lt row rows) (row * width) mark
