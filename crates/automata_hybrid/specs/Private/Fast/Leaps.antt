-- Leaps over the bytes of a search, which are read from the front or from the back.
use Rattle.std.specs.Prelude.{ℕ, zero, suc, ◌≡◌, ◌+◌, ◌*◌, ◌<◌, ◌≤◌, List, length}
use Rattle.automata_base.specs.ByteClasses.Classes.{class_in}
use Rattle.automata_base.specs.declared.util.search.Direction.{Direction}
use Rattle.automata_hybrid.specs.Private.Cache.Leaps.{LeadsToRow}
use Rattle.automata_hybrid.specs.Cache.Table.{Rows}
use Rattle.automata_hybrid.specs.Private.Fast.SelfLoops.{byte_in}
use Rattle.automata_hybrid.specs.declared.cache.leaps.Shape.{Shape}

-- `count` bytes from a place on lead from a row to another one, by the cells of their classes
abbrev pub LeadsOver : Rows → Direction → List ℕ → (from count row to : ℕ) → Type 0
LeadsOver t way bytes from zero row to = row ≡ to
LeadsOver t way bytes from (suc count) row to =
    (at : ℕ) × LeadsOver t way bytes from count row at
    × LeadsToRow t at (class_in t.of.classes (byte_in way bytes (from + count))) to

-- the classes of `count` bytes from a place on, as the digits of a number to the base `n`
abbrev pub column_of : (classes : List ℕ) → ℕ → Direction → List ℕ → (from count : ℕ) → ℕ
column_of classes n way bytes from zero = 0
column_of classes n way bytes from (suc count) =
    column_of classes n way bytes from count * n + class_in classes (byte_in way bytes (from + count))

-- leaps led over the first `len` of some bytes to the row whose first cell has this place
pub record IsLeapt (t : Rows) (s : Shape) (way : Direction) (bytes : List ℕ) (row len place : ℕ) : Type 0 where
  -- the row that the bytes led to
  pub to : ℕ
  -- it is one of the rows that have leaps
  pub known : to < s.rows
  -- this is the place of its first cell
  pub first : place ≡ to * s.width
  -- there are at least that many bytes
  pub within : len ≤ length bytes
  -- they lead there by the cells of their classes
  pub over : LeadsOver t way bytes 0 len row to

-- the first `len` of some bytes lead from one untagged ID to another
pub record LeadsIds (t : Rows) (way : Direction) (bytes : List ℕ) (len id next : ℕ) : Type 0 where
  -- the row of the first ID
  pub row : ℕ
  -- the row of the other one
  pub to : ℕ
  -- the first ID is the offset of its row, without a tag
  pub begins : id ≡ (row + 3) * t.of.stride
  -- the other one is the offset of its row, without a tag
  pub ends : next ≡ (to + 3) * t.of.stride
  -- there are at least that many bytes
  pub within : len ≤ length bytes
  -- they lead from the one row to the other
  pub over : LeadsOver t way bytes 0 len row to
