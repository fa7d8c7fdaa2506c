-- The remaining rows and cells of a table while its states are listed.
use Rattle.std.specs.Prelude.{ℕ, ◌≡◌, ◌+◌, ◌*◌, ◌<◌, ◌≤◌, List, length}
use Rattle.automata_hybrid.specs.declared.cache.row.Row.{Row}
use Rattle.automata_hybrid.specs.Cache.Ids.{offset_limit}

-- the remaining rows with their cells: there are as many cells as the rows have, and the rows' offsets are below the
-- limit
pub record AreRowsLeft (stride at : ℕ) (cells : List ℕ) (rows : List Row) : Type 0 where
  -- there are as many cells as the rows have
  pub whole : length cells ≡ length rows * stride
  -- the offset of the last row is below the limit
  pub small : at + length cells < offset_limit + stride
  -- a row has at most 512 cells
  pub narrow : stride ≤ 512
