-- The view, in contracts, of the settled values that a DFA is built from.
use Rattle.std.specs.Prelude.{ℕ, Bool, List}

-- The settled values that a DFA is built from: the class of each byte, the quit bytes, and the capacity.
pub record Settled : Type 0 where
  -- the class of each byte
  pub classes : List ℕ
  -- for each byte, whether it is a quit byte
  pub quits : List Bool
  -- the most bytes that a cache may account for
  pub capacity : ℕ
