-- Marks before bytes, one for each boundary found.
use Rattle.std.specs.Prelude.{ℕ, ◌≡◌, ◌<◌, Bool, false, ◌||◌, List, slice_index_or}

-- Whether there is a mark before the byte.
abbrev pub is_marked : List Bool → ℕ → Bool
is_marked marks byte = slice_index_or marks byte false

-- The bytes that pass are marked as well, and no others.
pub record Adds (old new : List Bool) (bound : ℕ → Bool) : Type 0 where
  -- a byte is marked if it was before, or passes
  pub marks : (byte : ℕ) → byte < 256 → is_marked new byte ≡ (is_marked old byte || bound byte)
