-- Sets of bytes, as tables.
use Rattle.std.specs.Prelude.{ℕ, ◌≡◌, ◌<◌, ◌≤◌, Bool, true, false, List, slice_index, slice_index_or}

-- whether the byte is in the table, which says so of each byte
abbrev pub in_table : (table : List Bool) → (byte : ℕ) → Bool
in_table table byte = slice_index_or table byte false

-- each byte of the old table is in the new one
abbrev pub KeepsBytes : (old new : List Bool) → Type 0
KeepsBytes old new = (byte : ℕ) → in_table old byte ≡ true → in_table new byte ≡ true

-- from offset i to before offset j the haystack has only bytes of the table
abbrev pub HasOnlyBytesOf : List ℕ → (table : List Bool) → (i j : ℕ) → Type 0
HasOnlyBytesOf hay table i j = (k : ℕ) → i ≤ k → k < j → in_table table (slice_index hay k) ≡ true
