-- A haystack, its offsets, and the tapes of its spans. An offset is a position between bytes, from 0 to the length; a
-- place is a position on a tape, counted from where a search begins.
use Rattle.std.specs.Prelude.{ℕ, zero, suc, ◌≡◌, ◌<◌, ◌≤◌, ◌+◌, ◌-◌, Bool, false, List, take, drop, reverse}
use Rattle.std.specs.Prelude.{Option, Some, None, slice_get}
use Rattle.automata_base.specs.Haystacks.Looks.{within}
use Rattle.automata_base.specs.Paths.Paths.{Tape, prev, next}
pub use Rattle.automata_base.specs.declared.util.search.Direction.{Direction}
pub use Rattle.automata_base.specs.declared.util.search.Direction.TheVariants.{Forward, Backward}

-- Each number is a byte.
abbrev pub IsHaystack : List ℕ → Type 0
IsHaystack h = (o u : ℕ) → slice_get h o ≡ Some u → u < 256

-- The byte before an offset; the one after it is `slice_get h o`. Either is missing only outside the haystack.
abbrev pub byte_before : List ℕ → ℕ → Option ℕ
byte_before h zero = None
byte_before h (suc o) = slice_get h o

-- The bytes of the span `s..e`.
abbrev pub between : List ℕ → ℕ → ℕ → List ℕ
between h s e = take (e - s) (drop s h)

-- The span read from `s` to `e`: place `i` is the offset `s + i`.
abbrev pub forward_tape : List ℕ → ℕ → ℕ → Tape
forward_tape h s e = record { before = byte_before h s; bytes = between h s e; after = slice_get h e }

-- The span read from `e` to `s`: place `i` is the offset `e - i`.
abbrev pub reverse_tape : List ℕ → ℕ → ℕ → Tape
reverse_tape h s e = record { before = slice_get h e; bytes = reverse (between h s e); after = byte_before h s }

-- The tape of the span `s..e` in a direction.
abbrev pub tape_of : Direction → List ℕ → ℕ → ℕ → Tape
tape_of Forward h s e = forward_tape h s e
tape_of Backward h s e = reverse_tape h s e

-- The offset of a place of the span `s..e`.
abbrev pub offset : Direction → (s e place : ℕ) → ℕ
offset Forward s e i = s + i
offset Backward s e i = e - i

-- Whether there is a byte, and it is a UTF-8 continuation byte.
abbrev pub is_continuation : Option ℕ → Bool
is_continuation None = false
is_continuation (Some u) = within 128 191 u

-- Whether an offset is inside a character (a split place): it is inside the haystack, and its byte is 0x80 to 0xBF.
abbrev pub is_split : List ℕ → ℕ → Bool
is_split h o = is_continuation (slice_get h o)

-- The units that a pass reads up to place `m`.
pub data ReadsUpto (t : Tape) (m : ℕ) (v : Option ℕ) : Type 0 where
  -- the byte before its first place
  ReadsByteBefore : v ≡ prev t 0 → ReadsUpto t m v
  -- the unit at each place
  ReadsUnitAt : (j : ℕ) → j ≤ m → v ≡ next t j → ReadsUpto t m v

-- No unit that a pass reads up to place `m` is a quit byte.
abbrev pub MeetsNone : (quits : ℕ → Bool) → Tape → ℕ → Type 0
MeetsNone quits t m = (v : ℕ) → ReadsUpto t m (Some v) → quits v ≡ false
