-- The encoding of powerset states in bytes, and its inverse.
use Rattle.std.specs.Prelude.{◌≡◌, ℕ, zero, suc, List, [], ◌∷◌, ◌++◌, Bool, true, false, ◌+◌, ◌*◌, ◌-◌, ◌/◌, ◌%◌, ◌==◌}
use Rattle.std.specs.Prelude.{nat_lt, length, drop, slice_index, ◌<◌, ◌^◌, if◌then◌else◌}
use Rattle.std.specs.List.{flat_map}
use Rattle.std.specs.Int.{w32, to_le_bytes, from_le_bytes}
use Rattle.std.specs.List.{AllByRecursion}
use Rattle.automata_base.specs.Powersets.Powerset.{Powerset, IsPowerset, IsId}
use Rattle.automata_base.specs.Powersets.Code.{bit, difference, groups, ids_code, FitsGroups}

-- whether there are any patterns
abbrev pub has_any : List ℕ → Bool
has_any [] = false
has_any (p ∷ ps) = true

-- whether the encoding lists the patterns: it does unless there are none, or only pattern 0
abbrev pub is_listed : List ℕ → Bool
is_listed [] = false
is_listed (p ∷ []) = nat_lt 0 p
is_listed (p ∷ q ∷ ps) = true

-- bit 0 "has patterns", bit 1 "patterns are listed", bit 2 the word flag, bit 3 the half flag
abbrev pub flag_byte : Bool → Bool → Bool → Bool → ℕ
flag_byte has listed word half = bit has + 2 * bit listed + 4 * bit word + 8 * bit half

-- a number in four bytes, the least significant first
abbrev pub four_bytes : ℕ → List ℕ
four_bytes n = to_le_bytes w32 n

-- the patterns, if they are listed: their number, then each of them
abbrev pub patterns_code : List ℕ → List ℕ
patterns_code ps = if is_listed ps then four_bytes (length ps) ++ flat_map four_bytes ps else []

-- the bytes of a state: its flags, the looks known and needed, its patterns, and its NFA states
abbrev pub code : Powerset → List ℕ
code q =
    flag_byte (has_any q.patterns) (is_listed q.patterns) q.word q.half
    ∷ (four_bytes q.known ++ (four_bytes q.needed ++ (patterns_code q.patterns ++ ids_code 0 q.nfa)))

-- whether the bit of this value is set in the first byte
abbrev pub is_set : ℕ → List ℕ → Bool
is_set worth bytes = slice_index bytes 0 / worth % 2 == 1

-- the number in the four bytes at an index
abbrev pub number_at : List ℕ → ℕ → ℕ
number_at bytes place = from_le_bytes w32 (drop place bytes)

-- this many numbers, each in four bytes
unfoldable pub numbers_at : ℕ → List ℕ → List ℕ
numbers_at zero bytes = []
numbers_at (suc count) bytes = from_le_bytes w32 bytes ∷ numbers_at count (drop 4 bytes)

-- the numbers, with these low seven bits added to the first
abbrev pub with_low : ℕ → List ℕ → List ℕ
with_low low [] = []
with_low low (n ∷ ns) = (low + 128 * n) ∷ ns

-- the numbers that the groups encode
unfoldable pub numbers : List ℕ → List ℕ
numbers [] = []
numbers (b ∷ bytes) = if nat_lt b 128 then b ∷ numbers bytes else with_low (b - 128) (numbers bytes)

-- the NFA state with this difference from the previous one
abbrev pub id_at : ℕ → ℕ → ℕ
id_at before z = if z % 2 == 0 then before + z / 2 else before - (z + 1) / 2

-- the NFA states with these differences, each from the previous one
unfoldable pub ids_of : ℕ → List ℕ → List ℕ
ids_of before [] = []
ids_of before (z ∷ zs) = id_at before z ∷ ids_of (id_at before z) zs

-- the patterns: none, those listed, or pattern 0 alone
abbrev pub patterns_of : List ℕ → List ℕ
patterns_of bytes =
    if is_set 1 bytes then (if is_set 2 bytes then numbers_at (number_at bytes 9) (drop 13 bytes) else 0 ∷ []) else []

-- the bytes after the patterns
abbrev pub ids_bytes : List ℕ → List ℕ
ids_bytes bytes = if is_set 2 bytes then drop (4 * number_at bytes 9) (drop 13 bytes) else drop 9 bytes

-- the powerset state that the bytes encode
abbrev pub decoded : List ℕ → Powerset
decoded bytes = record {
  nfa = ids_of 0 (numbers (ids_bytes bytes));
  patterns = patterns_of bytes;
  known = number_at bytes 1;
  needed = number_at bytes 5;
  word = is_set 4 bytes;
  half = is_set 8 bytes;
}

-- the bytes encode a powerset state
pub record IsCode (bytes : List ℕ) : Type 0 where
  -- what the bytes encode is a powerset state
  pub state : IsPowerset (decoded bytes)
  -- its encoding is these bytes
  pub same : code (decoded bytes) ≡ bytes

-- the bytes begin with the groups of the number, and these come after it
abbrev pub IsFront : List ℕ → ℕ → List ℕ → Type 0
IsFront bytes n tail = (more : ℕ) × (n < 2 ^ 35) × FitsGroups more n × (bytes ≡ groups more n ++ tail)

-- the bytes encode NFA states that come after this one
pub record AreIds (before : ℕ) (bytes : List ℕ) : Type 0 where
  -- the NFA state before has a number that an ID may have
  pub first : IsId before
  -- each NFA state that the bytes encode has such a number
  pub ids : AllByRecursion IsId (ids_of before (numbers bytes))
  -- the encoding of these states is the bytes
  pub same : ids_code before (ids_of before (numbers bytes)) ≡ bytes
