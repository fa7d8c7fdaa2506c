-- Heads, the parts of matches before a needle in them.
use Rattle.std.specs.Prelude.{ℕ, ◌≡◌, ◌<◌, ◌≤◌, ◌+◌, Bool, true, List, All}
use Rattle.regex_hir.specs.Matches.{Matches}
use Rattle.regex_hir.specs.Re.{Re}
use Rattle.prefilters.specs.Bytes.{HasOnlyBytesOf, in_table}
use Rattle.prefilters.specs.declared.heads.Head.{Head}
use Rattle.prefilters.specs.declared.heads.Head.TheVariants.{Any, Of, Within}

-- the part of a haystack from offset i to before offset k may be such a head
abbrev pub FitsHead : Head → List ℕ → (i k : ℕ) → Type 0
FitsHead (Within most) hay i k = k ≤ i + most
FitsHead (Of table) hay i k = HasOnlyBytesOf hay table i k
FitsHead Any hay i k = Unit {0}

-- every match may be such a head
abbrev pub IsHeadOf : Re → Head → Type 0
IsHeadOf re head = (hay : List ℕ) → All (λ b. b < 256) hay → (i k : ℕ) → Matches hay re i k → FitsHead head hay i k

-- every match consists of bytes of the table
abbrev pub ConsistsOf : Re → (table : List Bool) → Type 0
ConsistsOf re table =
    (hay : List ℕ) → All (λ b. b < 256) hay → (i j : ℕ) → Matches hay re i j → HasOnlyBytesOf hay table i j

-- the table has each byte in a range
abbrev pub HasBytesInRange : (table : List Bool) → (range : ℕ × ℕ) → Type 0
HasBytesInRange table range =
    (byte : ℕ) → range.0 ≤ byte → byte ≤ range.1 → byte < 256 → in_table table byte ≡ true

-- the table has each byte of the encodings of the characters in a range: an ASCII character is its own byte, and all
-- bytes beyond ASCII are there if some character is beyond it
pub record HasCharacters (table : List Bool) (range : ℕ × ℕ) : Type 0 where
  -- the ASCII characters
  pub ascii : (c : ℕ) → range.0 ≤ c → c ≤ range.1 → c < 128 → in_table table c ≡ true
  -- the bytes of other characters
  pub beyond : (byte : ℕ) → 128 ≤ range.1 → 128 ≤ byte → byte < 256 → in_table table byte ≡ true

-- Offset `first` is the first one, back to `start`, from which on the haystack has only bytes of the table to before
-- offset `at`.
pub record StartsRun (table : List Bool) (hay : List ℕ) (start at first : ℕ) : Type 0 where
  -- it is not before the start
  pub from : start ≤ first
  -- nor after the end
  pub upto : first ≤ at
  -- from there on are only bytes of the table
  pub run : HasOnlyBytesOf hay table first at
  -- and from no offset before it
  pub longest : (o : ℕ) → start ≤ o → o < first → HasOnlyBytesOf hay table o at → ⊥
