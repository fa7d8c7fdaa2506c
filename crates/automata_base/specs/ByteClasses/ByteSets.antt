-- Sets of bytes: four words of 64 bits, and for each byte whether it is in the set.
use Rattle.std.specs.Prelude.{ℕ, zero, suc, ◌+◌, ◌*◌, ◌/◌, ◌%◌, ◌^◌, ◌<◌, ◌≡◌, Bool, eqb, if◌then◌else◌}
use Rattle.std.specs.Prelude.{List, [], ◌∷◌, length, map, slice_index}
use Rattle.std.specs.List.{range_with_len}
use Rattle.std.specs.Int.{bit_at}
use Rattle.automata_base.specs.ByteClasses.Classes.{is_quit}

-- Whether a byte is in the set of these words.
abbrev pub has_byte : List ℕ → ℕ → Bool
has_byte words byte = eqb (bit_at (slice_index words (byte / 64)) (byte % 64)) 1

-- For each byte, whether it is in the set of these words.
unfoldable pub truths_of : List ℕ → List Bool
truths_of words = map (has_byte words) (range_with_len 0 256)

-- The number of these bits, the lowest one first.
unfoldable pub word_of : (ℕ → Bool) → ℕ → ℕ
word_of truth zero = 0
word_of truth (suc count) = (if truth 0 then 1 else 0) + 2 * word_of (λ i. truth (suc i)) count

-- The word `k` of the set that these truths describe.
abbrev pub word_at : List Bool → ℕ → ℕ
word_at truths k = word_of (λ i. is_quit truths (64 * k + i)) 64

-- The four words of the set that these truths describe.
unfoldable pub words_of : List Bool → List ℕ
words_of truths = word_at truths 0 ∷ word_at truths 1 ∷ word_at truths 2 ∷ word_at truths 3 ∷ []

-- The list has four words of 64 bits.
pub record IsByteSet (words : List ℕ) : Type 0 where
  -- there are four words
  pub whole : length words ≡ 4
  -- each has 64 bits
  pub small : (k : ℕ) → k < 4 → slice_index words k < 2 ^ 64
