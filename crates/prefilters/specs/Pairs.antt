-- Pairs of bytes, by which several needles are searched for at once: where none of the pairs fits, no needle occurs.
use Rattle.std.specs.Prelude.{ℕ, ◌≡◌, ◌<◌, ◌≤◌, ◌+◌, List, All, bit_or, length, slice_index}
use Rattle.std.specs.List.{Any, Contains}
use Rattle.regex_literal.specs.Find.{needle_at}
use Rattle.prefilters.specs.declared.pairs.BytePair.{BytePair}

-- A pair fits at offset `k` of a haystack: both of its bytes are there, at their offsets from `k`, once the bits of
-- `fold` are set in the bytes of the haystack.
pub record FitsAt (fold : ℕ) (pair : BytePair) (hay : List ℕ) (k : ℕ) : Type 0 where
  -- its first byte
  pub first : bit_or (slice_index hay (k + pair.first_at)) fold ≡ pair.first
  -- its second byte
  pub second : bit_or (slice_index hay (k + pair.second_at)) fold ≡ pair.second

-- `folded` is the needle with the bits of `fold` set in its bytes
pub record IsFoldedNeedle (fold : ℕ) (needle folded : List ℕ) : Type 0 where
  -- they have the same length
  pub long : length folded ≡ length needle
  -- each byte has these bits set
  pub reads : (j : ℕ) → j < length needle → slice_index folded j ≡ bit_or (slice_index needle j) fold

-- the needle is in the list, with the bits of `fold` set in its bytes
abbrev pub HasFoldOf : (fold : ℕ) → (needle : List ℕ) → (folded : List (List ℕ)) → Type 0
HasFoldOf fold needle folded = (m : ℕ) × (m < length folded) × IsFoldedNeedle fold needle (needle_at folded m)

-- each of the needles is in the second list, with the bits of `fold` set in its bytes
abbrev pub HasFolds : (fold : ℕ) → (needles folded : List (List ℕ)) → Type 0
HasFolds fold needles folded = (n : ℕ) → n < length needles → HasFoldOf fold (needle_at needles n) folded

-- what the first list has of the needles, the second has
abbrev pub KeepsFolds : (fold : ℕ) → (old new : List (List ℕ)) → Type 0
KeepsFolds fold old new = (needle : List ℕ) → HasFoldOf fold needle old → HasFoldOf fold needle new

-- the folded needle occurs at offset `k` of the haystack, once the bits of `fold` are set in its bytes
pub record OccursFolded (fold : ℕ) (hay needle : List ℕ) (k : ℕ) : Type 0 where
  -- it ends in the haystack
  pub fits : k + length needle ≤ length hay
  -- each of its bytes is there
  pub reads : (j : ℕ) → j < length needle → bit_or (slice_index hay (k + j)) fold ≡ slice_index needle j

-- none of the folded needles occurs at offset `k` of the haystack
abbrev pub NoFoldOccurs : (fold : ℕ) → List ℕ → (folded : List (List ℕ)) → (k : ℕ) → Type 0
NoFoldOccurs fold hay folded k =
    (n : ℕ) → n < length folded → OccursFolded fold hay (needle_at folded n) k → ⊥

-- the needle begins with the byte
abbrev pub BeginsWithByte : (byte : ℕ) → (needle : List ℕ) → Type 0
BeginsWithByte byte needle = (0 < length needle) × (slice_index needle 0 ≡ byte)

-- each of the needles begins with the byte
abbrev pub AllBeginWithByte : (byte : ℕ) → (needles : List (List ℕ)) → Type 0
AllBeginWithByte byte needles = (n : ℕ) → n < length needles → BeginsWithByte byte (needle_at needles n)

-- the pair fits wherever the folded needle occurs
abbrev pub FitsNeedle : (fold : ℕ) → BytePair → (needle : List ℕ) → Type 0
FitsNeedle fold pair needle = (hay : List ℕ) (k : ℕ) → OccursFolded fold hay needle k → FitsAt fold pair hay k

-- one of the pairs fits at offset `k` of the haystack
abbrev pub AnyFitsAt : (fold : ℕ) → List BytePair → List ℕ → (k : ℕ) → Type 0
AnyFitsAt fold pairs hay k = Any (λ pair. FitsAt fold pair hay k) pairs

-- wherever the folded needle occurs, one of the pairs fits
abbrev pub CoversNeedle : (fold : ℕ) → List BytePair → (needle : List ℕ) → Type 0
CoversNeedle fold pairs needle = (hay : List ℕ) (k : ℕ) → OccursFolded fold hay needle k → AnyFitsAt fold pairs hay k

-- wherever one of the folded needles occurs, one of the pairs fits
abbrev pub CoversNeedles : (fold : ℕ) → List BytePair → (needles : List (List ℕ)) → Type 0
CoversNeedles fold pairs needles =
    (n : ℕ) → n < length needles → CoversNeedle fold pairs (needle_at needles n)

-- no byte of the pairs is at a greater offset
abbrev pub ReachesAtMost : List BytePair → (reach : ℕ) → Type 0
ReachesAtMost pairs reach = All (λ pair. (pair.first_at ≤ reach) × (pair.second_at ≤ reach)) pairs

-- each pair of the first list is in the second
abbrev pub HasAllOf : (old new : List BytePair) → Type 0
HasAllOf old new = (pair : BytePair) → Contains old pair → Contains new pair
