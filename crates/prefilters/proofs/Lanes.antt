-- What the mask of 64 lanes says about the bytes in them.
use Rattle.std.proofs.Common.{◌≡◌, ◌∙◌, ℕ, ◌+◌, ◌%◌, ◌^◌, ◌<◌, ◌≤◌, List, Bool, true, false, cond, eqb}
use Rattle.std.proofs.Common.{length, get_or, map, replicate, ap, arith, w8, w64, slice_index}
use lib.Count.{count_trailing_zeros}
use Rattle.std.specs.Int.{bit_at}
use Rattle.std.specs.Prelude.{bit_or}
use Rattle.std.specs.Simd.Lanes.{chunk, mask_l, top, zip2}
use Rattle.std.proofs.lemmas.Bool.{eq-eqb}
use Rattle.std.proofs.lemmas.List.{length-map, get_or-map}
use Rattle.std.proofs.lemmas.Nat.Bits.{bit_at-trailing_zeros}
use Rattle.std.proofs.lemmas.Simd.{bit_mask_l, bitmask_splat, get_or-chunk, length-chunk, map-map}
use Rattle.std.proofs.lemmas.Simd.{zip2_splat}

-- whether it is this byte, once the bits of `fold` are set
abbrev is_byte : (fold byte : ℕ) → ℕ → Bool
is_byte fold byte b = eqb (bit_or b fold) byte

-- the mask computed from 64 bytes
abbrev pub mask_of : (fold byte : ℕ) → List ℕ → ℕ
mask_of fold byte v =
    mask_l (map (top 7)
    (zip2 (λ a b. cond (eqb a b) 255 0) (zip2 bit_or v (replicate 64 fold)) (replicate 64 byte))) % 2 ^ 64

mask_is : (fold byte : ℕ) (v : List ℕ) → length v ≡ 64 → mask_of fold byte v ≡ mask_l (map (is_byte fold byte) v)
mask_is fold byte v long =
    let folded : zip2 bit_or v (replicate 64 fold) ≡ map (λ b. bit_or b fold) v = zip2_splat bit_or v 64 fold long in
    ap (λ us. mask_l (map (top 7) (zip2 (λ a b. cond (eqb a b) 255 0) us (replicate 64 byte))) % 2 ^ 64) folded
    ∙ (bitmask_splat w8 eqb (map (λ b. bit_or b fold) v) 64 byte (length-map v (λ b. bit_or b fold) ∙ long)
    (omega arith)
    ∙ ap mask_l (map-map (λ x. eqb x byte) (λ b. bit_or b fold) v))

module _ (fold byte : ℕ) (xs : List ℕ) (i : ℕ) (room : i + 64 ≤ length xs) where
  long : length (chunk i 64 xs) ≡ 64
  long = length-chunk i 64 xs room

  -- the bit of a lane with this byte is set
  pub mask_set :
      (k : ℕ) → k < 64 → bit_or (slice_index xs (i + k)) fold ≡ byte
      → bit_at (mask_of fold byte (chunk i 64 xs)) k ≡ 1
  mask_set k few same =
      ap (λ m. bit_at m k) (mask_is fold byte (chunk i 64 xs) long)
      ∙ (bit_mask_l (map (is_byte fold byte) (chunk i 64 xs)) k ∙ ap (λ b. cond b 1 0) lane)
    where
      lane : get_or (map (is_byte fold byte) (chunk i 64 xs)) k false ≡ true
      lane = get_or-map (is_byte fold byte) (chunk i 64 xs) k 0 false (omega (arith, few, long))
          ∙ (ap (is_byte fold byte) (get_or-chunk i 64 xs k 0 few)
          ∙ eq-eqb (bit_or (slice_index xs (i + k)) fold) byte same)

-- the lowest set bit is one of the 64, and the bits below it are clear
pub trailing_few : (mask : ℕ) → (mask ≡ 0 → ⊥) → mask < 2 ^ 64 → count_trailing_zeros 64 mask < 64
trailing_few mask some small = (bit_at-trailing_zeros w64 mask (omega (arith, some)) small).0

pub trailing_clear :
    (mask : ℕ) → (mask ≡ 0 → ⊥) → mask < 2 ^ 64 → (k : ℕ) → k < count_trailing_zeros 64 mask → bit_at mask k ≡ 0
trailing_clear mask some small = (bit_at-trailing_zeros w64 mask (omega (arith, some)) small).2
