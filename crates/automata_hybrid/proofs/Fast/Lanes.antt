-- What the mask of 32 lanes says about the bytes in them.
use Rattle.std.proofs.Common.{◌≡◌, ◌∙◌, ℕ, zero, suc, ◌*◌, ◌+◌, ◌-◌, ◌%◌, ◌^◌, ◌<◌, ◌≤◌, List, [], ◌∷◌, Bool, true}
use Rattle.std.proofs.Common.{false, cond, leb, length, get_or, map, replicate, refl, sym, ap, subst, arith, w8, w64}
use Rattle.std.proofs.Common.{slice_index, min, ◌⊎◌, inl, inr, ⊎_elim}
use lib.Count.{count_trailing_zeros}
use Rattle.automata_hybrid.proofs.Words.{bit_at, Direction}
use Rattle.std.specs.Int.Bits.{bit_and}
use Rattle.std.specs.Simd.Lanes.{chunk, mask_l, top, zip2}
use Rattle.std.proofs.lemmas.Simd.{bit_mask_l, get_or-chunk, length-chunk, map-map, mask_l-lt, mask_l-mod}
use Rattle.std.proofs.lemmas.Simd.{tops_compared, zip2_splat}
use Rattle.std.proofs.lemmas.Bool.{cases_lt, leb-false}
use Rattle.std.proofs.lemmas.Nat.Bits.{bit_at_above, bit_at_and, bit_at-trailing_zeros, bit_at-zero}
use Rattle.std.proofs.Math.Nat.{two-pow-succ}
use Rattle.std.proofs.lemmas.List.{length-map, get_or-map}
use Rattle.automata_hybrid.specs.Private.Fast.SelfLoops.{steps_above, byte_in, lane_of}

-- whether a byte is outside a range
abbrev pub is_outside : ℕ → ℕ → ℕ → Bool
is_outside low size byte = leb size (steps_above low byte)

splat_zip2 : {Z : Type 0} (f : ℕ → ℕ → Z) (x : ℕ) (ys : List ℕ) → zip2 f (replicate (length ys) x) ys ≡ map (f x) ys
splat_zip2 f x [] = refl
splat_zip2 f x (y ∷ ys) = ap (λ rest. f x y ∷ rest) (splat_zip2 f x ys)

-- the mask computed from 32 bytes
abbrev pub mask_of : ℕ → ℕ → List ℕ → ℕ
mask_of low size v =
    mask_l (map (top 7)
    (zip2 (λ a b. cond (leb a b) 255 0) (replicate 32 size)
    (zip2 (λ a b. (a + (256 - b)) % 256) v (replicate 32 low)))) % 2 ^ 64

mask_is : (low size : ℕ) (v : List ℕ) → length v ≡ 32 → mask_of low size v ≡ mask_l (map (is_outside low size) v)
mask_is low size v long =
    let places : zip2 (λ a b. (a + (256 - b)) % 256) v (replicate 32 low) ≡ map (steps_above low) v =
    zip2_splat (λ (a b : ℕ). (a + (256 - b)) % 256) v 32 low long in
    let many : length (map (steps_above low) v) ≡ 32 = length-map v (steps_above low) ∙ long in
    ap (λ us. mask_l (map (top 7) (zip2 (λ a b. cond (leb a b) 255 0) (replicate 32 size) us)) % 2 ^ 64) places
    ∙ (ap (λ ms. mask_l ms % 2 ^ 64)
    (tops_compared w8 leb (replicate 32 size) (map (steps_above low) v)
    ∙ (ap (λ n. zip2 leb (replicate n size) (map (steps_above low) v)) (sym many)
    ∙ (splat_zip2 leb size (map (steps_above low) v)
    ∙ map-map (leb size) (steps_above low) v)))
    ∙ mask_l-mod (map (is_outside low size) v) 64 (omega (arith, length-map v (is_outside low size), long)))

module _ (low size : ℕ) (xs : List ℕ) (i : ℕ) (room : i + 32 ≤ length xs) where
  long : length (chunk i 32 xs) ≡ 32
  long = length-chunk i 32 xs room

  pub mask_small : mask_of low size (chunk i 32 xs) < 2 ^ 32
  mask_small =
      let lanes : length (map (is_outside low size) (chunk i 32 xs)) ≡ 32 =
      length-map (chunk i 32 xs) (is_outside low size) ∙ long in
      subst (λ n. n < 2 ^ 32) (sym (mask_is low size (chunk i 32 xs) long))
      (subst (λ n. mask_l (map (is_outside low size) (chunk i 32 xs)) < 2 ^ n) lanes
      (mask_l-lt (map (is_outside low size) (chunk i 32 xs))))

  -- the byte of a lane whose bit is clear is in the range
  pub mask_near :
      (k : ℕ) → k < 32 → bit_at (mask_of low size (chunk i 32 xs)) k ≡ 0
      → steps_above low (slice_index xs (i + k)) < size
  mask_near k few clear =
      omega (
        arith,
        leb-false size (steps_above low (slice_index xs (i + k)))
            (sym lane ∙ unset _ (sym (bit_mask_l (map (is_outside low size) (chunk i 32 xs)) k) ∙ bit)),
      )
    where
      bit : bit_at (mask_l (map (is_outside low size) (chunk i 32 xs))) k ≡ 0
      bit = sym (ap (λ m. bit_at m k) (mask_is low size (chunk i 32 xs) long)) ∙ clear

      lane : get_or (map (is_outside low size) (chunk i 32 xs)) k false ≡ is_outside low size (slice_index xs (i + k))
      lane = get_or-map (is_outside low size) (chunk i 32 xs) k 0 false (omega (arith, few, long))
          ∙ ap (is_outside low size) (get_or-chunk i 32 xs k 0 few)

      unset : (b : Bool) → cond {A = ℕ} b 1 0 ≡ 0 → b ≡ false
      unset true e = absurd (omega (arith, e))
      unset false e = refl

-- the bits of the mask below the lowest set bit are clear
pub trailing_clear :
    (mask : ℕ) → (mask ≡ 0 → ⊥) → mask < 2 ^ 32 → (k : ℕ) → k < count_trailing_zeros 64 mask → bit_at mask k ≡ 0
trailing_clear mask some small = (bit_at-trailing_zeros w64 mask (omega (arith, some)) (omega (arith, small))).2

pub trailing_few : (mask : ℕ) → (mask ≡ 0 → ⊥) → mask < 2 ^ 32 → count_trailing_zeros 64 mask ≤ 32
trailing_few mask some small = ⊎_elim
    (λ (below : count_trailing_zeros 64 mask < 32). omega (arith, below))
    (λ (above : 32 ≤ count_trailing_zeros 64 mask).
    let unset : bit_at mask (count_trailing_zeros 64 mask) ≡ 0 =
    bit_at_above mask 32 (count_trailing_zeros 64 mask) small above in
    let set : bit_at mask (count_trailing_zeros 64 mask) ≡ 1 =
    (bit_at-trailing_zeros w64 mask (omega (arith, some)) (omega (arith, small))).1 in
    absurd (omega (arith, unset, set)))
    (cases_lt (count_trailing_zeros 64 mask) 32)

-- the bits of the mask above the highest set bit are clear
pub leading_clear : (mask top n : ℕ) → mask < 2 * 2 ^ top → n ≡ 31 - top → (k : ℕ) → k < n → bit_at mask (31 - k) ≡ 0
leading_clear mask top n high e k l =
    bit_at_above mask (suc top) (31 - k) (omega (arith, two-pow-succ top, high)) (omega (arith, e, l))

-- a bit that is clear in the conjunction of two masks is clear in one of them
pub both_clear : (a b k : ℕ) → bit_at (bit_and a b) k ≡ 0 → (bit_at a k ≡ 0) ⊎ (bit_at b k ≡ 0)
both_clear a b k clear = least (bit_at a k) (bit_at b k) (sym (bit_at_and a b k) ∙ clear) where
  least : (x y : ℕ) → min x y ≡ 0 → (x ≡ 0) ⊎ (y ≡ 0)
  least zero y e = inl refl
  least (suc x) zero e = inr refl
  least (suc x) (suc y) e = absurd (omega (arith, e))

module _
    (way : Direction) (P : ℕ → Type 0) (at mask : ℕ) (xs : List ℕ)
    (near : (k : ℕ) → k < 32 → bit_at mask (lane_of way k) ≡ 0 → P (byte_in way xs (at + k)))
  where
    -- what holds of each lane whose bit is clear holds of the first bytes, if all their bits are clear
    pub near_upto :
        (n : ℕ) → n ≤ 32 → ((k : ℕ) → k < n → bit_at mask (lane_of way k) ≡ 0)
        → (k : ℕ) → at ≤ k → k < at + n → P (byte_in way xs k)
    near_upto n few clear k from to =
        let here : at + (k - at) ≡ k = omega (arith, from) in
        let lane : k - at < n = omega (arith, from, to) in
        subst (λ j. P (byte_in way xs j)) here (near (k - at) (omega (arith, lane, few)) (clear (k - at) lane))

    pub all_near : mask ≡ 0 → (k : ℕ) → at ≤ k → k < at + 32 → P (byte_in way xs k)
    all_near none =
        near_upto 32 (omega arith) (λ k l. ap (λ n. bit_at n (lane_of way k)) none ∙ bit_at-zero (lane_of way k))
