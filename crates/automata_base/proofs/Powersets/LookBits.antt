-- Bits of look sets: a look that is added, and the first bits.
use Rattle.std.proofs.Common.{min, ℕ, ◌≡◌, ◌<◌, ◌⊎◌, ◌||◌, ◌*◌, ◌%◌, ◌^◌}
use Rattle.std.proofs.Common.{◌≤◌, true, false, eqb, sym, ap, ◌∙◌, inl, inr, arith, w32}
use Rattle.std.specs.Int.{bit_at}
use Rattle.std.specs.Int.RustNames.{bit_or, bit_and}
use Rattle.std.proofs.lemmas.Nat.Bits.{bit_at_set_same, bit_at_set_other, bit_at_and, bit_at_ones, bit_at-lt}
use Rattle.std.proofs.lemmas.Bool.Decides.{eqb_tells}
use Rattle.automata_base.specs.Haystacks.Looks.{Look}
use Rattle.automata_base.specs.Haystacks.Looks as l
use Rattle.automata_base.specs.Haystacks.Looks.{look_index}
use Rattle.std.proofs.Math.Nat.{pow-le-pow_right}

pub insert_bit :
    (n k j : ℕ) → k < 18 → eqb (bit_at (bit_or n (1 * 2 ^ k % 4294967296)) j) 1 ≡ (eqb j k || eqb (bit_at n j) 1)
insert_bit n k j l = go (eqb_tells j k)
  where
    go :
        ((eqb j k ≡ true) × (j ≡ k)) ⊎ ((eqb j k ≡ false) × (j ≡ k → ⊥))
        → eqb (bit_at (bit_or n (1 * 2 ^ k % 4294967296)) j) 1 ≡ (eqb j k || eqb (bit_at n j) 1)
    go (inl h) =
        ap (λ z. eqb (bit_at (bit_or n (1 * 2 ^ k % 4294967296)) z) 1) h.1
        ∙ (ap (λ z. eqb z 1) (bit_at_set_same w32 n k (omega (arith, l))) ∙ sym (ap (λ b. b || eqb (bit_at n j) 1) h.0))
    go (inr h) =
        ap (λ z. eqb z 1) (bit_at_set_other w32 n k (omega (arith, l)) j h.1)
        ∙ sym (ap (λ b. b || eqb (bit_at n j) 1) h.0)

-- The low eighteen bits are those of the number.
pub low_bits : (n k : ℕ) → k < 18 → bit_at (bit_and n 262143) k ≡ bit_at n k
low_bits n k l =
    bit_at_and n 262143 k
    ∙ (ap (min (bit_at n k)) (bit_at_ones 18 k l) ∙ (let two : bit_at n k < 2 = bit_at-lt n k in omega arith))

pub bit_small : (k : ℕ) → k < 18 → 1 * 2 ^ k % 4294967296 < 2 ^ 18
bit_small k l =
    let below : k ≤ 17 = omega arith in
    let small : 2 ^ k ≤ 2 ^ 17 = pow-le-pow_right (omega arith) below in omega (arith, small)

pub code_below : (look : Look) → look_index look < 18
code_below l.Start = omega arith
code_below l.End = omega arith
code_below l.StartLF = omega arith
code_below l.EndLF = omega arith
code_below l.StartCRLF = omega arith
code_below l.EndCRLF = omega arith
code_below l.WordAscii = omega arith
code_below l.WordAsciiNegate = omega arith
code_below l.WordUnicode = omega arith
code_below l.WordUnicodeNegate = omega arith
code_below l.WordStartAscii = omega arith
code_below l.WordEndAscii = omega arith
code_below l.WordStartUnicode = omega arith
code_below l.WordEndUnicode = omega arith
code_below l.WordStartHalfAscii = omega arith
code_below l.WordEndHalfAscii = omega arith
code_below l.WordStartHalfUnicode = omega arith
code_below l.WordEndHalfUnicode = omega arith
