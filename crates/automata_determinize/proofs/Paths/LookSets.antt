-- Sets of looks: a number below 2 ^ 18 and what each look is determine each other.
use Rattle.std.proofs.Common.{ℕ, zero, suc, ◌≡◌, ◌<◌, ◌+◌, ◌*◌, ◌/◌, ◌%◌, ◌^◌, Bool, true, false, eqb, List, [], ◌∷◌}
use Rattle.std.proofs.Common.{length, Option, Some, None, refl, sym, ap, ◌∙◌, arith, cond}
use Rattle.std.specs.Int.{bit_at}
use Rattle.std.proofs.lemmas.Nat.Bits.{bit_at-suc, bit_at-lt, bit_at_lowest}
use Rattle.std.specs.Prelude.{slice_get}
use Rattle.automata_base.specs.declared.util.look.Look.{Look}
use Rattle.automata_base.specs.declared.util.look.Look.TheVariants.{Start, End, StartLF, EndLF, StartCRLF, EndCRLF}
use Rattle.automata_base.specs.declared.util.look.Look.TheVariants.{WordAscii}
use Rattle.automata_base.specs.declared.util.look.Look.TheVariants.{WordAsciiNegate, WordUnicode, WordUnicodeNegate}
use Rattle.automata_base.specs.declared.util.look.Look.TheVariants.{WordStartAscii}
use Rattle.automata_base.specs.declared.util.look.Look.TheVariants.{WordEndAscii, WordStartUnicode, WordEndUnicode}
use Rattle.automata_base.specs.declared.util.look.Look.TheVariants.{WordStartHalfAscii}
use Rattle.automata_base.specs.declared.util.look.Look.TheVariants.{WordEndHalfAscii, WordStartHalfUnicode}
use Rattle.automata_base.specs.declared.util.look.Look.TheVariants.{WordEndHalfUnicode}
use Rattle.automata_base.specs.Haystacks.Looks.{look_index}
use Rattle.automata_base.specs.Nfas.Nfa.{Truth}
use Rattle.automata_base.specs.Haystacks.LookSets.{truth_of, IsLookSet, bits_from, set_of, all_looks}

half_of : (b : Bool) (m : ℕ) → (cond b 1 0 + 2 * m) / 2 ≡ m
half_of true m = omega arith
half_of false m = omega arith

low_of : (b : Bool) (m : ℕ) → (cond b 1 0 + 2 * m) % 2 ≡ cond b 1 0
low_of true m = omega arith
low_of false m = omega arith

-- The bit of a look in the list.
bit_from :
    (A : Truth) (looks : List Look) (k : ℕ) (look : Look) → slice_get looks k ≡ Some look
    → bit_at (bits_from A looks) k ≡ cond (A look) 1 0
bit_from A [] k look e = cc
bit_from A (x ∷ xs) zero look e =
    bit_at_lowest (cond (A x) 1 0 + 2 * bits_from A xs)
    ∙ (low_of (A x) (bits_from A xs) ∙ ap (λ y. cond (A y) 1 0) (let same : x ≡ look = cc in same))
bit_from A (x ∷ xs) (suc k) look e =
    bit_at-suc (cond (A x) 1 0 + 2 * bits_from A xs) k
    ∙ (ap (λ m. bit_at m k) (half_of (A x) (bits_from A xs)) ∙ bit_from A xs k look e)

pub nth_index : (look : Look) → slice_get all_looks (look_index look) ≡ Some look
nth_index Start = refl
nth_index End = refl
nth_index StartLF = refl
nth_index EndLF = refl
nth_index StartCRLF = refl
nth_index EndCRLF = refl
nth_index WordAscii = refl
nth_index WordAsciiNegate = refl
nth_index WordUnicode = refl
nth_index WordUnicodeNegate = refl
nth_index WordStartAscii = refl
nth_index WordEndAscii = refl
nth_index WordStartUnicode = refl
nth_index WordEndUnicode = refl
nth_index WordStartHalfAscii = refl
nth_index WordEndHalfAscii = refl
nth_index WordStartHalfUnicode = refl
nth_index WordEndHalfUnicode = refl

is_one : (b : Bool) → eqb (cond b 1 0) 1 ≡ b
is_one true = refl
is_one false = refl

-- The set of the true looks contains exactly those looks.
pub truth_of-set_of : (A : Truth) (look : Look) → truth_of (set_of A) look ≡ A look
truth_of-set_of A look =
    ap (λ v. eqb v 1) (bit_from A all_looks (look_index look) look (nth_index look)) ∙ is_one (A look)

bits_small : (A : Truth) (looks : List Look) → bits_from A looks < 2 ^ length looks
bits_small A [] = omega arith
bits_small A (x ∷ xs) = go (A x) (bits_small A xs)
  where
    go : (b : Bool) → bits_from A xs < 2 ^ length xs → cond b 1 0 + 2 * bits_from A xs < 2 ^ suc (length xs)
    go true h = omega (arith, h)
    go false h = omega (arith, h)

pub set_of-small : (A : Truth) → IsLookSet (set_of A)
set_of-small A = bits_small A all_looks

half_small : (m n : ℕ) → m < 2 ^ suc n → m / 2 < 2 ^ n
half_small m n l = omega (arith, l)

low_bit : (m : ℕ) (b : Bool) → m % 2 ≡ cond b 1 0 → m ≡ cond b 1 0 + 2 * (m / 2)
low_bit m true e = omega (arith, e)
low_bit m false e = omega (arith, e)

bits_back :
    (A : Truth) (looks : List Look) (m : ℕ) → m < 2 ^ length looks
    → ((k : ℕ) (look : Look) → slice_get looks k ≡ Some look → bit_at m k ≡ cond (A look) 1 0) → m ≡ bits_from A looks
bits_back A [] m l h = omega (arith, l)
bits_back A (x ∷ xs) m l h =
    low_bit m (A x) (sym (bit_at_lowest m) ∙ h 0 x refl)
    ∙ ap (λ v. cond (A x) 1 0 + 2 * v)
    (bits_back A xs (m / 2) (half_small m (length xs) l) (λ k look e. sym (bit_at-suc m k) ∙ h (suc k) look e))

index_or : Option Look → ℕ
index_or None = 18
index_or (Some look) = look_index look

index_of : (k : ℕ) (look : Look) → slice_get all_looks k ≡ Some look → k ≡ look_index look
unfolding index_or
index_of zero look e = ap index_or e
index_of (suc zero) look e = ap index_or e
index_of (suc (suc zero)) look e = ap index_or e
index_of (suc (suc (suc zero))) look e = ap index_or e
index_of (suc (suc (suc (suc zero)))) look e = ap index_or e
index_of (suc (suc (suc (suc (suc zero))))) look e = ap index_or e
index_of (suc (suc (suc (suc (suc (suc zero)))))) look e = ap index_or e
index_of (suc (suc (suc (suc (suc (suc (suc zero))))))) look e = ap index_or e
index_of (suc (suc (suc (suc (suc (suc (suc (suc zero)))))))) look e = ap index_or e
index_of (suc (suc (suc (suc (suc (suc (suc (suc (suc zero))))))))) look e = ap index_or e
index_of (suc (suc (suc (suc (suc (suc (suc (suc (suc (suc zero)))))))))) look e = ap index_or e
index_of (suc (suc (suc (suc (suc (suc (suc (suc (suc (suc (suc zero))))))))))) look e = ap index_or e
index_of (suc (suc (suc (suc (suc (suc (suc (suc (suc (suc (suc (suc zero)))))))))))) look e = ap index_or e
index_of (suc (suc (suc (suc (suc (suc (suc (suc (suc (suc (suc (suc (suc zero))))))))))))) look e = ap index_or e
index_of (suc (suc (suc (suc (suc (suc (suc (suc (suc (suc (suc (suc (suc (suc zero)))))))))))))) look e = ap index_or e
index_of (suc (suc (suc (suc (suc (suc (suc (suc (suc (suc (suc (suc (suc (suc (suc zero))))))))))))))) look e =
    ap index_or e
index_of (suc (suc (suc (suc (suc (suc (suc (suc (suc (suc (suc (suc (suc (suc (suc (suc zero)))))))))))))))) look e =
    ap index_or e
index_of (suc (suc (suc (suc (suc (suc (suc (suc (suc (suc (suc (suc (suc (suc (suc (suc (suc zero))))))))))))))))) look
    e = ap index_or e
index_of (suc (suc (suc (suc (suc (suc (suc (suc (suc (suc (suc (suc (suc (suc (suc (suc (suc (suc k))))))))))))))))))
    look e = cc

one_bit : (v : ℕ) → v < 2 → v ≡ cond (eqb v 1) 1 0
one_bit zero h = refl
one_bit (suc zero) h = refl
one_bit (suc (suc v)) h = omega (arith, h)

-- A look set is the set of the looks that it contains.
pub set_of-truth_of : (a : ℕ) → IsLookSet a → a ≡ set_of (truth_of a)
set_of-truth_of a s =
    bits_back (truth_of a) all_looks a s
    (λ k look e. ap (bit_at a) (index_of k look e)
    ∙ one_bit (bit_at a (look_index look)) (bit_at-lt a (look_index look)))

-- The looks that a look set contains determine it.
pub same_looks : (a b : ℕ) → IsLookSet a → IsLookSet b → ((look : Look) → truth_of a look ≡ truth_of b look) → a ≡ b
same_looks a b s t e =
    set_of-truth_of a s ∙ (ap set_of (λ i look. e look i) ∙ sym (set_of-truth_of b t))
