-- Sets of bytes: their words, and the flag of each byte.
use Rattle.std.proofs.Common.{ℕ, zero, suc, ◌≡◌, ◌≤◌, ◌+◌, ◌*◌, ◌/◌, ◌%◌, ◌^◌, ◌<◌, ◌⊎◌, inl, inr, Bool, true, false}
use Rattle.std.proofs.Common.{eqb}
use Rattle.std.proofs.Common.{true≢false, List, [], ◌∷◌, length, length-set, get_or, replicate, refl, sym, ap, ◌∙◌}
use Rattle.std.proofs.Common.{arith}
use Rattle.std.specs.Int.{bit_at}
use Rattle.std.specs.Int.RustNames.{bit_or}
use Rattle.std.proofs.lemmas.Nat.{le_or_l, le_or_r}
use Rattle.std.proofs.Math.ListN.{set}
use Rattle.std.proofs.lemmas.Bool.Decides.{eqb_tells}
use Rattle.std.proofs.lemmas.List.{get_or-set_same, get_or-set_other, get_or-replicate}
use Rattle.std.proofs.lemmas.Nat.Bits.{bit_at-zero}
use Rattle.automata_base.specs.ByteClasses.Classes.{is_quit}
use Rattle.automata_base.specs.ByteClasses.ByteSets.{IsByteSet, has_byte, truths_of, word_of}
use Rattle.automata_base.specs.ByteClasses.WordsBack.{at_word, of_bits, truth_in, truths_by_bytes, whole}

-- If no word has a bit set, the set is empty.
pub no_bytes :
    (words : List ℕ) → ((k : ℕ) → k < 4 → get_or words k 0 ≡ 0) → (byte : ℕ) → byte < 256
    → is_quit (truths_of words) byte ≡ false
no_bytes words none byte h =
    truth_in words byte h
    ∙ (ap (λ w. eqb (bit_at w (byte % 64)) 1) (none (byte / 64) (omega (arith, h)))
    ∙ ap (λ z. eqb z 1) (bit_at-zero (byte % 64)))

abbrev none : List ℕ
none = 0 ∷ 0 ∷ 0 ∷ 0 ∷ []

pub empty_truths : replicate 256 false ≡ truths_of (0 ∷ 0 ∷ 0 ∷ 0 ∷ [])
empty_truths =
    truths_by_bytes none (replicate 256 false) refl (λ k l. get_or-replicate 256 k false false l ∙ sym (clear k l))
  where
    zeros : (k : ℕ) → k < 4 → get_or none k 0 ≡ 0
    zeros zero l = refl
    zeros (suc zero) l = refl
    zeros (suc (suc zero)) l = refl
    zeros (suc (suc (suc zero))) l = refl
    zeros (suc (suc (suc (suc k)))) l = absurd (omega (arith, l))

    clear : (k : ℕ) → k < 256 → has_byte none k ≡ false
    clear k l =
        ap (λ w. eqb (bit_at w (k % 64)) 1) (zeros (k / 64) (omega (arith, l)))
        ∙ ap (λ z. eqb z 1) (bit_at-zero (k % 64))

-- If the union of all words is 0, no word has a bit set.
pub or_none :
    (words : List ℕ)
    → eqb (bit_or (bit_or (bit_or (get_or words 0 0) (get_or words 1 0)) (get_or words 2 0)) (get_or words 3 0)) 0
    ≡ true
    → (k : ℕ) → k < 4 → get_or words k 0 ≡ 0
or_none words h k l = go k l
  where
    sum : bit_or (bit_or (bit_or (get_or words 0 0) (get_or words 1 0)) (get_or words 2 0)) (get_or words 3 0) ≡ 0
    sum = told _ h (eqb_tells _ 0)
      where
        told : (n : ℕ) → eqb n 0 ≡ true → ((eqb n 0 ≡ true) × (n ≡ 0)) ⊎ ((eqb n 0 ≡ false) × (n ≡ 0 → ⊥)) → n ≡ 0
        told n h (inl w) = w.1
        told n h (inr w) = absurd (true≢false (sym h ∙ w.0))

    two : ℕ
    two = bit_or (get_or words 0 0) (get_or words 1 0)

    three : ℕ
    three = bit_or two (get_or words 2 0)

    last : three ≤ bit_or three (get_or words 3 0)
    last = le_or_l three (get_or words 3 0)

    middle : two ≤ three
    middle = le_or_l two (get_or words 2 0)

    go : (k : ℕ) → k < 4 → get_or words k 0 ≡ 0
    go zero l = omega (arith, sum, last, middle, le_or_l (get_or words 0 0) (get_or words 1 0))
    go (suc zero) l = omega (arith, sum, last, middle, le_or_r (get_or words 0 0) (get_or words 1 0))
    go (suc (suc zero)) l = omega (arith, sum, last, le_or_r two (get_or words 2 0))
    go (suc (suc (suc zero))) l = omega (arith, sum, le_or_r three (get_or words 3 0))
    go (suc (suc (suc (suc k)))) l = absurd (omega (arith, l))

-- If the set is empty, no word has a bit set.
zero_word :
    (words : List ℕ) (k : ℕ) → k < 4 → get_or words k 0 < 2 ^ 64
    → ((byte : ℕ) → byte < 256 → is_quit (truths_of words) byte ≡ false) → get_or words k 0 ≡ 0
unfolding word_of
zero_word words k l small nothing = sym (of_bits (λ i. false) 64 (get_or words k 0) small bits) ∙ no_bits
  where
    bits : (i : ℕ) → i < 64 → false ≡ eqb (bit_at (get_or words k 0) i) 1
    bits i m =
        let inside : 64 * k + i < 256 = omega (arith, l, m) in
        sym (nothing (64 * k + i) inside) ∙ (truth_in words (64 * k + i) inside ∙ at_word words (64 * k + i) k i refl m)

    no_bits : word_of (λ i. false) 64 ≡ 0
    no_bits = refl

pub none_or :
    (words : List ℕ) → IsByteSet words → ((byte : ℕ) → byte < 256 → is_quit (truths_of words) byte ≡ false)
    → eqb (bit_or (bit_or (bit_or (get_or words 0 0) (get_or words 1 0)) (get_or words 2 0)) (get_or words 3 0)) 0
    ≡ true
none_or words h nothing =
    ap (λ z. eqb (bit_or (bit_or (bit_or z (get_or words 1 0)) (get_or words 2 0)) (get_or words 3 0)) 0)
    (zero 0 (omega arith))
    ∙ (ap (λ z. eqb (bit_or (bit_or (bit_or 0 z) (get_or words 2 0)) (get_or words 3 0)) 0) (zero 1 (omega arith))
    ∙ (ap (λ z. eqb (bit_or (bit_or (bit_or 0 0) z) (get_or words 3 0)) 0) (zero 2 (omega arith))
    ∙ ap (λ z. eqb (bit_or (bit_or (bit_or 0 0) 0) z) 0) (zero 3 (omega arith))))
  where
    zero : (k : ℕ) → k < 4 → get_or words k 0 ≡ 0
    zero k l = zero_word words k l (h.small k l) nothing

-- Changing one bit of a word changes the flag of one byte.
pub with_byte :
    (words : List ℕ) (byte : ℕ) (put : Bool) (word : ℕ)
    → length words ≡ 4 → byte < 256 → eqb (bit_at word (byte % 64)) 1 ≡ put
    → ((i : ℕ) → i < 64 → (i ≡ byte % 64 → ⊥) → bit_at word i ≡ bit_at (get_or words (byte / 64) 0) i)
    → truths_of (set words (byte / 64) word) ≡ set (truths_of words) byte put
with_byte words byte put word l h same others =
    sym (truths_by_bytes changed (set (truths_of words) byte put) (length-set (truths_of words) byte put ∙ whole words)
    (λ k m. go k m (eqb_tells k byte)))
  where
    changed : List ℕ
    changed = set words (byte / 64) word

    inside : byte / 64 < length words
    inside = omega (arith, l, h)

    own : get_or changed (byte / 64) 0 ≡ word
    own = get_or-set_same words (byte / 64) word 0 inside

    other :
        (k : ℕ) → k < 256 → (k ≡ byte → ⊥) → ((eqb (k / 64) (byte / 64) ≡ true) × (k / 64 ≡ byte / 64))
        ⊎ ((eqb (k / 64) (byte / 64) ≡ false) × (k / 64 ≡ byte / 64 → ⊥)) → has_byte changed k ≡ has_byte words k
    other k m apart (inl w) =
        ap (λ z. eqb (bit_at (get_or changed z 0) (k % 64)) 1) w.1
        ∙ (ap (λ z. eqb (bit_at z (k % 64)) 1) own
        ∙ (ap (λ z. eqb z 1) (others (k % 64) (omega arith) (λ e. apart (omega (arith, e, w.1))))
        ∙ ap (λ z. eqb (bit_at (get_or words z 0) (k % 64)) 1) (sym w.1)))
    other k m apart (inr w) =
        ap (λ z. eqb (bit_at z (k % 64)) 1) (get_or-set_other words (byte / 64) (k / 64) word 0 w.1)

    go :
        (k : ℕ) → k < 256 → ((eqb k byte ≡ true) × (k ≡ byte)) ⊎ ((eqb k byte ≡ false) × (k ≡ byte → ⊥))
        → is_quit (set (truths_of words) byte put) k ≡ has_byte changed k
    go k m (inl w) =
        ap (is_quit (set (truths_of words) byte put)) w.1
        ∙ (get_or-set_same (truths_of words) byte put false (omega (arith, h, whole words))
        ∙ (sym same ∙ (ap (λ z. eqb (bit_at z (byte % 64)) 1) (sym own) ∙ ap (has_byte changed) (sym w.1))))
    go k m (inr w) =
        get_or-set_other (truths_of words) byte k put false w.1
        ∙ (truth_in words k m ∙ sym (other k m w.1 (eqb_tells (k / 64) (byte / 64))))
