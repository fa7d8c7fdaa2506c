-- The words of a set of bytes follow from which bytes are in it.
use Rattle.std.proofs.Common.{ℕ, zero, suc, ◌≡◌, ◌+◌, ◌*◌, ◌/◌, ◌%◌, ◌^◌, ◌<◌, Bool, false, eqb, cond}
use Rattle.std.proofs.Common.{List, [], ◌∷◌, length, get_or, refl, ap, ◌∙◌, arith}
use Rattle.std.specs.Int.{bit_at}
use Rattle.std.proofs.lemmas.List.FromFn.{fill_by_all, get_or-map-range_with_len, length-map-range_with_len}
use Rattle.std.proofs.lemmas.Nat.Bits.{bit_at_lowest, bit_at-suc}
use Rattle.automata_base.specs.ByteClasses.Classes.{is_quit}
use Rattle.automata_base.specs.ByteClasses.ByteSets.{has_byte, truths_of, word_of, word_at, words_of, IsByteSet}

-- The list says of a byte what the words say.
pub truth_in : (words : List ℕ) (byte : ℕ) → byte < 256 → is_quit (truths_of words) byte ≡ has_byte words byte
unfolding truths_of
truth_in words byte h = get_or-map-range_with_len (has_byte words) 0 256 byte byte false h (none_more byte)
  where
    none_more : (byte : ℕ) → 0 + byte ≡ byte
    none_more byte = omega arith

-- The list has an entry for each of the 256 bytes.
pub whole : (words : List ℕ) → length (truths_of words) ≡ 256
unfolding truths_of
whole words = length-map-range_with_len (has_byte words) 0 256

-- A list that says the same of each byte is the list of the words.
pub truths_by_bytes :
    (words : List ℕ) (truths : List Bool)
    → length truths ≡ 256 → ((k : ℕ) → k < 256 → is_quit truths k ≡ has_byte words k) → truths ≡ truths_of words
unfolding truths_of
truths_by_bytes words truths l same = fill_by_all (has_byte words) truths 256 false l same

-- A byte is in the set exactly if its bit is set in its word.
pub at_word :
    (words : List ℕ) (byte k i : ℕ) → byte ≡ 64 * k + i → i < 64
    → has_byte words byte ≡ eqb (bit_at (get_or words k 0) i) 1
at_word words byte k i e l =
    ap (λ z. eqb (bit_at (get_or words z 0) (byte % 64)) 1) (quotient byte k i e l)
    ∙ ap (λ z. eqb (bit_at (get_or words k 0) z) 1) (remainder byte k i e l)
  where
    quotient : (byte k i : ℕ) → byte ≡ 64 * k + i → i < 64 → byte / 64 ≡ k
    quotient byte k i e l = omega (arith, e, l)

    remainder : (byte k i : ℕ) → byte ≡ 64 * k + i → i < 64 → byte % 64 ≡ i
    remainder byte k i e l = omega (arith, e, l)

-- The number with the bits of a word is the word.
pub of_bits :
    (truth : ℕ → Bool) (n w : ℕ) → w < 2 ^ n → ((i : ℕ) → i < n → truth i ≡ eqb (bit_at w i) 1) → word_of truth n ≡ w
unfolding word_of
of_bits truth zero w h same = omega (arith, h)
of_bits truth (suc n) w h same =
    let low : truth 0 ≡ eqb (w % 2) 1 = same 0 (omega arith) ∙ ap (λ z. eqb z 1) (bit_at_lowest w) in
    let rest : word_of (λ i. truth (suc i)) n ≡ w / 2 =
    of_bits (λ i. truth (suc i)) n (w / 2) (half w n h)
    (λ i l. same (suc i) (omega (arith, l)) ∙ ap (λ z. eqb z 1) (bit_at-suc w i)) in
    let first : cond (truth 0) 1 0 ≡ w % 2 = ap (λ b. cond b 1 0) low ∙ parity (w % 2) (omega arith) in
    omega (arith, first, rest)
  where
    half : (w n : ℕ) → w < 2 ^ suc n → w / 2 < 2 ^ n
    half w n h = omega (arith, h)

    parity : (m : ℕ) → m < 2 → cond (eqb m 1) 1 0 ≡ m
    parity zero l = refl
    parity (suc zero) l = refl
    parity (suc (suc m)) l = absurd (omega (arith, l))

-- The words that follow from which bytes are in a set are the words of the set.
pub words_back : (words : List ℕ) → IsByteSet words → words_of (truths_of words) ≡ words
unfolding words_of
words_back [] h = absurd (omega (arith, h.whole))
words_back (a ∷ []) h = absurd (omega (arith, h.whole))
words_back (a ∷ b ∷ []) h = absurd (omega (arith, h.whole))
words_back (a ∷ b ∷ c ∷ []) h = absurd (omega (arith, h.whole))
words_back (a ∷ b ∷ c ∷ d ∷ e ∷ rest) h = absurd (omega (arith, h.whole))
words_back (a ∷ b ∷ c ∷ d ∷ []) h =
    four _ _ _ _ (one 0 (omega arith)) (one 1 (omega arith)) (one 2 (omega arith)) (one 3 (omega arith))
  where
    words : List ℕ
    words = a ∷ b ∷ c ∷ d ∷ []

    one : (k : ℕ) → k < 4 → word_at (truths_of words) k ≡ get_or words k 0
    one k l =
        of_bits _ 64 (get_or words k 0) (h.small k l)
        (λ i m. truth_in words (64 * k + i) (omega (arith, l, m)) ∙ at_word words (64 * k + i) k i refl m)

    four : (p q r s : ℕ) → p ≡ a → q ≡ b → r ≡ c → s ≡ d → p ∷ q ∷ r ∷ s ∷ [] ≡ words
    four p q r s e f g h =
        ap (λ z. z ∷ q ∷ r ∷ s ∷ []) e
        ∙ (ap (λ z. a ∷ z ∷ r ∷ s ∷ []) f ∙ (ap (λ z. a ∷ b ∷ z ∷ s ∷ []) g ∙ ap (λ z. a ∷ b ∷ c ∷ z ∷ []) h))
