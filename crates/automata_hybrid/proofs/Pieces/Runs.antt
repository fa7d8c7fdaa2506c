-- A pass over an input whose span continues with a piece: where it is after the bytes of the piece, by a run over them.
use Rattle.std.proofs.Common.{ℕ, zero, suc, ◌≡◌, ◌<◌, ◌≤◌, ◌+◌, ◌-◌, ◌^◌, ◌⊎◌, inl, inr, Bool, true, false, List, []}
use Rattle.std.proofs.Common.{◌∷◌, length, Option, Some, None, refl, sym, ap, ap₂, ◌∙◌, subst, arith}
use Rattle.std.proofs.lemmas.Bool.{cases_lt}
use Rattle.automata_hybrid.proofs.Words.{earlier_or, first_among, Forward, half_of, HalfMatch, HasReadNoQuit, IfSome}
use Rattle.automata_hybrid.proofs.Words.{Input, is_quit, Machine, match_kind_of, next, Pair, pair_at, Powerset}
use Rattle.automata_hybrid.proofs.Words.{reported_in, slice_get, state_in, successor, tape_in}
use Rattle.automata_base.specs.Haystacks.Tapes.{forward_tape}
use Rattle.automata_determinize.specs.Retraced.Passes.{last_among}
use Rattle.automata_base.proofs.Answers.Bytes.{forward_next, nth_between}
use Rattle.automata_hybrid.specs.Pieces.Answers.{IsPieceAt, from_first}
use Rattle.automata_hybrid.specs.Private.Pieces.State.{found_in}
use Rattle.automata_hybrid.specs.Searches.PieceRuns.{piece_input, piece_state, piece_trace}
use Rattle.automata_hybrid.specs.Searches.Passes.{reported_along}
use Rattle.automata_hybrid.proofs.Searches.PassState.{state_more}
use Rattle.automata_hybrid.proofs.Searches.Traces.{half_of_none, earlier_none}

-- a pair with `n` added to its place
abbrev pub shifted : ℕ → Option Pair → Option Pair
shifted n None = None
shifted n (Some pair) = Some (record { pattern = pair.pattern; place = n + pair.place })

-- the last pair reported, by two parts of the units
last_split :
    (R S : ℕ → List ℕ) (n k : ℕ) → ((i : ℕ) → i < k → R (n + i) ≡ S i)
    → last_among R (n + k) ≡ earlier_or (shifted n (last_among S k)) (last_among R n)
last_split R S n zero same = let none : n + 0 ≡ n = omega arith in ap (last_among R) none
last_split R S n (suc k) same =
    let more : n + suc k ≡ suc (n + k) = omega arith in
    ap (last_among R) more
    ∙ (ap (λ ps. pair_at ps (n + k) (last_among R (n + k))) (same k (omega arith))
    ∙ (ap (pair_at (S k) (n + k)) (last_split R S n k (λ i l. same i (omega (arith, l)))) ∙ go (S k)))
  where
    go :
        (ps : List ℕ) → pair_at ps (n + k) (earlier_or (shifted n (last_among S k)) (last_among R n))
        ≡ earlier_or (shifted n (pair_at ps k (last_among S k))) (last_among R n)
    go [] = refl
    go (p ∷ ps) = refl

-- the first pair reported, by two parts of the units
first_split :
    (R S : ℕ → List ℕ) (n k : ℕ) → ((i : ℕ) → i < k → R (n + i) ≡ S i)
    → first_among R (n + k) ≡ earlier_or (first_among R n) (shifted n (first_among S k))
first_split R S n zero same =
    let none : n + 0 ≡ n = omega arith in ap (first_among R) none ∙ sym (earlier_none (first_among R n))
first_split R S n (suc k) same =
    let more : n + suc k ≡ suc (n + k) = omega arith in
    ap (first_among R) more
    ∙ (ap (λ ps. earlier_or (first_among R (n + k)) (pair_at ps (n + k) None)) (same k (omega arith))
    ∙ (ap (λ o. earlier_or o (pair_at (S k) (n + k) None)) (first_split R S n k (λ i l. same i (omega (arith, l))))
    ∙ go (first_among R n) (first_among S k) (S k)))
  where
    go :
        (a b : Option Pair) (ps : List ℕ) → earlier_or (earlier_or a (shifted n b)) (pair_at ps (n + k) None)
        ≡ earlier_or a (shifted n (earlier_or b (pair_at ps k None)))
    go (Some a) b ps = refl
    go None (Some b) ps = refl
    go None None [] = refl
    go None None (p ∷ ps) = refl

-- the pair found before the piece or in it: the first one for an earliest search, otherwise the last one
abbrev joined : Bool → (piece before : Option Pair) → Option Pair
joined true piece before = earlier_or before piece
joined false piece before = earlier_or piece before

abbrev half_with : (pattern offset : ℕ) → HalfMatch
half_with pattern offset = record { pattern = pattern; offset = offset }

-- a pair of the piece, as a half match
half_shifted :
    (input own : Input) (n : ℕ) (pair : Pair) (found : Option HalfMatch) → own.start ≡ 0
    → half_of Forward input (shifted n (Some pair))
    ≡ from_first input.start (found_in (half_of Forward own (Some pair)) n found)
half_shifted input own n pair found at_0 =
    let same : input.start + (n + pair.place) ≡ input.start + (n + (own.start + pair.place)) = omega (arith, at_0) in
    ap (λ (o : ℕ). Some (half_with pair.pattern o)) same

-- that pair as a half match: places in the piece are offsets in it
half_joined :
    (input own : Input) (n : ℕ) (e : Bool) (piece before : Option Pair) (found : Option HalfMatch) → own.start ≡ 0
    → from_first input.start found ≡ half_of Forward input before → (e ≡ true → found ≡ None)
    → half_of Forward input (joined e (shifted n piece) before)
    ≡ from_first input.start (found_in (half_of Forward own piece) n found)
half_joined input own n false None before found at_0 same first = sym same
half_joined input own n false (Some pair) before found at_0 same first = half_shifted input own n pair found at_0
half_joined input own n true piece before found at_0 same first =
    ap (λ o. half_of Forward input (earlier_or o (shifted n piece)))
    (half_of_none Forward input before (sym same ∙ ap (from_first input.start) (first refl)))
    ∙ go piece
  where
    go :
        (piece : Option Pair) → half_of Forward input (earlier_or None (shifted n piece))
        ≡ from_first input.start (found_in (half_of Forward own piece) n found)
    go None = sym (ap (from_first input.start) (first refl))
    go (Some pair) = half_shifted input own n pair found at_0

-- the span continues with a piece at place `n`, where the pass is in state `q`
module _ (m : Machine) (input : Input) (n : ℕ) (q : Powerset) (piece : List ℕ)
    (inside : input.end ≤ length input.haystack)
    (here : IsPieceAt input n piece) (at : q ≡ state_in Forward m input n) where
  -- the byte at a place
  unit_on : (k : ℕ) → k < length piece → next (tape_in Forward input) (n + k) ≡ slice_get piece k
  unit_on k l =
      let w : input.start + n + length piece ≤ input.end = here.within in
      let same : input.start + (n + k) ≡ input.start + n + k = omega arith in
      forward_next input.haystack input.start input.end (n + k) (omega (arith, w, l)) inside
      ∙ (ap (slice_get input.haystack) same
      ∙ (sym (nth_between input.haystack (input.start + n) (input.start + n + length piece) k (omega (arith, l)))
      ∙ sym (ap (λ xs. slice_get xs k) here.bytes)))

  unit_own : (k : ℕ) → k < length piece → next (forward_tape piece 0 (length piece)) k ≡ slice_get piece k
  unit_own k l =
      let same : 0 + k ≡ k = omega arith in
      forward_next piece 0 (length piece) k (omega (arith, l)) (omega arith) ∙ ap (slice_get piece) same

  -- the state after the first `k` bytes of the piece
  pub pass_state : (k : ℕ) → k ≤ length piece → state_in Forward m input (n + k) ≡ piece_state m piece q k
  pass_state zero l = let none : n + 0 ≡ n = omega arith in ap (state_in Forward m input) none ∙ sym at
  pass_state (suc k) l =
      let more : n + suc k ≡ suc (n + k) = omega arith in
      let low : k < length piece = omega (arith, l) in
      ap (state_in Forward m input) more
      ∙ (state_more Forward m input (n + k)
      ∙ ap₂ (successor m.nfa (match_kind_of m.config)) (pass_state k (omega (arith, l)))
      (unit_on k low ∙ sym (unit_own k low)))

  pub pass_next : (k : ℕ) → k < length piece → state_in Forward m input (suc (n + k)) ≡ piece_state m piece q (suc k)
  pass_next k l =
      let more : suc (n + k) ≡ n + suc k = omega arith in
      ap (state_in Forward m input) more ∙ pass_state (suc k) (omega (arith, l))

  reported_by :
      (e : Bool) (k : ℕ) → k ≤ length piece
      → reported_along e (λ i. state_in Forward m input i) (n + k)
      ≡ joined e (shifted n (reported_along e (λ i. piece_state m piece q i) k))
      (reported_along e (λ i. state_in Forward m input i) n)
  reported_by false k l =
      last_split (λ i. (state_in Forward m input (suc i)).patterns)
      (λ i. (piece_state m piece q (suc i)).patterns) n k
      (λ i low. ap (λ (p : Powerset). p.patterns) (pass_next i (omega (arith, low, l))))
  reported_by true k l =
      first_split (λ i. (state_in Forward m input (suc i)).patterns)
      (λ i. (piece_state m piece q (suc i)).patterns) n k
      (λ i low. ap (λ (p : Powerset). p.patterns) (pass_next i (omega (arith, low, l))))

  -- what the first `k` bytes of the piece report
  pub pass_found :
      (k : ℕ) (found : Option HalfMatch) → k ≤ length piece
      → from_first input.start found ≡ half_of Forward input (reported_in Forward m input n)
      → (input.earliest ≡ true → found ≡ None)
      → from_first input.start
      (found_in (half_of Forward (piece_input piece input.earliest) ((piece_trace m piece input.earliest q).reported k))
      n found)
      ≡ half_of Forward input (reported_in Forward m input (n + k))
  pass_found k found l same first =
      sym (half_joined input (piece_input piece input.earliest) n input.earliest
      (reported_along input.earliest (λ i. piece_state m piece q i) k) (reported_in Forward m input n) found refl same
      first)
      ∙ sym (ap (half_of Forward input) (reported_by input.earliest k l))

  -- none of the first `k` bytes of the piece is a quit byte
  pub pass_clean :
      (e : Bool) (k : ℕ) → k ≤ length piece → HasReadNoQuit Forward m input n
      → HasReadNoQuit Forward m (piece_input piece e) k
      → HasReadNoQuit Forward m input (n + k)
  pass_clean e k l before clean j byte low is = go (cases_lt j n) where
    go : (j < n) ⊎ (n ≤ j) → is_quit m.quits byte ≡ false
    go (inl less) = before j byte less is
    go (inr more) =
        let same : n + (j - n) ≡ j = omega (arith, more) in
        let few : j - n < k = omega (arith, more, low) in
        clean (j - n) byte few
        (unit_own (j - n) (omega (arith, few, l))
        ∙ (sym (unit_on (j - n) (omega (arith, few, l))) ∙ (ap (next (tape_in Forward input)) same ∙ is)))

-- the pairs of the first `k` units have places below `k`
last_below : (R : ℕ → List ℕ) (k : ℕ) → IfSome (last_among R k) (λ pair. pair.place < k)
last_below R zero = tt
last_below R (suc k) = go (R k) (last_among R k) (last_below R k) where
  go :
      (ps : List ℕ) (o : Option Pair) → IfSome o (λ pair. pair.place < k)
      → IfSome (pair_at ps k o) (λ pair. pair.place < suc k)
  go [] None low = tt
  go [] (Some pair) low = omega (arith, low)
  go (p ∷ ps) o low = omega arith

first_below : (R : ℕ → List ℕ) (k : ℕ) → IfSome (first_among R k) (λ pair. pair.place < k)
first_below R zero = tt
first_below R (suc k) = go (first_among R k) (R k) (first_below R k) where
  go :
      (o : Option Pair) (ps : List ℕ) → IfSome o (λ pair. pair.place < k)
      → IfSome (earlier_or o (pair_at ps k None)) (λ pair. pair.place < suc k)
  go (Some pair) ps low = omega (arith, low)
  go None [] low = tt
  go None (p ∷ ps) low = omega arith

-- so the offset of a match in a piece, counted from the first piece, fits in 64 bits
pub found_fits :
    (e : Bool) (state : ℕ → Powerset) (k : ℕ) (piece : List ℕ) (base : ℕ) (found : Option HalfMatch)
    → found ≡ half_of Forward (piece_input piece e) (reported_along e state k) → k ≤ length piece
    → base + length piece < 2 ^ 64 → IfSome found (λ half. base + half.offset < 2 ^ 64)
found_fits e state k piece base found same within room =
    subst (λ (o : Option HalfMatch). IfSome o (λ half. base + half.offset < 2 ^ 64)) (sym same) (go e)
  where
    fits :
        (e : Bool) (o : Option Pair) → IfSome o (λ pair. pair.place < k)
        → IfSome (half_of Forward (piece_input piece e) o) (λ half. base + half.offset < 2 ^ 64)
    fits e None low = tt
    fits e (Some pair) low = omega (arith, low, within, room)

    go : (e : Bool) → IfSome (half_of Forward (piece_input piece e) (reported_along e state k))
        (λ half. base + half.offset < 2 ^ 64)
    go true = fits true (first_among (λ i. (state (suc i)).patterns) k) (first_below (λ i. (state (suc i)).patterns) k)
    go false = fits false (last_among (λ i. (state (suc i)).patterns) k) (last_below (λ i. (state (suc i)).patterns) k)
