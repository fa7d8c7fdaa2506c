-- What follows from the effect of the calls of a search in pieces on their cache: which bytes of a piece are read.
use Rattle.std.proofs.Common.{ℕ, zero, suc, ◌≡◌, ◌<◌, ◌≤◌, ◌+◌, ◌⊎◌, inl, inr, Bool, true, false, List, length}
use Rattle.std.proofs.Common.{Option, Some, None, refl, ap, subst, ◌∙◌, arith, eq-or-lt_of_le}
use Rattle.automata_hybrid.proofs.Words.{dead, earlier_or, first_among, Forward, HasReadNoQuit, Input, is_quit, Machine}
use Rattle.automata_hybrid.proofs.Words.{next, Pair, pair_at, Powerset, quits_on, slice_get, successor, tape_in}
use Rattle.automata_determinize.proofs.Powersets.Alike.{dead_stays}
use Rattle.automata_base.proofs.Answers.Bytes.{forward_next}
use Rattle.automata_base.proofs.Paths.Orders.{some_none}
use Rattle.automata_base.specs.Haystacks.Tapes.{forward_tape}
use Rattle.automata_hybrid.proofs.Words.{match_kind_of}
use Rattle.automata_hybrid.specs.Known.Pieces.{AnswerStands, DiesThere, FindsThere}
use Rattle.automata_hybrid.specs.Searches.PieceRuns.{ReadsAlong, piece_input, piece_state, piece_trace}
use Rattle.automata_hybrid.specs.Searches.Passes.{reported_along}
use Rattle.automata_hybrid.proofs.Searches.PassState.{false_true}

-- no unit of a piece is a quit byte if none of its bytes is
pub piece_unit :
    (m : Machine) (piece : List ℕ) (e : Bool) (k : ℕ) → k < length piece
    → ((j byte : ℕ) → slice_get piece j ≡ Some byte → is_quit m.quits byte ≡ false)
    → quits_on m (next (tape_in Forward (piece_input piece e)) k) ≡ false
piece_unit m piece e k low clean =
    ap (quits_on m) (forward_next piece 0 (length piece) k (omega (arith, low)) (omega arith))
    ∙ go (slice_get piece (0 + k)) refl
  where
    go : (o : Option ℕ) → slice_get piece (0 + k) ≡ o → quits_on m (slice_get piece (0 + k)) ≡ false
    go None is = ap (quits_on m) is
    go (Some byte) is = ap (quits_on m) is ∙ clean (0 + k) byte is

-- fewer units have no quit byte either
pub clean_fewer :
    (m : Machine) (input : Input) (j k : ℕ) → j ≤ k → HasReadNoQuit Forward m input k → HasReadNoQuit Forward m input j
clean_fewer m input j k few clean i byte low unit = clean i byte (omega (arith, low, few)) unit

-- if the first `n` lists report nothing, fewer of them do not either
first_fewer : (R : ℕ → List ℕ) (k n : ℕ) → k ≤ n → first_among R n ≡ None → first_among R k ≡ None
first_fewer R k zero l none = let z : k ≡ 0 = omega (arith, l) in ap (first_among R) z ∙ none
first_fewer R k (suc n) l none =
    go (λ less. first_fewer R k n less (both (first_among R n) (R n) none)) (eq-or-lt_of_le l)
  where
    both : (o : Option Pair) (ps : List ℕ) → earlier_or o (pair_at ps n None) ≡ None → o ≡ None
    both None ps is = refl
    both (Some pair) ps is = absurd (some_none is)

    go : (k ≤ n → first_among R k ≡ None) → (k ≡ suc n) ⊎ (k < suc n) → first_among R k ≡ None
    go before (inl same) = ap (first_among R) same ∙ none
    go before (inr less) = before (omega (arith, less))

-- the bytes of a piece that are read from a state on
module _ (m : Machine) (piece : List ℕ) (e : Bool) (q : Powerset) where
  -- a state after the dead state is dead
  dead_on : (k n : ℕ) → k ≤ n → piece_state m piece q k ≡ dead → piece_state m piece q n ≡ dead
  dead_on k zero l dies =
      let z : k ≡ 0 = omega (arith, l) in subst (λ i. piece_state m piece q i ≡ dead) z dies
  dead_on k (suc n) l dies = go (λ more. dead_on k n more dies) (eq-or-lt_of_le l) where
    go : (k ≤ n → piece_state m piece q n ≡ dead) → (k ≡ suc n) ⊎ (k < suc n) → piece_state m piece q (suc n) ≡ dead
    go before (inl same) = subst (λ i. piece_state m piece q i ≡ dead) same dies
    go before (inr less) =
        ap (λ p. successor m.nfa (match_kind_of m.config) p (next (forward_tape piece 0 (length piece)) n))
        (before (omega (arith, less)))
        ∙ dead_stays m.nfa (match_kind_of m.config) (next (forward_tape piece 0 (length piece)) n)

  -- an earliest search that has found nothing had found nothing before
  none_fewer :
      (early : Bool) → early ≡ true → (k n : ℕ) → k ≤ n
      → reported_along early (λ i. piece_state m piece q i) n ≡ None
      → reported_along early (λ i. piece_state m piece q i) k ≡ None
  none_fewer true is k n l none = first_fewer (λ i. (piece_state m piece q (suc i)).patterns) k n l none
  none_fewer false is k n l none = absurd (false_true is)

  -- if all bytes up to a place are read, so is each of them
  pub reads_fewer :
      (k n : ℕ) → k ≤ n → k < length piece → (piece_state m piece q n ≡ dead → ⊥)
      → (e ≡ true → (piece_trace m piece e q).reported n ≡ None)
      → ReadsAlong (piece_trace m piece e q) (piece_input piece e) k
  reads_fewer k n l low alive nothing = (
    omega (arith, low),
    λ dies. alive (dead_on k n l dies),
    λ early. none_fewer e early k n l (nothing early),
  )

  -- no byte is read after one after which the answer is final
  pub stops_after :
      (k j : ℕ) → k < j → AnswerStands (piece_trace m piece e q) (piece_input piece e) k
      → ReadsAlong (piece_trace m piece e q) (piece_input piece e) j → ⊥
  stops_after k j l (DiesThere dies) reads = reads.1 (dead_on (suc k) j (omega (arith, l)) dies)
  stops_after k j l (FindsThere early some) reads =
      some (none_fewer e early (suc k) j (omega (arith, l)) (reads.2 early))
