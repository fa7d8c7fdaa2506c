-- The effect of the calls of a search in pieces on what their cache knows, by the effect of their parts.
use Rattle.std.proofs.Common.{ℕ, ◌≡◌, ◌∙◌, ◌+◌, ◌<◌, ◌^◌, sym, ap, subst, arith, Bool, List, length, Option, Some}
use Rattle.automata_hybrid.proofs.Words.{after_event, begun, CacheView, ended, HalfMatch, known_of, Machine, moved}
use Rattle.automata_hybrid.proofs.Words.{Names, option_map, progress_finished, progress_started, ReadFails, SearchError}
use Rattle.automata_hybrid.proofs.Words.{Step, with_searched, with_store}
use Rattle.automata_hybrid.specs.Known.Pieces.{AtByte, AtEnd, AnswerEnds, BeginsPiece, FailsAtEnd, GoesOn, AnswerFails}
use Rattle.automata_hybrid.specs.Known.Pieces.{PieceFails}
use Rattle.automata_hybrid.specs.Pieces.State.{PiecesView}
use Rattle.automata_hybrid.specs.Private.Pieces.State.{HasResumed}
use Rattle.automata_hybrid.specs.Searches.PieceRuns.{piece_input, piece_trace}
use Rattle.automata_hybrid.specs.Private.Searches.PieceRuns.{IsEndAlong, IsOverAlong, IsPieceEnd, PieceFailsAtUnit}
use Rattle.automata_hybrid.specs.Private.Searches.PieceRuns.{IsThroughAlong}
use Rattle.automata_hybrid.specs.Private.Searches.Units.{FailsToRead, HasRead}
use Rattle.automata_hybrid.specs.declared.search.pieces.PieceEnd.{PieceEnd}
use Rattle.automata_hybrid.specs.declared.search.pieces.PieceEnd.TheVariants.{Over, At}

-- a search continues from its current state
module _ {m : Machine} {p : PiecesView} {old row : CacheView} {id : ℕ} (on : HasResumed m p old row id) where
  pub goes_on : (at : ℕ) → GoesOn m p on.state at (known_of old) (begun at (known_of row))
  goes_on at = record { from = on.stood; begins = ap (option_map (begun at)) on.back }

  -- it begins with a piece whose bytes can be counted
  pub begins_piece :
      (piece : List ℕ) (base : ℕ) → base ≡ p.read → base + length piece < 2 ^ 64
      → BeginsPiece m piece p on.state (known_of old) (begun 0 (known_of row))
  begins_piece piece base reads fits = record { goes_on = goes_on 0; fits = omega (arith, reads, fits) }

  -- it begins at the offset of the unit that follows
  module _ {begins : CacheView} {at : ℕ} (reads : at ≡ p.read)
      (begin : begins ≡ with_store row (with_searched row.store (progress_started row.store.searched at))) where
    pub named_there : Names begins.store.table id on.state
    named_there = subst (λ (v : CacheView). Names v.store.table id on.state) (sym begin) on.named

    begun_there : GoesOn m p on.state p.read (known_of old) (known_of begins)
    begun_there =
        subst (λ a. GoesOn m p on.state a (known_of old) (known_of begins)) reads
        (subst (GoesOn m p on.state at (known_of old)) (sym (ap known_of begin)) (goes_on at))

    -- that unit is read
    pub answer_ends :
        {ahead : Option ℕ} {next : ℕ} {mid new : CacheView} → HasRead m id ahead at begins mid next
        → new ≡ with_store mid (with_searched mid.store (progress_finished mid.store.searched at))
        → AnswerEnds m ahead p (known_of old) (known_of new)
    answer_ends {ahead} {next} {mid} {new} read end =
        AtEnd on.state (known_of begins) begun_there read.answer.clean
        (subst
        (λ a. option_map (ended a) (after_event m (Step on.state ahead) (moved a (known_of begins)) (known_of begins))
        ≡ Some (known_of new))
        reads
        (ap (option_map (ended at)) (read.taken on.state named_there)
        ∙ ap (λ (v : CacheView). Some (known_of v)) (sym end)))

    -- reading that unit fails
    pub answer_left :
        {ahead : Option ℕ} {e : SearchError} {new : CacheView} → FailsToRead m id ahead at at begins new e
        → AnswerFails m ahead p (known_of old) (known_of new) e
    answer_left {ahead} {e} {new} fails =
        FailsAtEnd on.state (known_of begins) begun_there
        (subst (λ a. ReadFails m on.state ahead a a a (known_of begins) (known_of new) e) reads
        (fails.fails on.state named_there))

  -- it reads a piece, or fails to
  module _ (piece : List ℕ) (new : CacheView) {earliest : Bool} (first : earliest ≡ p.earliest) where
    run_ends :
        (end : PieceEnd) → IsPieceEnd m piece earliest id row new end
        → IsEndAlong (piece_trace m piece p.earliest on.state) m (piece_input piece p.earliest)
        (begun 0 (known_of row)) new end
    run_ends end run = subst (λ e. IsPieceEnd m piece e id row new end) first run on.state on.named

    pub run_upto :
        (end : PieceEnd) {k last : ℕ} {found : Option HalfMatch} → IsPieceEnd m piece earliest id row new end
        → end ≡ Over k last found
        → IsOverAlong (piece_trace m piece p.earliest on.state) m (piece_input piece p.earliest) k last found
        (begun 0 (known_of row)) new
    run_upto end run over =
        subst
        (IsEndAlong (piece_trace m piece p.earliest on.state) m (piece_input piece p.earliest)
        (begun 0 (known_of row)) new)
        over (run_ends end run)

    pub run_through :
        (end : PieceEnd) {last : ℕ} {found : Option HalfMatch} → IsPieceEnd m piece earliest id row new end
        → end ≡ At last found
        → IsThroughAlong (piece_trace m piece p.earliest on.state) m (piece_input piece p.earliest) last found
        (begun 0 (known_of row)) new
    run_through end run through =
        subst
        (IsEndAlong (piece_trace m piece p.earliest on.state) m (piece_input piece p.earliest)
        (begun 0 (known_of row)) new)
        through (run_ends end run)

    pub run_left :
        {base : ℕ} {e : SearchError} → base ≡ p.read → base + length piece < 2 ^ 64
        → PieceFailsAtUnit m piece earliest id base row new e → PieceFails m piece p (known_of old) (known_of new) e
    run_left {base} {e} reads fits stopped =
        AtByte on.state (begun 0 (known_of row)) (begins_piece piece base reads fits)
        (subst (λ b. PieceFailsAtUnit m piece p.earliest id b row new e) reads
        (subst (λ v. PieceFailsAtUnit m piece v id base row new e) first stopped) on.state on.named)
