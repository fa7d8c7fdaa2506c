-- The effect of the calls of a search in pieces, and of a walk over pieces, on what their cache knows.
use Rattle.std.specs.Prelude.{ℕ, suc, ◌≡◌, ◌^◌, ◌<◌, ◌≤◌, ◌+◌, ◌-◌, true, false, List, length, Option, None, Some}
use Rattle.std.specs.Prelude.{MatchOption, option_map}
use Rattle.automata_base.specs.Haystacks.Input.{Input}
use Rattle.automata_base.specs.Paths.Paths.{next as unit_at}
use Rattle.automata_base.specs.Powersets.Powerset.{Powerset, dead}
use Rattle.automata_base.specs.declared.util.search.Anchored.{Anchored}
use Rattle.automata_base.specs.declared.util.search.Direction.TheVariants.{Forward}
use Rattle.automata_base.specs.declared.util.search.MatchErrorKind.TheVariants.{GaveUp}
use Rattle.automata_config.specs.declared.error.SearchError.{SearchError}
use Rattle.automata_config.specs.declared.error.SearchError.TheVariants as search
use Rattle.automata_config.specs.declared.error.StartError.{StartError}
use Rattle.automata_config.specs.declared.error.StartError.TheVariants as start
use Rattle.automata_hybrid.specs.Steps.Events.{Step}
use Rattle.automata_hybrid.specs.Known.Effects.{asked_row}
use Rattle.automata_hybrid.specs.Known.Events.{after_event}
use Rattle.automata_hybrid.specs.Known.Known.{Known, begun, ended, moved}
use Rattle.automata_hybrid.specs.Known.Passes.{ReadFails, after_many}
use Rattle.automata_hybrid.specs.Known.Steps.{IsStartRun, StartFails}
use Rattle.automata_hybrid.specs.Known.Walks.{IsNotRestored, with_restored_row}
use Rattle.automata_hybrid.specs.Machines.Machine.{Machine, quits_on}
use Rattle.automata_hybrid.specs.Pieces.State.{PiecesView}
use Rattle.automata_hybrid.specs.Searches.Passes.{HasReadNoQuit, Skips, given_up_offset, tape_in}
use Rattle.automata_hybrid.specs.Searches.PieceRuns.{ReadsAlong, piece_input, piece_state, piece_trace}
use Rattle.automata_hybrid.specs.Searches.Traces.{Trace}
use Rattle.automata_hybrid.specs.declared.search.pieces.BeginError.{BeginError}
use Rattle.automata_hybrid.specs.declared.search.pieces.BeginError.TheVariants as begin

-- why a search in pieces does not begin, if no offset is skipped
pub data FailsToBegin (m : Machine) (mode : Anchored) (behind : Option ℕ) (old new : Known) (e : StartError) :
    Type 0 where
  -- the start state fails
  LacksStart : StartFails m mode behind old new e → FailsToBegin m mode behind old new e
  -- it is there, but cannot be held, because it cannot be shared once more
  CannotHoldStart : IsStartRun m mode behind old new → e ≡ start.OutOfMemory → FailsToBegin m mode behind old new e

-- the effect of beginning a search in pieces on the cache, by the error that it returns, if any
abbrev pub IsBeginRun : Machine → Anchored → (behind : Option ℕ) → (old new : Known) → Option BeginError → Type 0
-- its start state is asked for
IsBeginRun m mode behind old new None = IsStartRun m mode behind old new
-- offsets are skipped, and nothing was asked for
IsBeginRun m mode behind old new (Some begin.Skips) = Skips m × (new ≡ old)
-- no offset is skipped, and it fails to begin
IsBeginRun m mode behind old new (Some (begin.Start e)) = (Skips m → ⊥) × FailsToBegin m mode behind old new e

-- why nothing that follows the byte at place `k` of a run along a trace can change what it finds
pub data AnswerStands (s : Trace) (input : Input) (k : ℕ) : Type 0 where
  -- the state after it is dead
  DiesThere : s.state (suc k) ≡ dead → AnswerStands s input k
  -- an earliest search has found a match
  FindsThere : input.earliest ≡ true → (s.reported (suc k) ≡ None → ⊥) → AnswerStands s input k

-- a run along a trace that has begun reads all bytes of its span
pub record ReadsAllAlong (s : Trace) (m : Machine) (input : Input) (begun new : Known) : Type 0 where
  -- none of them is a quit byte
  pub clean : HasReadNoQuit Forward m input (input.end - input.start)
  -- in an earliest search they report nothing
  pub nothing : input.earliest ≡ true → s.reported (input.end - input.start) ≡ None
  -- the state after them is not dead
  pub alive : s.state (input.end - input.start) ≡ dead → ⊥
  -- what is known after them, once the search has ended
  pub run :
      option_map (ended (given_up_offset Forward input (input.end - input.start)))
      (after_many s Forward m input 0 (input.end - input.start) begun)
      ≡ Some new

-- a run along a trace that has begun reads its bytes up to the one at place `k`, after which its answer is final
pub record ReadsUptoAlong (s : Trace) (m : Machine) (input : Input) (k : ℕ) (begun new : Known) : Type 0 where
  -- it reads that byte
  pub reads : ReadsAlong s input k
  -- none of the bytes up to it is a quit byte
  pub clean : HasReadNoQuit Forward m input (suc k)
  -- the answer is final
  pub over : AnswerStands s input k
  -- what is known after them, once the search has ended
  pub run :
      option_map (ended (given_up_offset Forward input k)) (after_many s Forward m input 0 (suc k) begun) ≡ Some new

-- a run along a trace that has begun fails at a byte: the offset of its error is counted from `base` bytes before the
-- first one
pub record FailsAlong (s : Trace) (m : Machine) (input : Input) (base : ℕ) (begun new : Known) (e : SearchError) :
    Type 0 where
  -- the place of the byte
  pub place : ℕ
  -- it reads the byte
  pub reads : ReadsAlong s input place
  -- none before it is a quit byte
  pub clean : HasReadNoQuit Forward m input place
  -- what the cache knows once the run has reached it
  pub mid : Known
  -- this is the effect of the bytes before it
  pub run : after_many s Forward m input 0 place begun ≡ Some mid
  -- it fails there
  pub fails :
      ReadFails m (s.state place) (unit_at (tape_in Forward input) place) (base + place) (base + place)
      (given_up_offset Forward input place) mid new e

-- a search continues from its current state, which is there or is restored, and begins at an offset
pub record GoesOn (m : Machine) (p : PiecesView) (q : Powerset) (at : ℕ) (old new : Known) : Type 0 where
  -- this was its current state
  pub from : p.state ≡ Some q
  -- what is known then
  pub begins : option_map (begun at) (with_restored_row m q old) ≡ Some new

-- a search continues from its current state over a piece, which counts as a search that begins at 0
pub record BeginsPiece (m : Machine) (piece : List ℕ) (p : PiecesView) (q : Powerset) (old new : Known) : Type 0 where
  -- it continues from that state
  pub goes_on : GoesOn m p q 0 old new
  -- the number of bytes fits in 64 bits
  pub fits : p.read + length piece < 2 ^ 64

-- all bytes of a piece are read from a state on
abbrev pub ReadsThrough : Machine → (piece : List ℕ) → PiecesView → Powerset → (begun new : Known) → Type 0
ReadsThrough m piece p q begun new =
    ReadsAllAlong (piece_trace m piece p.earliest q) m (piece_input piece p.earliest) begun new

-- the bytes of a piece are read up to the one at place `k`, after which the answer is final
abbrev pub ReadsPieceUpto :
    Machine → (piece : List ℕ) → PiecesView → Powerset → (k : ℕ) → (begun new : Known) → Type 0
ReadsPieceUpto m piece p q k begun new =
    ReadsUptoAlong (piece_trace m piece p.earliest q) m (piece_input piece p.earliest) k begun new

-- the effect of reading a piece on the search and on the cache, if it returns Ok
pub data PieceEnds (m : Machine) (piece : List ℕ) (p next : PiecesView) (old new : Known) : Type 0 where
  -- the answer of the search was final before, and nothing has changed
  AlreadyOver : p.state ≡ None → next ≡ p → new ≡ old → PieceEnds m piece p next old new
  -- all bytes of the piece are read
  Through :
      (q : Powerset) (begun : Known) → BeginsPiece m piece p q old begun → ReadsThrough m piece p q begun new
      → next.read ≡ p.read + length piece → PieceEnds m piece p next old new
  -- its bytes are read up to one after which the answer is final
  Upto :
      (q : Powerset) (begun : Known) (k : ℕ) → BeginsPiece m piece p q old begun
      → ReadsPieceUpto m piece p q k begun new → next.state ≡ None → next.read ≡ p.read + suc k
      → PieceEnds m piece p next old new

-- a search has failed at a byte of a piece
abbrev pub FailsAtByte :
    Machine → (piece : List ℕ) → PiecesView → Powerset → (begun new : Known) → SearchError → Type 0
FailsAtByte m piece p q begun new e =
    FailsAlong (piece_trace m piece p.earliest q) m (piece_input piece p.earliest) p.read begun new e

-- why a piece is not read, and the effect on the cache
pub data PieceFails (m : Machine) (piece : List ℕ) (p : PiecesView) (old new : Known) (e : SearchError) :
    Type 0 where
  -- the number of bytes does not fit in 64 bits
  TooLong :
      (q : Powerset) → p.state ≡ Some q → with_restored_row m q old ≡ Some new → 2 ^ 64 ≤ p.read + length piece
      → e ≡ search.Match (GaveUp p.read) → PieceFails m piece p old new e
  -- the current state of the search is not restored
  NotRestored : (q : Powerset) → p.state ≡ Some q → IsNotRestored m q p.read old new e → PieceFails m piece p old new e
  -- the step on a byte of the piece fails
  AtByte :
      (q : Powerset) (begun : Known) → BeginsPiece m piece p q old begun → FailsAtByte m piece p q begun new e
      → PieceFails m piece p old new e
  -- the state after the piece cannot be held, because it cannot be shared once more
  NotHeld :
      (q : Powerset) (begun : Known) → BeginsPiece m piece p q old begun → ReadsThrough m piece p q begun new
      → e ≡ search.OutOfMemory → PieceFails m piece p old new e

-- the effect of reading a piece on the search and on what the cache knows, by the error that it returns, if any
abbrev pub IsPieceRun :
    Machine → (piece : List ℕ) → (p next : PiecesView) → (old new : Known) → Option SearchError → Type 0
IsPieceRun m piece p next old new error =
    MatchOption error (PieceEnds m piece p next old new) (PieceFails m piece p old new)

-- the effect of asking for the answer on the cache, if that returns Ok
pub data AnswerEnds (m : Machine) (ahead : Option ℕ) (p : PiecesView) (old new : Known) : Type 0 where
  -- the answer was final before, and nothing has changed
  Answered : p.state ≡ None → new ≡ old → AnswerEnds m ahead p old new
  -- the unit that follows, which is not a quit byte, is read, and the search ends there
  AtEnd :
      (q : Powerset) (begun : Known) → GoesOn m p q p.read old begun → quits_on m ahead ≡ false
      → option_map (ended p.read) (after_event m (Step q ahead) (moved p.read begun) begun) ≡ Some new
      → AnswerEnds m ahead p old new

-- why there is no answer, and the effect on the cache
pub data AnswerFails (m : Machine) (ahead : Option ℕ) (p : PiecesView) (old new : Known) (e : SearchError) :
    Type 0 where
  -- the current state of the search is not restored
  EndNotRestored :
      (q : Powerset) → p.state ≡ Some q → IsNotRestored m q p.read old new e → AnswerFails m ahead p old new e
  -- reading the unit that follows fails
  FailsAtEnd :
      (q : Powerset) (begun : Known) → GoesOn m p q p.read old begun
      → ReadFails m q ahead p.read p.read p.read begun new e → AnswerFails m ahead p old new e

-- the effect of asking for the answer on what the cache knows, by the error that it returns, if any
abbrev pub IsAnswerRun : Machine → (ahead : Option ℕ) → PiecesView → (old new : Known) → Option SearchError → Type 0
IsAnswerRun m ahead p old new error =
    MatchOption error (AnswerEnds m ahead p old new) (AnswerFails m ahead p old new)

-- the effect of a call of a walk over a piece on the walk and on the cache, if it returns Ok
pub data WalkCallEnds (m : Machine) (piece : List ℕ) (w next : PiecesView) (old new : Known) : Type 0 where
  -- nothing could match before the call, and nothing has changed
  AlreadyDone : w.state ≡ None → next ≡ w → new ≡ old → WalkCallEnds m piece w next old new
  -- all bytes of the piece are read
  WalksThrough :
      (q : Powerset) (begun : Known) → BeginsPiece m piece w q old begun → ReadsThrough m piece w q begun new
      → next.read ≡ w.read + length piece → WalkCallEnds m piece w next old new
  -- they are read up to one at which patterns match, or after which nothing can match
  WalksUpto :
      (q : Powerset) (begun : Known) (i : ℕ) → BeginsPiece m piece w q old begun
      → ReadsPieceUpto m piece w q i begun new → next.read ≡ w.read + suc i → WalkCallEnds m piece w next old new

-- why a call of a walk fails, and the effect on the cache
pub data WalkCallFails (m : Machine) (piece : List ℕ) (w : PiecesView) (old new : Known) (e : SearchError) :
    Type 0 where
  -- it fails as an earliest search in pieces does
  AsSearch : PieceFails m piece w old new e → WalkCallFails m piece w old new e
  -- the state at the match, which is not dead, cannot be held, because it cannot be shared once more
  NotHeldAt :
      (q : Powerset) (begun : Known) (i : ℕ) → BeginsPiece m piece w q old begun
      → ReadsPieceUpto m piece w q i begun new → (piece_state m piece q (suc i) ≡ dead → ⊥)
      → e ≡ search.OutOfMemory → WalkCallFails m piece w old new e

-- the effect of a call of a walk over a piece on the walk and on what the cache knows, by the error that it returns, if
-- any
abbrev pub IsWalkCallRun :
    Machine → (piece : List ℕ) → (w next : PiecesView) → (old new : Known) → Option SearchError → Type 0
IsWalkCallRun m piece w next old new error =
    MatchOption error (WalkCallEnds m piece w next old new) (WalkCallFails m piece w old new)

-- why asking for the end of a walk fails, and the effect on the cache
pub data WalkEndFails (m : Machine) (ahead : Option ℕ) (w : PiecesView) (old new : Known) (e : SearchError) :
    Type 0 where
  -- it fails as asking a search in pieces for its answer does
  AsForAnswer : AnswerFails m ahead w old new e → WalkEndFails m ahead w old new e
  -- the state at the end, which is not dead, cannot be held, because it cannot be shared once more
  CannotHoldEnd :
      (q : Powerset) → w.state ≡ Some q → AnswerEnds m ahead w old new
      → ((asked_row m (Step q ahead)).state ≡ dead → ⊥)
      → e ≡ search.OutOfMemory → WalkEndFails m ahead w old new e

-- the effect of asking for the end of a walk on what the cache knows, by the error that it returns, if any
abbrev pub IsWalkEndRun :
    Machine → (ahead : Option ℕ) → PiecesView → (old new : Known) → Option SearchError → Type 0
IsWalkEndRun m ahead w old new error =
    MatchOption error (AnswerEnds m ahead w old new) (WalkEndFails m ahead w old new)
