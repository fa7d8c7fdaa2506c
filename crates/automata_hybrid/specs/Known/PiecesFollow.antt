-- What follows from the effect of the calls of a search in pieces, and of a walk over pieces, on what a cache knows.
use Rattle.std.specs.Prelude.{ℕ, suc, ◌≡◌, ◌+◌, ◌^◌, ◌<◌, ◌≤◌, ◌⊎◌, Bool, true, false, List, length, Option, None, Some}
use Rattle.std.specs.Prelude.{IfNone, IfSome, slice_get}
use Rattle.automata_base.specs.Powersets.Powerset.{Powerset}
use Rattle.automata_base.specs.declared.util.search.Direction.TheVariants.{Forward}
use Rattle.automata_base.specs.declared.util.search.MatchErrorKind.TheVariants.{GaveUp}
use Rattle.automata_config.specs.Options.{minimum_cache_clear_count_of}
use Rattle.automata_config.specs.declared.error.SearchError.{SearchError}
use Rattle.automata_config.specs.declared.error.SearchError.TheVariants as search
use Rattle.automata_hybrid.specs.Known.Bounds.{IsKnown}
use Rattle.automata_hybrid.specs.Known.Events.{is_cached}
use Rattle.automata_hybrid.specs.Known.Growth.{ClearedNothing, HasRoom, IsGrown, IsStill}
use Rattle.automata_hybrid.specs.Known.Known.{Known, counted}
use Rattle.automata_hybrid.specs.Known.Pieces.{IsAnswerRun, IsPieceRun, IsWalkCallRun, IsWalkEndRun}
use Rattle.automata_hybrid.specs.Known.Walks.{has_its_row}
use Rattle.automata_hybrid.specs.Machines.Machine.{Machine, quits_on}
use Rattle.automata_hybrid.specs.Pieces.State.{IsPiecesOf, PiecesView}
use Rattle.automata_hybrid.specs.Searches.Contracts.{IsMemory, IsOfInput}
use Rattle.automata_hybrid.specs.Searches.Passes.{HasReadNoQuit}
use Rattle.automata_hybrid.specs.Searches.PieceRuns.{ReadsAlong, piece_input, piece_trace}
use Rattle.automata_hybrid.specs.Searches.Progress.{unit_event}
use Rattle.automata_hybrid.specs.Steps.Events.{Step}
use Rattle.automata_hybrid.specs.Walks.State.{At}
use Rattle.automata_base.specs.ByteClasses.Classes.{is_quit}

-- only a lack of memory can prevent a piece from being read: it has no quit byte, its bytes can be counted, and no
-- limit on clears is set
pub record IsFreePiece (m : Machine) (piece : List ℕ) (p : PiecesView) : Type 0 where
  -- it has no quit byte
  pub clean : (k byte : ℕ) → slice_get piece k ≡ Some byte → is_quit m.quits byte ≡ false
  -- its bytes can be counted
  pub fits : p.read + length piece < 2 ^ 64
  -- no limit on clears is set
  pub clears : minimum_cache_clear_count_of m.config ≡ None

-- what a call costs that reads at most `units` units
pub record IsCostOfUnits (m : Machine) (units : ℕ) (p : PiecesView) (old new : Known) : Type 0 where
  -- it determinizes at most once for each unit
  pub cost : new.count ≤ old.count + units
  -- the cache has grown as by one more determinization than were made
  pub grown : IsGrown m old (counted new)
  -- if it had the row of the search's current state, it has grown as by those that were made
  pub there :
      ((q : Powerset) → p.state ≡ Some q → has_its_row old (At q) ≡ true) → IsGrown m old new
  -- nothing is cleared if there is room for as many states, and for the search's current state
  pub roomy : HasRoom m old (units + 1) → new.clears ≡ old.clears
  -- what the cache knows then still satisfies `IsKnown`
  pub sound : IsKnown m new

-- the transition on each byte of a piece that is read from a state on, before a quit byte, is cached
abbrev pub KnowsBytes : Machine → Known → (piece : List ℕ) → (earliest : Bool) → Powerset → Type 0
KnowsBytes m c piece earliest q =
    (k : ℕ) → ReadsAlong (piece_trace m piece earliest q) (piece_input piece earliest) k
    → HasReadNoQuit Forward m (piece_input piece earliest) (suc k)
    → is_cached m (unit_event (piece_trace m piece earliest q) Forward (piece_input piece earliest) k) c ≡ true

-- everything that reading a piece uses is cached: the row of the current state, and the transition on each byte that is
-- read
abbrev pub KnowsPiece : Machine → Known → (piece : List ℕ) → PiecesView → Type 0
KnowsPiece m c piece p =
    (q : Powerset) → p.state ≡ Some q → (has_its_row c (At q) ≡ true) × KnowsBytes m c piece p.earliest q

-- why a piece is not read although everything that this uses is cached
pub data IsKnownPieceError (piece : List ℕ) (p : PiecesView) (e : SearchError) : Type 0 where
  -- because of a quit byte
  IsQuitError : IsOfInput e → IsKnownPieceError piece p e
  -- the number of bytes does not fit in 64 bits
  IsLengthError :
      2 ^ 64 ≤ p.read + length piece → e ≡ search.Match (GaveUp p.read) → IsKnownPieceError piece p e
  -- the state at which it stops cannot be held, because it cannot be shared once more
  IsShareError : IsMemory e → IsKnownPieceError piece p e

-- what follows from reading a piece that returns this error, or none
pub record PieceFollows (m : Machine) (piece : List ℕ) (p next : PiecesView) (old new : Known)
    (error : Option SearchError) : Type 0 where
  -- it costs at most what all of its bytes cost
  pub cost : IsCostOfUnits m (length piece) p old new
  -- if it answers, it determinizes at most once for each byte that it has read
  pub read : IfNone error (new.count + p.read ≤ old.count + next.read)
  -- the only error is out of memory if nothing else can prevent the piece from being read
  pub memory : IsFreePiece m piece p → IfSome error IsMemory
  -- if it answers and nothing was cleared, everything that it used is cached
  pub learned : ClearedNothing old new → IfNone error (KnowsPiece m new piece p)
  -- if all of that was cached before, it fails only as `IsKnownPieceError` says, and changes only the progress
  pub known : KnowsPiece m old piece p → IsStill old new × IfSome error (IsKnownPieceError piece p)
  -- without a current state it returns Ok, and leaves the cache unchanged
  pub done : p.state ≡ None → (error ≡ None) × (new ≡ old)

-- what follows from reading a piece
abbrev pub PiecesFollow : Machine → Type 0
PiecesFollow m =
    (piece : List ℕ) (p next : PiecesView) (old new : Known) (error : Option SearchError)
    → IsKnown m old → IsPiecesOf p m → IsPieceRun m piece p next old new error
    → PieceFollows m piece p next old new error

-- what follows from a call of a walk over a piece, which reads it up to the next match
abbrev pub WalkPiecesFollow : Machine → Type 0
WalkPiecesFollow m =
    (piece : List ℕ) (w next : PiecesView) (old new : Known) (error : Option SearchError)
    → IsKnown m old → IsPiecesOf w m → IsWalkCallRun m piece w next old new error
    → PieceFollows m piece w next old new error

-- everything that asking for the answer uses is cached: the row of the current state, and the transition on the unit
-- that follows, unless that is a quit byte
abbrev pub KnowsAnswer : Machine → Known → (ahead : Option ℕ) → PiecesView → Type 0
KnowsAnswer m c ahead p =
    (q : Powerset) → p.state ≡ Some q
    → (has_its_row c (At q) ≡ true) × (quits_on m ahead ≡ false → is_cached m (Step q ahead) c ≡ true)

-- what follows from asking for the answer, which reads at most one unit: `Fails` says why there is none although
-- everything that this uses is cached
pub record AnswerFollows (Fails : SearchError → Type 0) (m : Machine) (ahead : Option ℕ) (p : PiecesView)
    (old new : Known) (error : Option SearchError) : Type 0 where
  -- it costs at most what one unit costs
  pub cost : IsCostOfUnits m 1 p old new
  -- the only error is out of memory if that unit is not a quit byte and no limit on clears is set
  pub memory : quits_on m ahead ≡ false → minimum_cache_clear_count_of m.config ≡ None → IfSome error IsMemory
  -- if there is an answer and nothing was cleared, everything that this used is cached
  pub learned : ClearedNothing old new → IfNone error (KnowsAnswer m new ahead p)
  -- if all of that was cached before, it fails only as `Fails` says, and changes only the progress
  pub known : KnowsAnswer m old ahead p → IsStill old new × IfSome error Fails
  -- without a current state it returns Ok, and leaves the cache unchanged
  pub done : p.state ≡ None → (error ≡ None) × (new ≡ old)

-- what follows from asking a search in pieces for its answer
abbrev pub PieceAnswersFollow : Machine → Type 0
PieceAnswersFollow m =
    (ahead : Option ℕ) (p : PiecesView) (old new : Known) (error : Option SearchError)
    → IsKnown m old → IsPiecesOf p m → IsAnswerRun m ahead p old new error
    → AnswerFollows IsOfInput m ahead p old new error

-- what follows from asking for the end of a walk: the state there may be one that cannot be held
abbrev pub WalkEndsFollow : Machine → Type 0
WalkEndsFollow m =
    (ahead : Option ℕ) (w : PiecesView) (old new : Known) (error : Option SearchError)
    → IsKnown m old → IsPiecesOf w m → IsWalkEndRun m ahead w old new error
    → AnswerFollows (λ e. IsOfInput e ⊎ IsMemory e) m ahead w old new error
