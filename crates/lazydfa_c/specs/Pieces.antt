-- Contracts of the calls of a search in pieces, each stated by the cache before and after the call and by the status.
use Rattle.std.specs.Prelude.{ℕ, ◌≡◌, Bool, List, Option, Some, None}
use Rattle.std.specs.Prelude.{Result, Ok, Err, OnOk, OnErr, IfOk}
use Rattle.std.specs.Result.{result_err}
use Rattle.automata_base.specs.Haystacks.StartConfig.{StartConfig}
use Rattle.automata_config.specs.declared.error.SearchError.{SearchError}
use Rattle.automata_hybrid.specs.Pieces.Answers.{EndsHere, HasBegun, ReadsOn}
use Rattle.automata_hybrid.specs.Known.Pieces.{IsAnswerRun, IsBeginRun, IsPieceRun}
use Rattle.automata_hybrid.specs.Pieces.State.{PiecesView}
use Rattle.automata_hybrid.specs.declared.search.pieces.BeginError.{BeginError}
use Rattle.regex_automata.specs.Promises.{HalfMatch, Machine, known_of}
use Rattle.lazydfa_c.specs.Calls.{IsDoneTold, IsTold, regex_of}
use Rattle.lazydfa_c.specs.Requests.{found_half}
use Rattle.lazydfa_c.specs.Statuses.{begin_status, plain}
use Rattle.lazydfa_c.specs.Streams.{StreamView, done_in}
use Rattle.lazydfa_c.specs.declared.code.Code.TheVariants as code
use Rattle.lazydfa_c.specs.declared.input.FoundHalf.{FoundHalf}
use Rattle.lazydfa_c.specs.declared.object.InPieces.{InPieces}
use Rattle.lazydfa_c.specs.declared.object.Searcher.{Searcher}
use Rattle.lazydfa_c.specs.declared.status.Status.{Status}

-- a call with the value that numbers from C encode; if they encode none, nothing changes, and `Code::Argument` is
-- reported
abbrev pub OfNumbers :
    {A : Type 0} → (Does : A → Searcher → Searcher → Status → Type 0)
    → Option A → Searcher → Searcher → Status → Type 0
OfNumbers Does None s t status = (t ≡ s) × (status ≡ plain code.Argument)
OfNumbers Does (Some x) s t status = Does x s t status

-- a call on the search in pieces of a cache, or on its walk; without one, nothing changes, and that is reported
abbrev pub OfPieces :
    {V : Type 0} → (Does : V → Searcher → Searcher → Status → Type 0)
    → Option V → Searcher → Searcher → Status → Type 0
OfPieces Does None s t status = (t ≡ s) × (status ≡ plain code.NotBegun)
OfPieces Does (Some v) s t status = Does v s t status

-- a search that was begun is stored in a cache
pub data IsSearchPut (m : Machine) (p : PiecesView) (old new : InPieces) (status : Status) : Type 0 where
  -- the cache has this search
  HasSearch :
      new ≡ record old { search = Some (record { machine = m; pieces = p }) } → status ≡ plain code.Done
      → IsSearchPut m p old new status
  -- the allocation that shares the regex failed: the cache keeps its previous search
  CannotShare : new ≡ old → status ≡ plain code.Memory → IsSearchPut m p old new status

-- a cache has the search that was begun; if it was not begun, or cannot share the regex, the cache keeps the previous
-- one
abbrev pub IsBegun : Machine → Result PiecesView BeginError → (old new : InPieces) → Status → Type 0
IsBegun m (Ok p) old new status = IsSearchPut m p old new status
IsBegun m (Err e) old new status = (new ≡ old) × (status ≡ begin_status e)

-- `lazydfa_pieces_begin`: the result of the forward DFA's `DFA::begin_pieces`; the reverse cache is unchanged
pub record BeginsPieces (earliest : Bool) (start : StartConfig) (s t : Searcher) (status : Status) : Type 0 where
  -- what `DFA::begin_pieces` returns
  pub result : Result PiecesView BeginError
  -- the status reports the result, and the cache has the search
  pub told : IsBegun (regex_of s).forward result s.pieces t.pieces status
  -- what the call promises of the search
  pub begun : IfOk result (HasBegun (regex_of s).forward start.anchored start.look_behind earliest)
  -- the effect of the call on the forward cache, also if it failed
  pub effect :
      IsBeginRun (regex_of s).forward start.anchored start.look_behind (known_of s.cache.forward)
      (known_of t.cache.forward) (result_err result)
  -- the reverse cache is unchanged
  pub reverse : t.cache.reverse ≡ s.cache.reverse
  -- the cache keeps its regex
  pub same : t.shared ≡ s.shared

-- `lazydfa_pieces_read`: the result of the forward DFA's `DFA::read_piece`; the reverse cache is unchanged
pub record ReadsPiece (piece : List ℕ) (stream : StreamView) (s t : Searcher) (status : Status) : Type 0 where
  -- the search after the call
  pub next : StreamView
  -- the cache has this search, and its walk is unchanged
  pub has : t.pieces ≡ record s.pieces { search = Some next }
  -- what `DFA::read_piece` returns
  pub result : Result (Unit {0}) SearchError
  -- the status reports whether it failed, and why
  pub told : IsDoneTold result status
  -- if it did not fail, the search has also read the bytes of the piece
  pub reads : OnOk result (ReadsOn (regex_of s).forward piece stream.pieces next.pieces)
  -- if it failed, the search is unchanged
  pub unchanged : OnErr result (next.pieces ≡ stream.pieces)
  -- the effect of the call on the search and on the forward cache, also if it failed
  pub effect :
      IsPieceRun (regex_of s).forward piece stream.pieces next.pieces (known_of s.cache.forward)
      (known_of t.cache.forward) (result_err result)
  -- the reverse cache is unchanged, and the cache keeps its regex
  pub rest : (t.cache.reverse ≡ s.cache.reverse) × (t.shared ≡ s.shared)

-- `lazydfa_pieces_end`: the result of the forward DFA's `DFA::end_pieces`; the search and the reverse cache are
-- unchanged
pub record EndsPieces (found : FoundHalf) (ahead : Option ℕ) (stream : StreamView) (s t : Searcher) (status : Status)
    : Type 0 where
  -- the result of `DFA::end_pieces`: the pattern and the end of a match, or no match
  pub result : Result (Option HalfMatch) SearchError
  -- the status reports the result, and a match is written
  pub told : IsTold found_half found result status
  -- if it did not fail, it is what a search of the whole haystack returns
  pub answer : IfOk result (EndsHere (regex_of s).forward stream.pieces ahead)
  -- the effect of the call on the forward cache, also if it failed
  pub effect :
      IsAnswerRun (regex_of s).forward ahead stream.pieces (known_of s.cache.forward) (known_of t.cache.forward)
      (result_err result)
  -- the reverse cache is unchanged
  pub reverse : t.cache.reverse ≡ s.cache.reverse
  -- the cache keeps its regex
  pub same : t.shared ≡ s.shared
  -- its search and its walk in pieces are unchanged
  pub pieces : t.pieces ≡ s.pieces

-- `lazydfa_pieces_begin` with the start configuration that its numbers encode
abbrev pub BeginsBy : (earliest : Bool) → Option StartConfig → (s t : Searcher) → Status → Type 0
BeginsBy earliest start s t status = OfNumbers (BeginsPieces earliest) start s t status

-- `lazydfa_pieces_read` over a cache, with or without a search in pieces, and whether its result is then final
abbrev pub ReadsIn : (piece : List ℕ) → (done : ℕ) → (s t : Searcher) → Status → Type 0
ReadsIn piece done s t status =
    OfPieces (ReadsPiece piece) s.pieces.search s t status × (done ≡ done_in t.pieces.search)

-- `lazydfa_pieces_end` over a cache, with or without a search in pieces
abbrev pub EndsIn : FoundHalf → (ahead : Option ℕ) → (s t : Searcher) → Status → Type 0
EndsIn found ahead s t status = OfPieces (EndsPieces found ahead) s.pieces.search s t status
