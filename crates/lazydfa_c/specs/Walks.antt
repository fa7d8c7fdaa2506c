-- Contracts of the calls of a walk in pieces, each stated by the cache before and after the call and by the status.
use Rattle.std.specs.Prelude.{ℕ, ◌≡◌, List, Option, Some, None, length, slice_get}
use Rattle.std.specs.Prelude.{Result, Ok, Err, IfOk, IsSomeAnd, OnErr}
use Rattle.std.specs.Result.{result_err}
use Rattle.automata_base.specs.Haystacks.StartConfig.{StartConfig}
use Rattle.automata_config.specs.declared.error.SearchError.{SearchError}
use Rattle.automata_hybrid.specs.Known.Pieces.{IsBeginRun, IsWalkCallRun, IsWalkEndRun}
use Rattle.automata_hybrid.specs.Pieces.State.{PiecesView}
use Rattle.automata_hybrid.specs.Pieces.Walks.{EndsWith, HasBegunWalk, IsWalked}
use Rattle.automata_hybrid.specs.declared.search.pieces.BeginError.{BeginError}
use Rattle.regex_automata.specs.Promises.{Machine, known_of}
use Rattle.lazydfa_c.specs.Calls.{regex_of}
use Rattle.lazydfa_c.specs.Pieces.{OfNumbers, OfPieces}
use Rattle.lazydfa_c.specs.Statuses.{begin_status, plain, search_status}
use Rattle.lazydfa_c.specs.Stops.{nowhere, stop_of, stop_status}
use Rattle.lazydfa_c.specs.Streams.{WalkView, listed}
use Rattle.lazydfa_c.specs.declared.code.Code.TheVariants as code
use Rattle.lazydfa_c.specs.declared.object.InPieces.{InPieces}
use Rattle.lazydfa_c.specs.declared.object.Searcher.{Searcher}
use Rattle.lazydfa_c.specs.declared.status.Status.{Status}
use Rattle.lazydfa_c.specs.declared.walk.Stop.{Stop}

-- a walk that was begun is stored in a cache
pub data IsWalkPut (m : Machine) (w : PiecesView) (old new : InPieces) (status : Status) : Type 0 where
  -- the cache has this walk
  HasWalk :
      new ≡ record old { walk = Some (record { machine = m; walk = w; end = None }) } → status ≡ plain code.Done
      → IsWalkPut m w old new status
  -- the allocation that shares the regex failed: the cache keeps its previous walk
  CannotShareWalk : new ≡ old → status ≡ plain code.Memory → IsWalkPut m w old new status

-- a cache has the walk that was begun; if it was not begun, or cannot share the regex, the cache keeps the previous one
abbrev pub IsBegunWalk : Machine → Result PiecesView BeginError → (old new : InPieces) → Status → Type 0
IsBegunWalk m (Ok w) old new status = IsWalkPut m w old new status
IsBegunWalk m (Err e) old new status = (new ≡ old) × (status ≡ begin_status e)

-- the position of a walk is written, and the status says whether patterns match there; after an error it is `nowhere`
abbrev pub IsStopTold : (stop : Stop) → Result ℕ SearchError → WalkView → Status → Type 0
IsStopTold stop (Ok read) walk status = (stop ≡ stop_of read walk) × (status ≡ stop_status (length (listed walk)))
IsStopTold stop (Err e) walk status = (stop ≡ nowhere) × (status ≡ search_status e)

-- `lazydfa_walk_begin`: the result of the forward DFA's `DFA::begin_walk`; the reverse cache is unchanged
pub record BeginsWalk (start : StartConfig) (s t : Searcher) (status : Status) : Type 0 where
  -- what `DFA::begin_walk` returns
  pub result : Result PiecesView BeginError
  -- the status reports the result, and the cache has the walk
  pub told : IsBegunWalk (regex_of s).forward result s.pieces t.pieces status
  -- what the call promises of the walk
  pub begun : IfOk result (HasBegunWalk (regex_of s).forward start.anchored start.look_behind)
  -- the effect of the call on the forward cache, also if it failed
  pub effect :
      IsBeginRun (regex_of s).forward start.anchored start.look_behind (known_of s.cache.forward)
      (known_of t.cache.forward) (result_err result)
  -- the reverse cache is unchanged
  pub reverse : t.cache.reverse ≡ s.cache.reverse
  -- the cache keeps its regex
  pub same : t.shared ≡ s.shared

-- `lazydfa_walk_read`: the result of the forward DFA's `DFA::walk_piece`; the reverse cache is unchanged
pub record WalksPiece (piece : List ℕ) (stop : Stop) (walk : WalkView) (s t : Searcher) (status : Status) : Type 0 where
  -- the walk after the call
  pub next : WalkView
  -- the cache has this walk, and its search is unchanged
  pub has : t.pieces ≡ record s.pieces { walk = Some next }
  -- the result of `DFA::walk_piece`: the number of bytes of the piece that were read
  pub result : Result ℕ SearchError
  -- the status reports the result, and the walk's position is written
  pub told : IsStopTold stop result next status
  -- if it did not fail, the walk is at the next match in the piece, or has read all of the piece
  pub walked : IfOk result (λ n. IsWalked (regex_of s).forward piece walk.walk next.walk n × (next.end ≡ None))
  -- if it failed, the walk is unchanged
  pub unchanged : OnErr result (next ≡ walk)
  -- the effect of the call on the walk and on the forward cache, also if it failed
  pub effect :
      IsWalkCallRun (regex_of s).forward piece walk.walk next.walk (known_of s.cache.forward)
      (known_of t.cache.forward) (result_err result)
  -- the reverse cache is unchanged, and the cache keeps its regex
  pub rest : (t.cache.reverse ≡ s.cache.reverse) × (t.shared ≡ s.shared)

-- `lazydfa_walk_end`: the result of the forward DFA's `DFA::end_walk`; the reverse cache is unchanged
pub record EndsWalk (ahead : Option ℕ) (stop : Stop) (walk : WalkView) (s t : Searcher) (status : Status) : Type 0 where
  -- what the walk lists after the call: if it did not fail, the patterns that match at the end
  pub end : Option (List ℕ)
  -- the cache has this walk, which is unchanged but for what it lists, and its search is unchanged
  pub has : t.pieces ≡ record s.pieces { walk = Some (record walk { end = end }) }
  -- the result of `DFA::end_walk`, with 0 for the number of bytes read
  pub result : Result ℕ SearchError
  -- the status reports the result, and the walk's position is written
  pub told : IsStopTold stop result (record walk { end = end }) status
  -- if it did not fail, the patterns are those that match at the end
  pub ends :
      IfOk result (λ n. (n ≡ 0) × IsSomeAnd end (EndsWith (regex_of s).forward walk.walk ahead))
  -- if it failed, the walk lists what it listed before
  pub unchanged : OnErr result (end ≡ walk.end)
  -- the effect of the call on the forward cache, also if it failed
  pub effect :
      IsWalkEndRun (regex_of s).forward ahead walk.walk (known_of s.cache.forward) (known_of t.cache.forward)
      (result_err result)
  -- the reverse cache is unchanged, and the cache keeps its regex
  pub rest : (t.cache.reverse ≡ s.cache.reverse) × (t.shared ≡ s.shared)

-- a pattern is written, or the status reports that there is none
abbrev pub IsPatternTold : Option ℕ → (written : ℕ) → Status → Type 0
IsPatternTold None written status = status ≡ plain code.Argument
IsPatternTold (Some pattern) written status = (written ≡ pattern) × (status ≡ plain code.Done)

-- `lazydfa_walk_pattern`: one of the patterns that a walk lists; nothing else changes
abbrev pub ListsPattern : (index written : ℕ) → WalkView → (s t : Searcher) → Status → Type 0
ListsPattern index written walk s t status = (t ≡ s) × IsPatternTold (slice_get (listed walk) index) written status

-- `lazydfa_walk_begin` with the start configuration that its numbers encode
abbrev pub BeginsWalkBy : Option StartConfig → (s t : Searcher) → Status → Type 0
BeginsWalkBy start s t status = OfNumbers BeginsWalk start s t status

-- a call of a walk over a cache; without a walk the position is `nowhere`
abbrev pub OfWalk :
    (Does : Stop → WalkView → Searcher → Searcher → Status → Type 0) → Stop → (s t : Searcher) → Status → Type 0
OfWalk Does stop s t status =
    OfPieces (Does stop) s.pieces.walk s t status × (s.pieces.walk ≡ None → stop ≡ nowhere)

-- `lazydfa_walk_read` over a cache, with or without a walk
abbrev pub WalksIn : (piece : List ℕ) → Stop → (s t : Searcher) → Status → Type 0
WalksIn piece stop s t status = OfWalk (WalksPiece piece) stop s t status

-- `lazydfa_walk_end` over a cache, with or without a walk
abbrev pub EndsWalkIn : (ahead : Option ℕ) → Stop → (s t : Searcher) → Status → Type 0
EndsWalkIn ahead stop s t status = OfWalk (EndsWalk ahead) stop s t status

-- `lazydfa_walk_pattern` over a cache, with or without a walk
abbrev pub ListsIn : (index written : ℕ) → (s t : Searcher) → Status → Type 0
ListsIn index written s t status = OfPieces (ListsPattern index written) s.pieces.walk s t status
