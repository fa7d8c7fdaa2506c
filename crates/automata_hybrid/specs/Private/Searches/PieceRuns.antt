-- How a run over a piece ends, and how it fails at a byte.
use Rattle.std.specs.Prelude.{ℕ, suc, ◌+◌, Bool, List, ◌≡◌, ◌-◌, Option, Result, Ok, Err}
use Rattle.automata_base.specs.Haystacks.Input.{Input}
use Rattle.automata_base.specs.Powersets.Powerset.{Powerset}
use Rattle.automata_base.specs.declared.util.search.Direction.TheVariants.{Forward}
use Rattle.automata_base.specs.declared.util.search.MatchErrorKind.TheVariants.{Quit as QuitAt, GaveUp}
use Rattle.automata_base.specs.Haystacks.Matches.{HalfMatch}
use Rattle.automata_config.specs.declared.error.SearchError.{SearchError}
use Rattle.automata_config.specs.declared.error.SearchError.TheVariants as search
use Rattle.automata_hybrid.specs.Cache.Caches.{CacheView}
use Rattle.automata_hybrid.specs.Cache.Table.{Leads, Names}
use Rattle.automata_hybrid.specs.Known.Known.{Known, begun}
use Rattle.automata_hybrid.specs.Known.Pieces.{FailsAlong, ReadsAllAlong, ReadsUptoAlong}
use Rattle.automata_hybrid.specs.Known.Stores.{known_of}
use Rattle.automata_hybrid.specs.Machines.Machine.{Machine}
use Rattle.automata_hybrid.specs.Searches.Traces.{Trace}
use Rattle.automata_hybrid.specs.declared.search.pieces.PieceEnd.{PieceEnd}
use Rattle.automata_hybrid.specs.declared.search.pieces.PieceEnd.TheVariants.{Over, At}
use Rattle.automata_hybrid.specs.Searches.PieceRuns.{piece_input, piece_trace}
use Rattle.automata_hybrid.specs.Searches.PassState.{IsAtAlong, half_of}

-- a run along a trace that has begun ends with the byte at place `k`, whatever comes after it
pub record IsOverAlong (s : Trace) (m : Machine) (input : Input) (k id : ℕ) (found : Option HalfMatch)
    (begun : Known) (new : CacheView) : Type 0 where
  -- the bytes up to it are read
  pub upto : ReadsUptoAlong s m input k begun (known_of new)
  -- what was found is what they report
  pub reported : found ≡ half_of Forward input (s.reported (suc k))
  -- the ID leads to the state after them
  pub leads : Leads new.store.table id (s.state (suc k))

-- a run along a trace that has begun has read all bytes of the span
pub record IsThroughAlong (s : Trace) (m : Machine) (input : Input) (id : ℕ) (found : Option HalfMatch)
    (begun : Known) (new : CacheView) : Type 0 where
  -- they are read
  pub all : ReadsAllAlong s m input begun (known_of new)
  -- the ID names the state after them, and they report what was found
  pub at : IsAtAlong s Forward m new.store.table input (input.end - input.start) id found

-- how a run along a trace that has begun ends
abbrev pub IsEndAlong : Trace → Machine → Input → (begun : Known) → (new : CacheView) → PieceEnd → Type 0
IsEndAlong s m input begun new (Over k id found) = IsOverAlong s m input k id found begun new
IsEndAlong s m input begun new (At id found) = IsThroughAlong s m input id found begun new

-- how a run over a piece that begins at the state of an ID ends
abbrev pub IsPieceEnd :
    Machine → (piece : List ℕ) → (earliest : Bool) → (from : ℕ) → (old new : CacheView) → PieceEnd → Type 0
IsPieceEnd m piece earliest from old new end =
    (q : Powerset) → Names old.store.table from q
    → IsEndAlong (piece_trace m piece earliest q) m (piece_input piece earliest) (begun 0 (known_of old)) new end

-- a run over a piece fails at a byte: the error has the byte's offset, counted from `base` bytes before the piece
abbrev pub PieceFailsAtUnit :
    Machine → (piece : List ℕ) → (earliest : Bool) → (from base : ℕ) → (old new : CacheView) → SearchError → Type 0
PieceFailsAtUnit m piece earliest from base old new e =
    (q : Powerset) → Names old.store.table from q
    → FailsAlong (piece_trace m piece earliest q) m (piece_input piece earliest) base (begun 0 (known_of old))
    (known_of new) e

-- what a run over a piece that begins at the state of an ID returns: how it ends, or why it fails
abbrev pub IsPieceResult :
    Machine → (piece : List ℕ) → (earliest : Bool) → (from base : ℕ) → (old new : CacheView)
    → Result PieceEnd SearchError → Type 0
IsPieceResult m piece earliest from base old new (Ok end) = IsPieceEnd m piece earliest from old new end
IsPieceResult m piece earliest from base old new (Err e) = PieceFailsAtUnit m piece earliest from base old new e

-- what a run along a trace that has begun returns: how it ends, or why it fails
abbrev pub IsRunResult :
    Trace → Machine → Input → (begun : Known) → (new : CacheView) → Result PieceEnd SearchError → Type 0
IsRunResult s m input begun new (Ok end) = IsEndAlong s m input begun new end
IsRunResult s m input begun new (Err e) = FailsAlong s m input input.start begun (known_of new) e

-- an error with its offset counted from `base` bytes before
abbrev pub error_from : (base : ℕ) → SearchError → SearchError
error_from base (search.Match (QuitAt byte offset)) = search.Match (QuitAt byte (base + offset))
error_from base (search.Match (GaveUp offset)) = search.Match (GaveUp (base + offset))
error_from base e = e

-- the offset of an error, if it has one, satisfies `Is`
abbrev pub HasOffset : (Is : ℕ → Type 0) → SearchError → Type 0
HasOffset Is (search.Match (QuitAt byte offset)) = Is offset
HasOffset Is (search.Match (GaveUp offset)) = Is offset
HasOffset Is e = Unit {0}
