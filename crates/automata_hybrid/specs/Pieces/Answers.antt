-- What a search in pieces answers for each input whose span begins with the pieces.
use Rattle.std.specs.Prelude.{ℕ, ◌≡◌, ◌+◌, ◌-◌, ◌≤◌, Bool, List, length, true, Option, Some, None, Ok, slice_get}
use Rattle.automata_base.specs.Haystacks.Input.{Input}
use Rattle.automata_base.specs.Haystacks.Matches.{HalfMatch}
use Rattle.automata_base.specs.Haystacks.Tapes.{IsHaystack, between, byte_before}
use Rattle.automata_base.specs.Powersets.Powerset.{Powerset}
use Rattle.automata_base.specs.declared.util.search.Anchored.{Anchored}
use Rattle.automata_base.specs.declared.util.search.Direction.TheVariants.{Forward}
use Rattle.automata_hybrid.specs.Machines.Machine.{Machine}
use Rattle.automata_hybrid.specs.Pieces.State.{PiecesView}
use Rattle.automata_hybrid.specs.Searches.Contracts.{IsHalf}
use Rattle.automata_hybrid.specs.Searches.PassContracts.{IsPassAnswer}
use Rattle.automata_hybrid.specs.Searches.PassState.{half_of}
use Rattle.automata_hybrid.specs.Searches.Passes.{HasReadNoQuit, IsFound, Skips, WithoutBase, reported_in, state_in}
use Rattle.automata_hybrid.specs.Searches.Passes.{tape_in}
use Rattle.automata_hybrid.specs.Steps.Starts.{MayStart}

-- a half match with an offset in a haystack, where the first piece begins at offset `first`
abbrev pub from_first : ℕ → Option HalfMatch → Option HalfMatch
from_first first None = None
from_first first (Some half) = Some (record { pattern = half.pattern; offset = first + half.offset })

-- the piece is the part of an input's span from a place on
pub record IsPieceAt (input : Input) (place : ℕ) (piece : List ℕ) : Type 0 where
  -- it lies in the span
  pub within : input.start + place + length piece ≤ input.end
  -- its bytes are those of the haystack
  pub bytes : piece ≡ between input.haystack (input.start + place) (input.start + place + length piece)

-- a search is at a state after the first `n` bytes of the span of an input
pub record StandsAfter (m : Machine) (input : Input) (n : ℕ) (q : Powerset) (p : PiecesView) : Type 0 where
  -- it has read these bytes
  pub read : p.read ≡ n
  -- they lie in the span
  pub within : input.start + n ≤ input.end
  -- the state is the state of a pass after them
  pub state : q ≡ state_in Forward m input n
  -- what it has found is what they report
  pub found : from_first input.start p.found ≡ half_of Forward input (reported_in Forward m input n)
  -- an earliest search has found nothing yet
  pub nothing : input.earliest ≡ true → p.found ≡ None
  -- none of them is a quit byte
  pub clean : HasReadNoQuit Forward m input n

-- a search was given the first `n` bytes of the span of an input: it is after them, or its answer is final
pub record WasGiven (m : Machine) (input : Input) (n : ℕ) (p : PiecesView) : Type 0 where
  -- no offset is skipped
  pub plain : Skips m → ⊥
  -- the span is not done
  pub undone : input.start ≤ input.end
  -- it ends in the haystack
  pub inside : input.end ≤ length input.haystack
  -- a search may start there
  pub may : MayStart m input.anchored (tape_in Forward input).before
  -- both end at their first match, or neither does
  pub early : p.earliest ≡ input.earliest
  -- if it has a current state, that is the one after these bytes
  pub stands : (q : Powerset) → p.state ≡ Some q → StandsAfter m input n q p
  -- if it has none, it has found what the whole span has
  pub answered : p.state ≡ None → IsPassAnswer Forward m input (from_first input.start p.found)

-- a search in pieces may be a search of this input: the span begins after this byte, in this anchored mode
pub record BeginsAfter (mode : Anchored) (behind : Option ℕ) (earliest : Bool) (input : Input) : Type 0 where
  -- the span is not done
  pub undone : input.start ≤ input.end
  -- it ends in the haystack
  pub inside : input.end ≤ length input.haystack
  -- the anchored mode is this one
  pub moded : input.anchored ≡ mode
  -- this byte is before the span, or no byte is
  pub follows : byte_before input.haystack input.start ≡ behind
  -- both end at their first match, or neither does
  pub early : input.earliest ≡ earliest

-- a search in pieces has begun
pub record HasBegun (m : Machine) (mode : Anchored) (behind : Option ℕ) (earliest : Bool) (p : PiecesView) :
    Type 0 where
  -- no offset is skipped
  pub plain : Skips m → ⊥
  -- for each input that it may be a search of, it was given no bytes yet
  pub given : (input : Input) → BeginsAfter mode behind earliest input → WasGiven m input 0 p
  -- it has read none
  pub read : p.read ≡ 0
  -- it has found nothing
  pub found : p.found ≡ None

-- a piece was read: if a search was given the bytes of an input before the piece, it now was given those of the piece
-- too
abbrev pub ReadsOn : Machine → (piece : List ℕ) → (old new : PiecesView) → Type 0
ReadsOn m piece old new =
    (input : Input) (n : ℕ) → WasGiven m input n old → IsPieceAt input n piece → WasGiven m input (n + length piece) new

-- a search was given the whole span of an input, and this byte follows, or none
pub record WasGivenAll (m : Machine) (input : Input) (ahead : Option ℕ) (p : PiecesView) : Type 0 where
  -- the haystack has bytes
  pub bytes : IsHaystack input.haystack
  -- it was given the bytes of the span
  pub given : WasGiven m input (input.end - input.start) p
  -- this byte follows the span, or none
  pub followed : slice_get input.haystack input.end ≡ ahead

-- what a search that was given the whole span of an input returns: what `try_search_fwd` returns for it
pub record IsWhole (m : Machine) (input : Input) (half : Option HalfMatch) : Type 0 where
  -- by paths, as `try_search_fwd` promises it
  pub paths : IsHalf Forward m input (Ok half)
  -- by passes, for every NFA
  pub found : WithoutBase (IsFound Forward m input) half

-- this is the answer for each input whose span is what was given
abbrev pub EndsHere : Machine → PiecesView → (ahead : Option ℕ) → Option HalfMatch → Type 0
EndsHere m p ahead half =
    (input : Input) → WasGivenAll m input ahead p → IsWhole m input (from_first input.start half)
