-- Searches, and walks, whose pieces are the whole haystack.
use Rattle.std.specs.Prelude.{ℕ, Bool, List, [], ◌∷◌, ◌++◌, length, Option, None, Some}
use Rattle.automata_base.specs.Haystacks.Input.{Input}
use Rattle.automata_base.specs.Haystacks.Matches.{HalfMatch}
use Rattle.automata_base.specs.Haystacks.Tapes.{IsHaystack}
use Rattle.automata_base.specs.Paths.Selections.{Pair, at_place}
use Rattle.automata_base.specs.declared.util.search.Anchored.{Anchored}
use Rattle.automata_base.specs.declared.util.search.Direction.TheVariants.{Forward}
use Rattle.automata_hybrid.specs.Machines.Machine.{Machine}
use Rattle.automata_hybrid.specs.Pieces.Answers.{EndsHere, HasBegun, IsWhole, ReadsOn}
use Rattle.automata_hybrid.specs.Pieces.State.{PiecesView}
use Rattle.automata_hybrid.specs.Pieces.Walks.{EndsWith, HasBegunWalk, IsWalked, patterns_here}
use Rattle.automata_hybrid.specs.Walks.Answers.{AreWalked}

-- the bytes of pieces, which are listed last to first
abbrev pub bytes_of_pieces : List (List ℕ) → List ℕ
bytes_of_pieces [] = []
bytes_of_pieces (piece ∷ earlier) = bytes_of_pieces earlier ++ piece

-- a search has begun at the start of a haystack, and has read these pieces, which are listed last to first
abbrev pub HasReadAll : Machine → Anchored → (earliest : Bool) → List (List ℕ) → PiecesView → Type 0
HasReadAll m mode earliest [] p = HasBegun m mode None earliest p
HasReadAll m mode earliest (piece ∷ earlier) p =
    (before : PiecesView) × HasReadAll m mode earliest earlier before × ReadsOn m piece before p

-- a haystack, searched from its start to its end
abbrev pub whole_input : (haystack : List ℕ) → Anchored → (earliest : Bool) → Input
whole_input haystack mode earliest =
    record { haystack = haystack; start = 0; end = length haystack; anchored = mode; earliest = earliest }

-- if the pieces are the whole haystack, the answer at its end is what `try_search_fwd` returns for it
abbrev pub PiecesAreWhole : Type 0
PiecesAreWhole =
    (m : Machine) (mode : Anchored) (earliest : Bool) (pieces : List (List ℕ)) (p : PiecesView)
    (half : Option HalfMatch)
    → IsHaystack (bytes_of_pieces pieces) → HasReadAll m mode earliest pieces p → EndsHere m p None half
    → IsWhole m (whole_input (bytes_of_pieces pieces) mode earliest) half

-- the pairs at which a walk stopped, by its patterns and its match: each pattern with the offset
abbrev pub stop_pairs : (patterns : List ℕ) → Option HalfMatch → List Pair
stop_pairs patterns None = []
stop_pairs patterns (Some half) = at_place half.offset patterns

-- a walk has begun at the start of a haystack, and its calls have read these bytes and stopped at these pairs; the last
-- piece still has the bytes `left`
pub data HasWalkedPieces (m : Machine) (mode : Anchored) : (bytes left : List ℕ) → List Pair → PiecesView → Type 0 where
  -- it has made no call
  WalkedNone : (w : PiecesView) → HasBegunWalk m mode None w → HasWalkedPieces m mode [] [] [] w
  -- the last piece is read, and the next one comes
  NextPiece :
      (bytes piece : List ℕ) (pairs : List Pair) (w : PiecesView) → HasWalkedPieces m mode bytes [] pairs w
      → HasWalkedPieces m mode bytes piece pairs w
  -- one more call has read some bytes of the piece
  WalkedOnce :
      (bytes read left : List ℕ) (pairs : List Pair) (before w : PiecesView)
      → HasWalkedPieces m mode bytes (read ++ left) pairs before → IsWalked m (read ++ left) before w (length read)
      → HasWalkedPieces m mode (bytes ++ read) left (pairs ++ stop_pairs (patterns_here w) w.found) w

-- if its pieces are the whole haystack and all of their bytes are read, the pairs at which the calls of a walk stopped,
-- and then the patterns at the end, are the list of an overlapping search: each pair once, in the same order
abbrev pub WalksAreWhole : Type 0
WalksAreWhole =
    (m : Machine) (mode : Anchored) (earliest : Bool) (haystack : List ℕ) (pairs : List Pair) (w : PiecesView)
    (patterns : List ℕ)
    → HasWalkedPieces m mode haystack [] pairs w → EndsWith m w None patterns
    → AreWalked Forward m (whole_input haystack mode earliest) (pairs ++ at_place (length haystack) patterns)
