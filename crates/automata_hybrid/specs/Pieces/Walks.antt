-- What a walk over a haystack in pieces reports: each offset at which patterns match once, with these patterns.
use Rattle.std.specs.Prelude.{ℕ, suc, ◌≡◌, ◌+◌, ◌-◌, ◌<◌, ◌≤◌, List, [], length, Option, Some, None, slice_get}
use Rattle.automata_base.specs.Haystacks.Input.{Input}
use Rattle.automata_base.specs.Haystacks.Matches.{HalfMatch}
use Rattle.automata_base.specs.Powersets.Powerset.{Powerset, dead}
use Rattle.automata_base.specs.declared.util.search.Anchored.{Anchored}
use Rattle.automata_base.specs.declared.util.search.Direction.TheVariants.{Forward}
use Rattle.automata_hybrid.specs.Machines.Machine.{Machine}
use Rattle.automata_hybrid.specs.Pieces.Answers.{BeginsAfter, IsPieceAt, from_first}
use Rattle.automata_hybrid.specs.Pieces.State.{PiecesView}
use Rattle.automata_hybrid.specs.Searches.PassState.{half_at}
use Rattle.automata_hybrid.specs.Searches.Passes.{HasReadNoQuit, Skips, state_in, tape_in}
use Rattle.automata_hybrid.specs.Steps.Starts.{MayStart}

-- the patterns of a state, if the last call of a walk stopped at them
abbrev pub patterns_at : Option Powerset → Option HalfMatch → List ℕ
patterns_at (Some q) (Some half) = q.patterns
patterns_at (Some q) None = []
patterns_at None found = []

-- the patterns at which a walk stopped: none if its last call did not stop at a match
abbrev pub patterns_here : PiecesView → List ℕ
patterns_here w = patterns_at w.state w.found

-- a walk is at a state after the first `n` bytes of the span of an input
pub record WalksAt (m : Machine) (input : Input) (n : ℕ) (q : Powerset) (w : PiecesView) : Type 0 where
  -- it has read these bytes
  pub read : w.read ≡ n
  -- the state is the state of a pass after them
  pub state : q ≡ state_in Forward m input n
  -- none of them is a quit byte
  pub clean : HasReadNoQuit Forward m input n

-- a walk was given the first `n` bytes of the span of an input
pub record HasWalked (m : Machine) (input : Input) (n : ℕ) (w : PiecesView) : Type 0 where
  -- no offset is skipped
  pub plain : Skips m → ⊥
  -- the bytes lie in the span
  pub within : input.start + n ≤ input.end
  -- it ends in the haystack
  pub inside : input.end ≤ length input.haystack
  -- a search may start there
  pub may : MayStart m input.anchored (tape_in Forward input).before
  -- if it has a current state, that is the one after these bytes
  pub stands : (q : Powerset) → w.state ≡ Some q → WalksAt m input n q w
  -- if it has none, a pass is dead after them: nothing matches from there on
  pub over : w.state ≡ None → state_in Forward m input n ≡ dead

-- a walk has begun
pub record HasBegunWalk (m : Machine) (mode : Anchored) (behind : Option ℕ) (w : PiecesView) : Type 0 where
  -- for each input that it may be a walk over, it was given no bytes yet
  pub given : (input : Input) → BeginsAfter mode behind input.earliest input → HasWalked m input 0 w
  -- it has read none
  pub read : w.read ≡ 0
  -- it is at no match
  pub found : w.found ≡ None

-- between two places of a span no pattern matches at the offset of a place: the states there report none
abbrev pub HasNoMatch : Machine → Input → (from to : ℕ) → Type 0
HasNoMatch m input from to = (k : ℕ) → from ≤ k → k < to → (state_in Forward m input (suc k)).patterns ≡ []

-- a walk stopped at the patterns that match at the offset of a place of a span
pub record IsAtMatch (m : Machine) (input : Input) (k : ℕ) (w : PiecesView) : Type 0 where
  -- its patterns are those that the state there reports
  pub patterns : patterns_here w ≡ (state_in Forward m input (suc k)).patterns
  -- there is at least one
  pub some : patterns_here w ≡ [] → ⊥
  -- its match is the first of them, at that offset
  pub found :
      from_first input.start w.found ≡ half_at (state_in Forward m input (suc k)).patterns (input.start + k) None

-- where a walk stops that continues from place `k` of a span over a piece, of which it reads `n` bytes
pub data StopsAt (m : Machine) (input : Input) (k : ℕ) (piece : List ℕ) (n : ℕ) (w : PiecesView) : Type 0 where
  -- at the end of the piece, and at no match: no pattern matches on the way
  AtPieceEnd :
      n ≡ length piece → HasNoMatch m input k (k + n) → w.found ≡ None → StopsAt m input k piece n w
  -- at the first match on the way
  AtMatch :
      (i : ℕ) → n ≡ suc i → HasNoMatch m input k (k + i) → IsAtMatch m input (k + i) w → StopsAt m input k piece n w

-- a walk that was given the bytes of an input before a piece reads `n` bytes of the piece
abbrev pub WalksOn : Machine → (piece : List ℕ) → (old new : PiecesView) → (n : ℕ) → Type 0
WalksOn m piece old new n =
    (input : Input) (k : ℕ) → HasWalked m input k old → IsPieceAt input k piece
    → HasWalked m input (k + n) new × StopsAt m input k piece n new

-- what a call of a walk returns, over a piece: how many of its bytes it has read
pub record IsWalked (m : Machine) (piece : List ℕ) (old new : PiecesView) (n : ℕ) : Type 0 where
  -- they are bytes of the piece
  pub few : n ≤ length piece
  -- unless it stopped at a match, they are all of its bytes
  pub all : new.found ≡ None → n ≡ length piece
  -- if it stopped at a match, it has read at least one
  pub some : (new.found ≡ None → ⊥) → 0 < n
  -- for each input, it stopped at the next match in the piece, or there is none
  pub walks : WalksOn m piece old new n

-- a walk was given the whole span of an input, and this byte follows, or none
pub record HasWalkedAll (m : Machine) (input : Input) (ahead : Option ℕ) (w : PiecesView) : Type 0 where
  -- it was given the bytes of the span
  pub given : HasWalked m input (input.end - input.start) w
  -- this byte follows the span, or none
  pub followed : slice_get input.haystack input.end ≡ ahead

-- for each input whose span is what was given, these patterns match at its end: the state after the unit that follows
-- reports them
abbrev pub EndsWith : Machine → PiecesView → (ahead : Option ℕ) → List ℕ → Type 0
EndsWith m w ahead patterns =
    (input : Input) → HasWalkedAll m input ahead w
    → patterns ≡ (state_in Forward m input (suc (input.end - input.start))).patterns
