-- What a walk over pieces holds between its calls, and the row of its current state.
use Rattle.std.specs.Prelude.{ℕ, ◌≡◌, true, List, [], Option, Some, None}
use Rattle.automata_base.specs.Haystacks.Matches.{HalfMatch}
use Rattle.automata_base.specs.Powersets.Powerset.{Powerset}
use Rattle.automata_hybrid.specs.Cache.Table.{Names, Rows}
use Rattle.automata_hybrid.specs.Pieces.State.{PiecesView}
use Rattle.automata_hybrid.specs.declared.cache.handle.Handle.{Handle}

-- a walk is a search in pieces that stops at each match, and continues from there
pub record IsPiecesWalk (w : PiecesView) : Type 0 where
  -- it stops at a match
  pub early : w.earliest ≡ true
  -- without a current state it has no match
  pub none : w.state ≡ None → w.found ≡ None

-- a walk is at the state that an ID names, after `count` bytes, and has found this
pub record StandsInRow (t : Rows) (id count : ℕ) (half : Option HalfMatch) (old new : PiecesView) : Type 0 where
  -- the state is the one of the ID's row
  pub state : (q : Powerset) → Names t id q → new.state ≡ Some q
  -- it has a current state
  pub some : new.state ≡ None → ⊥
  -- it has read that many bytes
  pub read : new.read ≡ count
  -- it has found this
  pub found : new.found ≡ half
  -- it stops at a match if it did before
  pub early : new.earliest ≡ old.earliest

-- the patterns of a state that is held, if there is one
abbrev pub patterns_held : Option Handle → List ℕ
patterns_held None = []
patterns_held (Some handle) = handle.state.patterns
