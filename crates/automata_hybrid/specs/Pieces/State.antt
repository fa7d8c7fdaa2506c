-- Searches in pieces: what contracts see of their state.
use Rattle.std.specs.Prelude.{ℕ, ◌≡◌, Bool, Option, Some}
use Rattle.automata_base.specs.Haystacks.Matches.{HalfMatch}
use Rattle.automata_base.specs.Powersets.Powerset.{Powerset}
use Rattle.automata_hybrid.specs.Cache.Table.{IsRowState}
use Rattle.automata_hybrid.specs.Machines.Machine.{Machine}

-- what contracts see of a search in pieces
pub record PiecesView : Type 0 where
  -- the state after the bytes read so far; none once nothing that follows can change the answer
  pub state : Option Powerset
  -- how many bytes were read
  pub read : ℕ
  -- whether the search ends at its first match
  pub earliest : Bool
  -- what these bytes report; its offset is counted from the first byte of the first piece
  pub found : Option HalfMatch

-- the search belongs to this DFA: its current state, if it has one, is a state of the DFA
abbrev pub IsPiecesOf : PiecesView → Machine → Type 0
IsPiecesOf p m = (q : Powerset) → p.state ≡ Some q → IsRowState m q
