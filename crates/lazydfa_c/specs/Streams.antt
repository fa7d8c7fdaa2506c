-- A search and a walk in pieces, as contracts see them.
use Rattle.std.specs.Prelude.{ℕ, List, Option, Some, None}
use Rattle.automata_base.specs.Powersets.Powerset.{Powerset}
use Rattle.automata_hybrid.specs.Machines.Machine.{Machine}
use Rattle.automata_hybrid.specs.Pieces.State.{PiecesView}
use Rattle.automata_hybrid.specs.Pieces.Walks.{patterns_here}
use Rattle.regex_automata.specs.Promises.{HalfMatch}
use Rattle.lazydfa_c.specs.declared.stream.Stream.TheInside.{Inside}
use Rattle.lazydfa_c.specs.declared.walk.Walk.TheInside.{Inside as WalkInside}

-- a search in pieces, with the DFA that it searches by
pub record StreamView : Type 0 where
  -- the DFA
  pub machine : Machine
  -- the state of the search
  pub pieces : PiecesView

-- what contracts see of a search
abbrev pub stream_view : Inside → StreamView
stream_view s = record { machine = s.pattern.value.regex.forward; pieces = s.pieces }

-- whether the result of a search is final, by its state, as C reads it: 1 or 0
abbrev pub stands : Option Powerset → ℕ
stands None = 1
stands (Some q) = 0

-- whether the result of a cache's search in pieces is final: 0 if there is no search
abbrev pub done_in : Option StreamView → ℕ
done_in None = 0
done_in (Some stream) = stands stream.pieces.state

-- a walk in pieces, with the DFA that it walks by
pub record WalkView : Type 0 where
  -- the DFA
  pub machine : Machine
  -- the state of the walk
  pub walk : PiecesView
  -- the patterns that match at the end of the haystack, if they were asked for since the walk last read
  pub end : Option (List ℕ)

-- what contracts see of a walk
abbrev pub walk_view : WalkInside → WalkView
walk_view s = record { machine = s.pattern.value.regex.forward; walk = s.walk; end = s.end }

-- the patterns that a walk lists: those that match at its position, or those that match at the end of the haystack
abbrev pub listed_in : PiecesView → Option (List ℕ) → List ℕ
listed_in w None = patterns_here w
listed_in w (Some patterns) = patterns

-- the patterns that a cache's walk lists
abbrev pub listed : WalkView → List ℕ
listed walk = listed_in walk.walk walk.end

-- the offset of a match, or 0 if there is none
abbrev pub offset_or_zero : Option HalfMatch → ℕ
offset_or_zero None = 0
offset_or_zero (Some half) = half.offset

-- the offset of the patterns that a walk lists: the offset of its match, or the number of bytes it has read
abbrev pub offset_at : PiecesView → Option (List ℕ) → ℕ
offset_at w None = offset_or_zero w.found
offset_at w (Some patterns) = w.read

-- the offset of the patterns that a cache's walk lists
abbrev pub offset_of : WalkView → ℕ
offset_of walk = offset_at walk.walk walk.end
