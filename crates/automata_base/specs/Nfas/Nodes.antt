-- The states of the code as nodes.
use Rattle.std.specs.Prelude.{ℕ, Bool, zero, suc, ◌+◌, ◌-◌, List, [], ◌∷◌, length, sum_by}
use Rattle.automata_base.specs.declared.nfa.thompson.state.State.{State}
use Rattle.automata_base.specs.declared.nfa.thompson.state.State.TheVariants as is
use Rattle.automata_base.specs.declared.nfa.thompson.state.Transition.{Transition}
use Rattle.automata_base.specs.declared.nfa.thompson.state.Flags.{Flags}
use Rattle.automata_base.specs.Nfas.Nfa.{Nfa, Node, Range, Split, Assert, Read, Accept}

-- A transition of the code as a range.
abbrev pub range_of : Transition → Range
range_of t = record { lo = t.lo; hi = t.hi; next = t.next }

-- The ranges of a sparse state, in order.
abbrev pub ranges_of : List Transition → List Range
ranges_of [] = []
ranges_of (t ∷ ts) = range_of t ∷ ranges_of ts

-- The edges of a dense state: target 0 means that there is no edge.
abbrev pub dense_from : ℕ → List ℕ → List Range
dense_from u [] = []
dense_from u (zero ∷ rest) = dense_from (suc u) rest
dense_from u (suc k ∷ rest) = record { lo = u; hi = u; next = suc k } ∷ dense_from (suc u) rest

-- The node of each kind of state.
abbrev pub node_of : State → Node
node_of (is.ByteRange lo hi next) = Read (record { lo = lo; hi = hi; next = next } ∷ [])
node_of (is.Sparse ts) = Read (ranges_of ts.items)
node_of (is.Dense targets) = Read (dense_from 0 targets.value)
node_of (is.Look look next) = Assert look next
node_of (is.Union alternates) = Split alternates.items
node_of (is.BinaryUnion alt1 alt2) = Split (alt1 ∷ alt2 ∷ [])
node_of (is.Capture next pattern index slot) = Split (next ∷ [])
node_of is.Fail = Split []
node_of (is.Match pattern) = Accept pattern

-- The nodes of these states, in order.
abbrev pub nodes_of : List State → List Node
nodes_of [] = []
nodes_of (x ∷ xs) = node_of x ∷ nodes_of xs

-- An NFA as contracts see it.
pub record Automaton : Type 0 where
  -- its states; the ID of a state is its index
  pub states : List State
  -- the state where anchored searches begin
  pub start_anchored : ℕ
  -- the state where unanchored searches begin
  pub start_unanchored : ℕ
  -- the state where anchored searches of each pattern begin
  pub start_pattern : List ℕ
  -- its UTF-8 flag, its reverse flag and its line terminator
  pub flags : Flags
  -- whether powerset states keep its unions of two or more alternates
  pub keeps_unions : Bool

-- The NFA as paths see it.
abbrev pub nfa_of : Automaton → Nfa
nfa_of a = record {
  nodes = nodes_of a.states;
  terminator = a.flags.line_terminator;
  reverse = a.flags.reverse;
  keeps_unions = a.keeps_unions;
}

-- The number of alternates of a state that may wait on the stack while the first is followed.
abbrev pub extra_of : State → ℕ
extra_of (is.ByteRange lo hi next) = 0
extra_of (is.Sparse ts) = 0
extra_of (is.Dense targets) = 0
extra_of (is.Look look next) = 0
extra_of (is.Union alternates) = length alternates.items - 1
extra_of (is.BinaryUnion alt1 alt2) = 1
extra_of (is.Capture next pattern index slot) = 0
extra_of is.Fail = 0
extra_of (is.Match pattern) = 0

-- The room that the stack of a closure needs: one, and the sum of the alternates that may wait.
unfoldable pub stack_room : List State → ℕ
stack_room states = 1 + sum_by extra_of states
