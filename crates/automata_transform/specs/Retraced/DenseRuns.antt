-- The edges of a dense state as ranges: adjacent bytes that lead to the same state are one range.
use Rattle.std.specs.Prelude.{ℕ, zero, suc, Bool, false, cond, eqb, List, [], ◌∷◌, ◌++◌}
use Rattle.automata_base.specs.declared.nfa.thompson.state.State.{State}
use Rattle.automata_base.specs.declared.nfa.thompson.state.State.TheVariants as is
use Rattle.automata_base.specs.declared.nfa.thompson.state.Transition.{Transition}
use Rattle.automata_base.specs.Nfas.Nfa.{Nfa, Node, Read}
use Rattle.automata_base.specs.Nfas.Nodes.{Automaton, node_of, ranges_of}

-- Whether the list begins with this number.
abbrev pub starts_with : ℕ → List ℕ → Bool
starts_with x [] = false
starts_with x (y ∷ ys) = eqb y x

-- The bytes from `lo` to `hi` lead to the target: target 0 means that there is no edge.
abbrev pub run_of : (lo hi target : ℕ) → List Transition
run_of lo hi zero = []
run_of lo hi (suc k) = record { lo = lo; hi = hi; next = suc k } ∷ []

-- The runs of the targets of `byte` and of the bytes after it. The first run begins at `lo`.
abbrev pub runs_from : (lo byte : ℕ) → List ℕ → List Transition
runs_from lo byte [] = []
runs_from lo byte (x ∷ xs) =
    cond (starts_with x xs) (runs_from lo (suc byte) xs) (run_of lo byte x ++ runs_from (suc byte) (suc byte) xs)

-- A state with its edges as ranges.
abbrev pub ranged : State → Node
ranged (is.ByteRange lo hi next) = node_of (is.ByteRange lo hi next)
ranged (is.Sparse ts) = node_of (is.Sparse ts)
ranged (is.Dense targets) = Read (ranges_of (runs_from 0 0 targets.value))
ranged (is.Look look next) = node_of (is.Look look next)
ranged (is.Union alternates) = node_of (is.Union alternates)
ranged (is.BinaryUnion alt1 alt2) = node_of (is.BinaryUnion alt1 alt2)
ranged (is.Capture next pattern index slot) = node_of (is.Capture next pattern index slot)
ranged is.Fail = node_of is.Fail
ranged (is.Match pattern) = node_of (is.Match pattern)

-- These states, each with its edges as ranges.
abbrev pub ranged_nodes : List State → List Node
ranged_nodes [] = []
ranged_nodes (x ∷ xs) = ranged x ∷ ranged_nodes xs

-- The NFA as paths see it, with the edges of each dense state as ranges.
abbrev pub ranged_nfa : Automaton → Nfa
ranged_nfa a = record {
  nodes = ranged_nodes a.states;
  terminator = a.flags.line_terminator;
  reverse = a.flags.reverse;
  keeps_unions = a.keeps_unions;
}
