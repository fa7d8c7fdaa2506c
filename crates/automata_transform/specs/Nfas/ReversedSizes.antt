-- Bounds on the size of a reversed NFA.
use Rattle.std.specs.Prelude.{ℕ, ◌+◌, ◌*◌, ◌^◌, ◌<◌, ◌⊎◌, length, sum_by}
use Rattle.automata_base.specs.declared.nfa.thompson.state.State.{State}
use Rattle.automata_base.specs.declared.nfa.thompson.state.State.TheVariants as is
use Rattle.automata_base.specs.Nfas.Nodes.{Automaton}
use Rattle.automata_transform.specs.Retraced.DenseRuns.{runs_from}

-- The number of edges of a state that read a byte or test a look.
abbrev pub asking_edges : State → ℕ
asking_edges (is.ByteRange lo hi next) = 1
asking_edges (is.Sparse ts) = length ts.items
asking_edges (is.Dense targets) = length (runs_from 0 0 targets.value)
asking_edges (is.Look look next) = 1
asking_edges (is.Union alternates) = 0
asking_edges (is.BinaryUnion alt1 alt2) = 0
asking_edges (is.Capture next pattern index slot) = 0
asking_edges is.Fail = 0
asking_edges (is.Match pattern) = 0

-- The number of edges of a state that read nothing and test nothing.
abbrev pub free_edges : State → ℕ
free_edges (is.ByteRange lo hi next) = 0
free_edges (is.Sparse ts) = 0
free_edges (is.Dense targets) = 0
free_edges (is.Look look next) = 0
free_edges (is.Union alternates) = length alternates.items
free_edges (is.BinaryUnion alt1 alt2) = 2
free_edges (is.Capture next pattern index slot) = 1
free_edges is.Fail = 0
free_edges (is.Match pattern) = 0

-- The most states that the reversed NFA has: for each pattern, and once more, a state for each state and for each edge
-- that reads a byte or tests a look, and two more.
abbrev pub most_states : Automaton → ℕ
most_states a = (length a.start_pattern + 1) * (length a.states + sum_by asking_edges a.states + 2)

-- The most alternates that its unions have in all.
abbrev pub most_alternates : Automaton → ℕ
most_alternates a =
    (length a.start_pattern + 1)
    * (length a.states + sum_by asking_edges a.states + sum_by free_edges a.states + 2)

-- By these bounds, the reversed NFA may be larger than an NFA can be.
abbrev pub MayBeTooLarge : Automaton → Type 0
MayBeTooLarge a = (2 ^ 27 < most_states a) ⊎ (2 ^ 31 < most_alternates a)
