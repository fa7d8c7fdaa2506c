-- The states of an NFA that edges reach from some of its states.
use Rattle.std.specs.Prelude.{ℕ, ◌≡◌, cond, eqb, List, [], ◌∷◌, ◌++◌, map, Option, Some, None}
use Rattle.std.specs.Prelude.{slice_get}
use Rattle.automata_base.specs.declared.nfa.thompson.state.State.{State}
use Rattle.automata_base.specs.declared.nfa.thompson.reach.Edges.{Edges}
use Rattle.automata_base.specs.declared.nfa.thompson.reach.Edges.TheVariants.{Epsilon, Every}
use Rattle.automata_base.specs.Lists.{In}
use Rattle.automata_base.specs.Nfas.Nfa.{Node, Range, Split, Assert, Read, Accept, node_or_fail, accepts_at}
use Rattle.automata_base.specs.Nfas.Nodes.{nodes_of}
use Rattle.automata_base.specs.Paths.Paths.{all_true}
use Rattle.automata_base.specs.Powersets.Closure.{children_at}

-- The node of a state, by its number; past the last one a fail state.
abbrev pub node_in : List State → ℕ → Node
node_in states q = node_or_fail (slice_get (nodes_of states) q)

-- The targets of these ranges.
abbrev pub nexts : List Range → List ℕ
nexts ranges = map (λ range. range.next) ranges

-- The targets of the edges of a node that read a byte.
abbrev pub byte_targets : Node → List ℕ
byte_targets (Split alternates) = []
byte_targets (Assert look next) = []
byte_targets (Read ranges) = nexts ranges
byte_targets (Accept p) = []

-- The targets of the edges of a node, with every look taken as true.
abbrev pub targets_at : Edges → Node → List ℕ
targets_at Epsilon x = children_at x all_true
targets_at Every x = children_at x all_true ++ byte_targets x

-- The targets of the edges of the state with this number, with every look taken as true.
abbrev pub targets_of : Edges → List State → ℕ → List ℕ
targets_of edges states q = targets_at edges (node_in states q)

-- The targets lead from `q` over these states to `z`.
abbrev pub Route : (ℕ → List ℕ) → ℕ → List ℕ → ℕ → Type 0
Route targets q [] z = q ≡ z
Route targets q (r ∷ rs) z = In r (targets q) × Route targets r rs z

-- Some root leads to `z` by these targets.
abbrev pub IsReachedBy : (ℕ → List ℕ) → List ℕ → ℕ → Type 0
IsReachedBy targets roots z = (root : ℕ) × (way : List ℕ) × In root roots × Route targets root way z

-- Some root leads to `z`.
abbrev pub IsReached : Edges → List State → List ℕ → ℕ → Type 0
IsReached edges states roots z = IsReachedBy (targets_of edges states) roots z

-- The node is a match state.
abbrev pub IsMatchAt : Node → Type 0
IsMatchAt x = (p : ℕ) × (accepts_at x ≡ Some p)

-- Epsilon edges lead from some root to a match.
abbrev pub ReachesMatch : List State → List ℕ → Type 0
ReachesMatch states roots =
    (q : ℕ) × IsReached Epsilon states roots q × IsMatchAt (node_in states q)

-- The target of a look.
abbrev pub look_target : Node → Option ℕ
look_target (Split alternates) = None
look_target (Assert look next) = Some next
look_target (Read ranges) = None
look_target (Accept p) = None

-- The state is a look, and epsilon edges lead from it back to it.
abbrev pub LeadsBack : List State → ℕ → Type 0
LeadsBack states q =
    (next : ℕ) × (look_target (node_in states q) ≡ Some next) × IsReached Epsilon states (next ∷ []) q

-- No look leads back to itself.
abbrev pub AreLooksAcyclic : List State → Type 0
AreLooksAcyclic states = (q : ℕ) → LeadsBack states q → ⊥

-- The second of two alternates, if the first is `first`.
abbrev pub second_of : List ℕ → ℕ → Option ℕ
second_of [] first = None
second_of (a ∷ []) first = None
second_of (a ∷ b ∷ []) first = cond (eqb a first) (Some b) None
second_of (a ∷ b ∷ c ∷ rest) first = None

-- The second alternate of a state that has two, if the first is `first`.
abbrev pub second_at : Node → ℕ → Option ℕ
second_at (Split alternates) first = second_of alternates first
second_at (Assert look next) first = None
second_at (Read ranges) first = None
second_at (Accept p) first = None
