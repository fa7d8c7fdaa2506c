-- What `NFA::from_states` accepts.
use Rattle.std.specs.Prelude.{ℕ, ◌+◌, ◌^◌, ◌≡◌, ◌<◌, ◌≤◌, Some, true, eqb, length, All}
use Rattle.automata_base.specs.Lists.{In}
use Rattle.automata_base.specs.Nfas.Nodes.{Automaton, nfa_of, stack_room}
use Rattle.automata_base.specs.Haystacks.LookSets.{truth_of}
use Rattle.automata_base.specs.Haystacks.Looks.{Look}
use Rattle.automata_base.specs.Nfas.Nfa.{Nfa, Truth, accepts, any_node, takes}
use Rattle.automata_base.specs.Powersets.Closure.{children}
use Rattle.automata_base.specs.Haystacks.Looks.{look_index}
use Rattle.automata_base.specs.Nfas.Errors.{states_ordered}

-- Each edge leads to a state of the NFA.
abbrev pub IsInRange : Nfa → Type 0
IsInRange n =
    ((q c : ℕ) (A : Truth) → In c (children n A q) → c < length n.nodes)
    × ((q u r : ℕ) → takes n q u ≡ Some r → r < length n.nodes)

-- The NFA has at most 2^27 states and at most 2^27 patterns, each number is in range, and ranges are in order.
pub record IsChecked (a : Automaton) : Type 0 where
  -- there are at most 2^27 states
  pub small : length a.states ≤ 2 ^ 27
  -- there are at most 2^27 patterns
  pub few : length a.start_pattern ≤ 2 ^ 27
  -- each edge leads to one of the states
  pub range : IsInRange (nfa_of a)
  -- the anchored start is one of the states
  pub anchored : a.start_anchored < length a.states
  -- the unanchored start is one of the states
  pub unanchored : a.start_unanchored < length a.states
  -- the start of each pattern is one of the states
  pub starts : All (λ s. s < length a.states) a.start_pattern
  -- no range is reversed, and those of a sparse state are sorted and do not overlap
  pub ordered : states_ordered a.states ≡ true
  -- the stack of a closure needs at most 2^31 + 1 entries
  pub room : stack_room a.states ≤ 2 ^ 31 + 1
  -- each match state has a pattern of the NFA
  pub patterns : (q p : ℕ) → accepts (nfa_of a) q ≡ Some p → p < length a.start_pattern

-- The set has exactly the looks that are states of the NFA.
abbrev pub IsLooks : Automaton → ℕ → Type 0
IsLooks a looks =
    (look : Look) → truth_of looks look ≡ any_node (λ other. eqb (look_index other) (look_index look)) (nfa_of a).nodes
