-- The states of a flattened NFA, as they are tested one by one.
use Rattle.std.specs.Prelude.{ℕ, ◌≡◌, ◌<◌, List, Some, length, ⊤}
use Rattle.automata_base.specs.Lists.{In}
use Rattle.automata_base.specs.Nfas.Nfa.{Node, Split, Assert, Read, Accept, node, takes_in}
use Rattle.automata_base.specs.Nfas.Nodes.{Automaton, nfa_of}
use Rattle.automata_base.specs.Retraced.Reach.{node_in}
use Rattle.automata_base.specs.declared.nfa.thompson.state.State.{State}
use Rattle.automata_transform.specs.Nfas.FlattenedNfas.{IsFlatNode, IsNoLink}

-- No edge of the node leads to a link of a chain.
abbrev pub LeadsToNoLink : (links : List ℕ) → Node → Type 0
LeadsToNoLink links (Split alternates) = (q : ℕ) → In q alternates → IsNoLink links q
LeadsToNoLink links (Assert look next) = IsNoLink links next
LeadsToNoLink links (Read ranges) = (u r : ℕ) → takes_in ranges u ≡ Some r → IsNoLink links r
LeadsToNoLink links (Accept pattern) = ⊤

-- These are the states of the NFA after its chains are flattened, as many as it has.
pub record AreFlat (a : Automaton) (links : List ℕ) (states : List State) : Type 0 where
  -- there is one for each state of the NFA
  pub count : length states ≡ length a.states
  -- each is what becomes of that state
  pub nodes : (q : ℕ) → q < length states → IsFlatNode (nfa_of a) links q (node (nfa_of a) q) (node_in states q)
