use Rattle.std.proofs.Common.{ℕ, ◌-◌, length, take}
use Rattle.automata_base.specs.Lists.{In}
use Rattle.automata_base.specs.Nfas.Nodes.{node_of}
use Rattle.automata_base.specs.Paths.Paths.{all_true}
use Rattle.automata_base.specs.Powersets.Closure.{children_at}
use Rattle.automata_base.proofs.nfa.thompson.finishing.next_edge.Given as goal

abbrev pub invariant-loop-target : goal.invariant-loop-target
invariant-loop-target l = (r : ℕ) → In r (take l.number (children_at (node_of l.state) all_true)) → In r l.visited.items

abbrev pub decreases-loop-target : goal.decreases-loop-target
decreases-loop-target l = length (children_at (node_of l.state) all_true) - l.number
