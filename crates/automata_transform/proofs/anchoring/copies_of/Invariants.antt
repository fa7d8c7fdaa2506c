use Rattle.std.proofs.Common.{◌≡◌, take}
use Rattle.automata_base.specs.Nfas.Nodes.{nodes_of}
use Rattle.automata_transform.proofs.anchoring.copies_of.Given as goal

abbrev pub invariant-loop-state : goal.invariant-loop-state
invariant-loop-state l = nodes_of l.copies.items ≡ nodes_of (take l.state-index l.states)
