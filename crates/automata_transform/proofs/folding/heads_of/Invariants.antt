use Rattle.std.proofs.Common.{◌≡◌, ◌≤◌, ◌++◌, List, length}
use Rattle.automata_base.specs.Nfas.Nfa.{Node}
use Rattle.automata_base.specs.Nfas.Nodes.{nodes_of}
use Rattle.automata_transform.specs.Retraced.Folds.{AddsNoLook, AreTreeHeads}
use Rattle.automata_base.specs.Retraced.ReversedEdges.{lists_of}
use Rattle.automata_transform.proofs.folding.heads_of.Given as goal

abbrev pub invariant-loop-node : goal.invariant-loop-node
invariant-loop-node l = record {
  heads : AreTreeHeads l.free (nodes_of l.made.items) (lists_of l.lists) l.heads.items l.node;
  count : length l.heads.items ≡ l.node;
  looks : AddsNoLook l.fn.made.items l.made.items;
  grows : (more : List Node) × (nodes_of l.made.items ≡ nodes_of l.fn.made.items ++ more);
  few : length l.made.items ≤ length l.free;
}
