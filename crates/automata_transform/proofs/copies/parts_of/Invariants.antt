use Rattle.std.proofs.Common.{◌≡◌, ◌<◌, length}
use Rattle.automata_transform.specs.Retraced.Copies.{AreParts}
use Rattle.automata_base.specs.Nfas.Nodes.{nodes_of}
use Rattle.automata_transform.specs.Retraced.ReversedEdges.{HaveCopies}
use Rattle.automata_transform.proofs.copies.parts_of.Given as goal

abbrev pub invariant-loop-p : goal.invariant-loop-p
invariant-loop-p l = record {
  copies : HaveCopies (nodes_of l.parts.states.items) l.states l.fn.turned.items l.reached l.parts.entries.items;
  count : length l.parts.entries.items ≡ l.p;
  capacity : l.set.capacity ≡ length l.fn.turned.items;
  kept : l.p < l.patterns → l.turned.items ≡ l.fn.turned.items;
  fit : AreParts l.fn.turned.items (length l.reached) l.patterns l.p (nodes_of l.parts.states.items)
      l.parts.entries.items;
}
