use Rattle.std.proofs.Common.{◌≡◌, length}
use Rattle.automata_base.specs.Retraced.ReversedEdges.{lists_of}
use Rattle.automata_transform.proofs.Nfas.Folds.Tree.{Putting}
use Rattle.automata_transform.proofs.segments.put_range.Given as goal

abbrev pub invariant-loop-left : goal.invariant-loop-left
invariant-loop-left l = record {
  putting : Putting (lists_of l.fn.lists.items) (lists_of l.lists.items) l.lo l.hi l.next l.left l.end;
  few : length l.lists.items ≡ 512;
}

abbrev pub decreases-loop-left : goal.decreases-loop-left
decreases-loop-left l = l.end
