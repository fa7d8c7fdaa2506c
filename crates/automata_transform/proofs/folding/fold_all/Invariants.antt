use Rattle.std.proofs.Common.{◌≤◌, length}
use Rattle.automata_base.specs.Nfas.Nodes.{nodes_of}
use Rattle.automata_transform.specs.Retraced.Folds.{AddsNoLook}
use Rattle.automata_transform.proofs.Nfas.Folds.States.{Folding}
use Rattle.automata_transform.proofs.folding.fold_all.Given as goal

abbrev pub invariant-loop-x : goal.invariant-loop-x
invariant-loop-x l = record {
  folding : Folding l.fn.states.items l.states.items l.free (nodes_of l.made.items) l.x;
  looks : AddsNoLook l.fn.made.items l.made.items;
  few : length l.made.items ≤ length l.free;
}
