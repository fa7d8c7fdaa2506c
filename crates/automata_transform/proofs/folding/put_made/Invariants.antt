use Rattle.std.proofs.Common.{length}
use Rattle.automata_transform.specs.Retraced.Folds.{AddsNoLook}
use Rattle.automata_transform.proofs.Nfas.Folds.Placed.{Placing}
use Rattle.automata_transform.proofs.folding.put_made.Given as goal

abbrev pub invariant-loop-state : goal.invariant-loop-state
invariant-loop-state l = record {
  placing : Placing l.free l.fn.states.items l.states.items l.fn.made.items l.made.items;
  looks : AddsNoLook l.fn.states.items l.states.items;
}

abbrev pub decreases-loop-state : goal.decreases-loop-state
decreases-loop-state l = length l.made.items
