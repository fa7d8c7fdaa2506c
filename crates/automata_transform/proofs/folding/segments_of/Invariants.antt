use Rattle.std.proofs.Common.{length, take}
use Rattle.automata_base.specs.Retraced.ReversedEdges.{lists_of}
use Rattle.automata_transform.proofs.Nfas.Folds.Parts.{AreRead}
use Rattle.automata_transform.proofs.folding.segments_of.Given as goal

abbrev pub invariant-loop-id : goal.invariant-loop-id
invariant-loop-id l = AreRead l.states (take l.id-index l.ids) (lists_of l.lists.items) (length l.lists.items)
