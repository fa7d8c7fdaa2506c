use Rattle.automata_transform.specs.Retraced.ReversedEdges.{alternate_lists}
use Rattle.automata_transform.specs.Retraced.ReversedEdges.{AreHeads}
use Rattle.automata_transform.proofs.turn.EdgesByTarget.into_states.Given as goal

abbrev pub invariant-loop-alternates : goal.invariant-loop-alternates
invariant-loop-alternates l = AreHeads l.first l.helpers.items (alternate_lists l.yielded) l.states.items
