use Rattle.std.proofs.Common.{◌≡◌, length, drop}
use Rattle.automata_transform.specs.Retraced.ReversedEdges.{turns_of, turn_states}
use Rattle.automata_transform.proofs.turn.EdgesByTarget.turn_states.Given as goal

abbrev pub invariant-loop-id : goal.invariant-loop-id
invariant-loop-id l = record {
  rest :
      turn_states (turns_of l.self) l.states (drop l.id-index l.ids) ≡ turn_states (turns_of l.fn.self) l.states l.ids;
  few : length l.self.lists.items ≡ length l.states;
}
