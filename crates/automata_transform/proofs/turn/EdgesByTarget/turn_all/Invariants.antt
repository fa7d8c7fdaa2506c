use Rattle.std.proofs.Common.{◌≡◌, length, drop}
use Rattle.automata_transform.specs.Retraced.ReversedEdges.{turns_of, turn_all}
use Rattle.automata_transform.proofs.turn.EdgesByTarget.turn_all.Given as goal

abbrev pub invariant-loop-to : goal.invariant-loop-to
invariant-loop-to l = record {
  rest :
      turn_all (turns_of l.self) l.from (drop l.to-index l.alternates)
      ≡ turn_all (turns_of l.fn.self) l.from l.alternates;
  few : length l.self.lists.items ≡ length l.fn.self.lists.items;
}
