use Rattle.std.proofs.Common.{◌≡◌, length, drop}
use Rattle.automata_transform.specs.Retraced.ReversedEdges.{turns_of, turn_ranges}
use Rattle.automata_transform.proofs.turn.EdgesByTarget.turn_ranges.Given as goal

abbrev pub invariant-loop-range : goal.invariant-loop-range
invariant-loop-range l = record {
  rest :
      turn_ranges (turns_of l.self) l.from (drop l.range-index l.ranges)
      ≡ turn_ranges (turns_of l.fn.self) l.from l.ranges;
  few : length l.self.lists.items ≡ length l.fn.self.lists.items;
}
