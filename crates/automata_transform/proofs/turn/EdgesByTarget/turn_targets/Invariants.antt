use Rattle.std.proofs.Common.{◌≡◌, ◌≤◌, length, drop}
use Rattle.automata_transform.specs.Retraced.DenseRuns.{runs_from}
use Rattle.automata_transform.specs.Retraced.ReversedEdges.{turns_of, turn_ranges}
use Rattle.automata_transform.proofs.turn.EdgesByTarget.turn_targets.Given as goal

abbrev pub invariant-loop-byte : goal.invariant-loop-byte
invariant-loop-byte l = record {
  rest : turn_ranges (turns_of l.self) l.from (runs_from l.lo l.byte (drop l.byte l.targets))
      ≡ turn_ranges (turns_of l.fn.self) l.from (runs_from 0 0 l.targets);
  order : l.lo ≤ l.byte;
  few : length l.self.lists.items ≡ length l.fn.self.lists.items;
}
