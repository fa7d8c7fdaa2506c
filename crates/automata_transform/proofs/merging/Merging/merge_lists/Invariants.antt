use Rattle.std.proofs.Common.{◌≤◌, ◌+◌, length}
use Rattle.automata_transform.proofs.merging.Merging.merge_lists.Given as goal

abbrev pub invariant-loop-at : goal.invariant-loop-at
invariant-loop-at l = record {
  few : length l.states.items ≤ length l.fn.states.items + l.at;
  most : l.at ≤ l.most;
}
