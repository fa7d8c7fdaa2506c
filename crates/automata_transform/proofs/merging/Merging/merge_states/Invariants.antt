use Rattle.std.proofs.Common.{◌≤◌, ◌+◌, length}
use Rattle.automata_transform.proofs.merging.Merging.merge_states.Given as goal

abbrev pub invariant-loop-state : goal.invariant-loop-state
invariant-loop-state l = length l.states.items ≤ length l.fn.states.items + l.state-index
