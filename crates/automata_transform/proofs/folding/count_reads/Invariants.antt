use Rattle.std.proofs.Common.{◌≤◌}
use Rattle.automata_transform.proofs.folding.count_reads.Given as goal

abbrev pub invariant-loop-id : goal.invariant-loop-id
invariant-loop-id l = l.count ≤ l.id-index
