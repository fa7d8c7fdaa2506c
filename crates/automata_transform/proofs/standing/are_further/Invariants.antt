use Rattle.std.proofs.Common.{ℕ, ◌<◌}
use Rattle.automata_base.specs.Retraced.ReversedEdges.{lists_of}
use Rattle.automata_transform.proofs.Nfas.Standing.{IsFurther}
use Rattle.automata_transform.proofs.standing.are_further.Given as goal

abbrev pub invariant-loop-k : goal.invariant-loop-k
invariant-loop-k l = (k : ℕ) → k < l.k → IsFurther l.nfa l.merged (lists_of l.lists) k
