use Rattle.std.proofs.Common.{ℕ, ◌<◌}
use Rattle.automata_base.specs.Nfas.Nfa.{node}
use Rattle.automata_base.specs.Nfas.Nodes.{nfa_of}
use Rattle.automata_base.specs.Retraced.ReversedEdges.{lists_of}
use Rattle.automata_transform.proofs.Nfas.Standing.{IsOld}
use Rattle.automata_transform.proofs.standing.are_old.Given as goal

abbrev pub invariant-loop-q : goal.invariant-loop-q
invariant-loop-q l =
    (q : ℕ) → q < l.q → IsOld l.nfa l.merged (lists_of l.lists) (node (nfa_of l.merged) q) (node (nfa_of l.nfa) q)
