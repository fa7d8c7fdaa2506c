use Rattle.automata_base.specs.Retraced.ReversedEdges.{lists_of}
use Rattle.automata_transform.proofs.Nfas.Standing.{Stand}
use Rattle.automata_transform.proofs.standing.stand_for.Given as goal

abbrev pub invariant-loop-i : goal.invariant-loop-i
invariant-loop-i l = Stand l.count (lists_of l.lists) l.ids l.list l.i l.rest
