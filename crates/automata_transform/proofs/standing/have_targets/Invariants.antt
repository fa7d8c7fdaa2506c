use Rattle.automata_base.specs.Nfas.Nodes.{nfa_of}
use Rattle.automata_base.proofs.Nfas.Bounds.{Expects}
use Rattle.automata_transform.proofs.standing.have_targets.Given as goal

abbrev pub invariant-loop-i : goal.invariant-loop-i
invariant-loop-i l = Expects (nfa_of l.nfa) l.list l.expected l.u l.i l.rest
