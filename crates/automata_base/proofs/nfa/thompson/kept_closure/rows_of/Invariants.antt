use Rattle.automata_base.specs.Nfas.Nodes.{nfa_of}
use Rattle.automata_base.proofs.Powersets.KeptClosures.{Filling}
use Rattle.automata_base.proofs.nfa.thompson.kept_closure.rows_of.Given as goal

abbrev pub invariant-loop-i : goal.invariant-loop-i
invariant-loop-i l = Filling (nfa_of l.nfa) l.kept l.rows.items l.i
