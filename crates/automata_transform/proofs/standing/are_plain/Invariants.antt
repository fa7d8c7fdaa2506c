use Rattle.automata_transform.proofs.Nfas.Standing.{IsPlain}
use Rattle.automata_base.proofs.Powersets.KeptClosures.{Tested}
use Rattle.automata_transform.proofs.standing.are_plain.Given as goal

abbrev pub invariant-loop-i : goal.invariant-loop-i
invariant-loop-i l = Tested (IsPlain l.nfa) l.list l.i
