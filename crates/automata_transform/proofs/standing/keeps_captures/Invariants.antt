use Rattle.automata_transform.proofs.Nfas.Captures.{KeepsBelow}
use Rattle.automata_transform.proofs.standing.keeps_captures.Given as goal

abbrev pub invariant-loop-q : goal.invariant-loop-q
invariant-loop-q l = KeepsBelow l.nfa l.other l.q
