use Rattle.automata_transform.proofs.Nfas.Flattens.Tests.{AreFlatBelow}
use Rattle.automata_transform.proofs.flattening.flat_states.Given as goal

abbrev pub invariant-loop-q : goal.invariant-loop-q
invariant-loop-q l = AreFlatBelow l.nfa l.links l.flat.items l.q
