use Rattle.std.proofs.Common.{false}
use Rattle.automata_determinize.specs.Retraced.Computed.{known_looks}
use Rattle.automata_base.specs.Nfas.Nodes.{nfa_of}
use Rattle.automata_determinize.proofs.Powersets.LookBits.{Sofar}
use Rattle.automata_determinize.proofs.determinize.deciding.known_behind.Given as goal

abbrev pub invariant-loop-index : goal.invariant-loop-index
invariant-loop-index l =
    Sofar (λ look. false) (known_looks (nfa_of l.nfa) l.prev) l.set l.index
