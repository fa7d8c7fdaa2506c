use Rattle.std.proofs.Common.{ℕ, ◌<◌}
use Rattle.automata_base.specs.Nfas.Nodes.{nfa_of}
use Rattle.automata_base.proofs.Nfas.Bounds.{Ends}
use Rattle.automata_transform.proofs.standing.least_byte.Given as goal

abbrev pub invariant-loop-i : goal.invariant-loop-i
invariant-loop-i l = (u : ℕ) → u < l.least → Ends (nfa_of l.nfa) l.list l.i u
