use Rattle.std.proofs.Common.{ℕ, ◌<◌, ◌≤◌}
use Rattle.automata_base.specs.Nfas.Nodes.{nfa_of}
use Rattle.automata_base.proofs.Nfas.Bounds.{Ends}
use Rattle.automata_transform.proofs.standing.last_end.Given as goal

abbrev pub invariant-loop-i : goal.invariant-loop-i
invariant-loop-i l = record {
  few : l.end ≤ 256;
  none : (u : ℕ) → u < 256 → l.end ≤ u → Ends (nfa_of l.nfa) l.list l.i u;
}
