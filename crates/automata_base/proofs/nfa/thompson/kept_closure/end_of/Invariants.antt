use Rattle.std.proofs.Common.{ℕ, ◌≤◌}
use Rattle.automata_base.proofs.Nfas.Bounds.{Skips}
use Rattle.automata_base.proofs.nfa.thompson.kept_closure.end_of.Given as goal

abbrev pub invariant-loop-i : goal.invariant-loop-i
invariant-loop-i l = record {
  few : l.end ≤ 256;
  none : (u : ℕ) → l.end ≤ u → Skips l.ranges l.i u;
}
