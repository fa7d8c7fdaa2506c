use Rattle.std.proofs.Common.{ℕ, ◌<◌}
use Rattle.automata_base.proofs.Nfas.Bounds.{Skips}
use Rattle.automata_base.proofs.nfa.thompson.kept_closure.first_of.Given as goal

abbrev pub invariant-loop-i : goal.invariant-loop-i
invariant-loop-i l = (u : ℕ) → u < l.first → Skips l.ranges l.i u
