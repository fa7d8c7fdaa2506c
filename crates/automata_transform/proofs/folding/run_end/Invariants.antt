use Rattle.std.proofs.Common.{ℕ, ◌≡◌, ◌<◌, ◌≤◌, ◌-◌}
use Rattle.automata_transform.specs.Retraced.Segments.{leaf_head}
use Rattle.automata_transform.proofs.folding.run_end.Given as goal

abbrev pub invariant-loop-end : goal.invariant-loop-end
invariant-loop-end l = record {
  after : l.byte < l.end;
  few : l.end ≤ 256;
  same : (u : ℕ) → l.byte ≤ u → u < l.end → leaf_head l.heads u ≡ leaf_head l.heads l.byte;
}

abbrev pub decreases-loop-end : goal.decreases-loop-end
decreases-loop-end l = 256 - l.end
