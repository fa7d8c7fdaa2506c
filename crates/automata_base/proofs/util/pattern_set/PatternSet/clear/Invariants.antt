use Rattle.std.proofs.Common.{◌≡◌, ◌≤◌, ◌-◌, ◌++◌, false, drop, length, replicate}
use Rattle.automata_base.specs.Haystacks.PatternSet.{members_from}
use Rattle.automata_base.proofs.util.pattern_set.PatternSet.clear.Given as goal

abbrev pub invariant-loop-self : goal.invariant-loop-self
invariant-loop-self l = record {
  within : l.at ≤ length l.initial.self-inside.which.items;
  size : length l.self-inside.which.items ≡ length l.initial.self-inside.which.items;
  flags : l.self-inside.which.items ≡ replicate l.at false ++ drop l.at l.initial.self-inside.which.items;
  left : l.self-inside.len ≡ length (members_from l.at (drop l.at l.initial.self-inside.which.items));
}

abbrev pub decreases-loop-self : goal.decreases-loop-self
decreases-loop-self l = length l.initial.self-inside.which.items - l.at
