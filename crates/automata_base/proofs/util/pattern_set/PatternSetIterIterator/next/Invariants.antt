use Rattle.std.proofs.Common.{length, ◌-◌, ◌≡◌, drop}
use Rattle.automata_base.specs.Haystacks.PatternSet.{members_from, AreLeft}
use Rattle.automata_base.proofs.util.pattern_set.PatternSetIterIterator.next.Given as goal

abbrev pub invariant-loop-self : goal.invariant-loop-self
invariant-loop-self l = record {
  rest : members_from l.self-inside.at (drop l.self-inside.at l.self-inside.which.now)
      ≡ members_from l.initial.self-inside.at (drop l.initial.self-inside.at l.initial.self-inside.which.now);
  left : AreLeft l.self-inside.which.now l.self-inside.at l.self-inside.left;
}

abbrev pub decreases-loop-self : goal.decreases-loop-self
decreases-loop-self l = length l.self-inside.which.now - l.self-inside.at
