use Rattle.std.proofs.Common.{◌≡◌}
use Rattle.automata_base.specs.Haystacks.PatternSet.{members}
use Rattle.lazydfa_c.specs.Caches.{written_over}
use Rattle.lazydfa_c.proofs.Written.{under}
use Rattle.lazydfa_c.proofs.sets.write_members.Given as goal

abbrev pub invariant-loop-pattern : goal.invariant-loop-pattern
invariant-loop-pattern l = under l.at l.pattern-iterator l.out ≡ written_over (members l.fn.set) l.fn.out
