use Rattle.std.proofs.Common.{◌≡◌}
use Rattle.lazydfa_c.specs.Caches.{written_over}
use Rattle.lazydfa_c.proofs.Grouping.{reads_in}
use Rattle.lazydfa_c.proofs.groups.write_spans.Given as goal

abbrev pub invariant-loop-group : goal.invariant-loop-group
invariant-loop-group l = l.out ≡ written_over (reads_in l.captures l.group) l.fn.out
