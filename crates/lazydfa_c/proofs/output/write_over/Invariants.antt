use Rattle.std.proofs.Common.{◌≡◌, drop}
use Rattle.lazydfa_c.specs.Caches.{written_over}
use Rattle.lazydfa_c.proofs.Written.{under}
use Rattle.lazydfa_c.proofs.output.write_over.Given as goal

abbrev pub invariant-loop-item : goal.invariant-loop-item
invariant-loop-item g l = under l.at (drop l.item-index l.items) l.out ≡ written_over l.fn.items l.fn.out
