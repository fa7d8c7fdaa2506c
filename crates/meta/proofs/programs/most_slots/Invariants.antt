use Rattle.std.proofs.Common.{take}
use Rattle.meta.specs.Caches.{HaveAtMost}
use Rattle.meta.proofs.programs.most_slots.Given as goal

abbrev pub invariant-loop-program : goal.invariant-loop-program
invariant-loop-program l = HaveAtMost l.most (take l.program-index l.programs)
