use Rattle.std.proofs.Common.{take}
use Rattle.meta.specs.Caches.{AreRoomsOf}
use Rattle.meta.proofs.programs.simulations_of.Given as goal

abbrev pub invariant-loop-program : goal.invariant-loop-program
invariant-loop-program l = AreRoomsOf l.simulations.items (take l.program-index l.programs)
