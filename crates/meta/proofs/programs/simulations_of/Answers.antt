use Rattle.std.proofs.Common.{◌+◌, List, subst, sym, take}
use Rattle.meta.specs.Caches.{AreRoomsOf, HasRoomOf}
use Rattle.meta.specs.declared.program.Program.{Program}
use Rattle.meta.specs.declared.simulation.Simulation.{Simulation}
use Rattle.meta.proofs.Rooms.{rooms_next}
use Rattle.meta.proofs.programs.simulations_of.Goals as goal

pub loop-program-preserved : goal.loop-program-preserved
loop-program-preserved c =
    let ps = c.args.programs.now in
    let i = c.loop-program.program-index in
    let item = c.program-item.result in
    let s = c.in_ok-simulation.simulation in
    subst (λ (sims : List Simulation). AreRoomsOf sims (take (i + 1) ps)) (sym c.in_ok-push.ensures.items)
    (rooms_next c.loop-program.simulations.items ps i item s c.loop-program-test.true c.loop-program.invariant
    (subst (λ (p : Program). HasRoomOf p s) c.program-item.is c.in_ok-simulation.ensures))
