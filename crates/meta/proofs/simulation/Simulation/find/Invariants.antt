use Rattle.std.proofs.Common.{◌≤◌, ◌-◌}
use Rattle.meta.specs.Caches.{HasRoomOf}
use Rattle.meta.specs.Simulations.{BeginsNowhere}
use Rattle.meta.proofs.simulation.Simulation.find.Given as goal

abbrev pub invariant-starts : goal.invariant-starts
invariant-starts l =
    (l.start ≤ l.at) × HasRoomOf l.program l.self × BeginsNowhere l.utf8 l.program l.hay l.start l.at

abbrev pub decreases-starts : goal.decreases-starts
decreases-starts l = l.end - l.at
