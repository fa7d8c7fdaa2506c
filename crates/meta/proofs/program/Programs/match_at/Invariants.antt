use Rattle.std.proofs.Common.{take}
use Rattle.meta.specs.Caches.{AreRoomsOf}
use Rattle.meta.proofs.Anchoring.{NoneMatches}
use Rattle.meta.proofs.program.Programs.match_at.Given as goal

abbrev pub invariant-programs : goal.invariant-programs
invariant-programs l =
    AreRoomsOf l.simulations l.self.list.items
    × NoneMatches l.self.utf8 l.hay l.at (take l.number l.self.list.items)
