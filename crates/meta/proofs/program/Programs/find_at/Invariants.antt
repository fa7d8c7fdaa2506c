use Rattle.std.proofs.Common.{◌≡◌, ◌≤◌, IfSome, length, take}
use Rattle.meta.specs.Caches.{AreRoomsOf}
use Rattle.meta.proofs.Leftmost.{IsLeftmostOf, end_in}
use Rattle.meta.proofs.program.Programs.find_at.Given as goal

abbrev pub invariant-programs : goal.invariant-programs
invariant-programs l =
    AreRoomsOf l.simulations l.self.list.items × (l.end ≡ end_in l.hay l.found)
    × IfSome l.found (λ m. m.end ≤ length l.hay)
    × IsLeftmostOf l.self.utf8 (take l.number l.self.list.items) l.hay l.start l.found
