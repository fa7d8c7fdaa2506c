use Rattle.std.proofs.Common.{◌≡◌, List, take}
use Rattle.regex_hir.specs.Re.{Re}
use Rattle.meta.specs.Caches.{AreRoomsOf}
use Rattle.meta.specs.Groups.{FindAllGroups}
use Rattle.meta.specs.Sets.{is_found_from, joined_with}
use Rattle.meta.proofs.program.Programs.which.Given as goal

abbrev pub invariant-programs : goal.invariant-programs
invariant-programs l =
    AreRoomsOf l.simulations l.self.list.items
    × ((res : List Re) → FindAllGroups l.self.list.items res
    → l.found ≡ joined_with (is_found_from l.self.utf8 l.hay l.start) (take l.number res) l.initial.found)
