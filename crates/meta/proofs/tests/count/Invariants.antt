use Rattle.std.proofs.Common.{◌≡◌}
use Rattle.meta.specs.Caches.{AreRoomsOf, HaveRoomFor}
use Rattle.meta.proofs.tests.count.Given as goal

abbrev pub invariant-loop-item : goal.invariant-loop-item
invariant-loop-item l =
    goal.iterator-loop-item.can_next l.item-iterator × goal.iterator-loop-item.is_finite l.item-iterator
    × AreRoomsOf l.cache.1.1.0.items l.regex.programs.list.items × HaveRoomFor l.captures l.regex.programs
    × (l.item-iterator.haystack.now ≡ l.hay)
