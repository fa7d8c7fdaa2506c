use Rattle.std.proofs.Common.{◌≡◌}
use Rattle.patterns.specs.Iteration.{most_left}
use Rattle.meta.specs.Caches.{HaveRoomFor}
use Rattle.meta.proofs.tests.count_in_turn.Given as goal

abbrev pub invariant-matches : goal.invariant-matches
invariant-matches l =
    HaveRoomFor l.captures l.regex.programs × (l.matches.regex.now ≡ l.regex) × (l.matches.haystack.now ≡ l.hay)

abbrev pub decreases-matches : goal.decreases-matches
decreases-matches l = most_left l.matches.ended l.hay l.matches.last
