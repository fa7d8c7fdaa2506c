use Rattle.std.proofs.Common.{◌≡◌, ◌<◌, ℕ, IfSome, Some, vec_len}
use Rattle.meta.specs.Captures.{span_in}
use Rattle.meta.specs.Slots.{LiesInMatch, slots_span}
use Rattle.meta.proofs.captures.Captures.read.Given as goal

abbrev pub invariant-groups : goal.invariant-groups
invariant-groups l =
    (l.self.found ≡ Some l.found) × (vec_len l.self.spans ≡ vec_len l.fn.self.spans)
    × ((n : ℕ) → n < l.group
    → (span_in l.self n ≡ slots_span l.found l.slots n) × IfSome (span_in l.self n) (LiesInMatch l.found))
