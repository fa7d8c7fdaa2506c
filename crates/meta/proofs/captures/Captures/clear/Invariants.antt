use Rattle.std.proofs.Common.{◌≡◌, ◌<◌, ℕ, None, vec_len}
use Rattle.meta.specs.Captures.{span_in}
use Rattle.meta.proofs.captures.Captures.clear.Given as goal

abbrev pub invariant-groups : goal.invariant-groups
invariant-groups l =
    (l.self.found ≡ None) × (vec_len l.self.spans ≡ vec_len l.fn.self.spans)
    × ((n : ℕ) → n < l.group → span_in l.self n ≡ None)
