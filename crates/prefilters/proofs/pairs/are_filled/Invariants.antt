use Rattle.std.proofs.Common.{ℕ, ◌<◌, ◌≤◌, length, map}
use Rattle.regex_literal.specs.Find.{needle_at}
use Rattle.prefilters.proofs.pairs.are_filled.Given as goal

abbrev pub invariant-loop-needle : goal.invariant-loop-needle
invariant-loop-needle l =
    (n : ℕ) → n < l.needle-index → 1 ≤ length (needle_at (map (λ v. v.items) l.needles) n)
