use Rattle.std.proofs.Common.{ℕ, ◌<◌, ◌≤◌, length, map}
use Rattle.regex_literal.specs.Find.{needle_at}
use Rattle.prefilters.proofs.prefilter.longest.Given as goal

abbrev pub invariant-loop-needle : goal.invariant-loop-needle
invariant-loop-needle l =
    (n : ℕ) → n < l.needle-index → length (needle_at (map (λ v. v.items) l.needles) n) ≤ l.longest
