use Rattle.std.proofs.Common.{ℕ, ◌<◌, map}
use Rattle.regex_literal.specs.Find.{needle_at}
use Rattle.prefilters.specs.Pairs.{CoversNeedle}
use Rattle.prefilters.proofs.pairs.pairs_of.Given as goal

abbrev pub invariant-loop-needle : goal.invariant-loop-needle
invariant-loop-needle l =
    (fold n : ℕ) → n < l.needle-index
    → CoversNeedle fold l.pairs.items (needle_at (map (λ v. v.items) l.needles) n)
