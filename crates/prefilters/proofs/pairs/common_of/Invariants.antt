use Rattle.std.proofs.Common.{ℕ, ◌<◌, map}
use Rattle.regex_literal.specs.Find.{needle_at}
use Rattle.prefilters.specs.Pairs.{BeginsWithByte}
use Rattle.prefilters.proofs.pairs.common_of.Given as goal

abbrev pub invariant-loop-needle : goal.invariant-loop-needle
invariant-loop-needle l =
    (n : ℕ) → n < l.needle-index → BeginsWithByte l.byte (needle_at (map (λ v. v.items) l.folded) n)
