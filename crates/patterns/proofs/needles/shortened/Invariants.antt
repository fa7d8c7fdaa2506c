use Rattle.std.proofs.Common.{ℕ, ◌<◌, map}
use Rattle.regex_extract.specs.Needles.{needles_of}
use Rattle.regex_literal.specs.Find.{needle_at}
use Rattle.patterns.proofs.Beginnings.{HasPrefix}
use Rattle.patterns.proofs.needles.shortened.Given as goal

abbrev pub invariant-loop-needle : goal.invariant-loop-needle
invariant-loop-needle l =
    (n : ℕ) → n < l.needle-index → HasPrefix (needles_of l.short) (needle_at (map (λ v. v.items) l.needles) n)
