use Rattle.std.proofs.Common.{ℕ, ◌<◌, map}
use Rattle.regex_extract.specs.Needles.{needles_of}
use Rattle.regex_literal.specs.Find.{needle_at}
use Rattle.prefilters.specs.Pairs.{HasFoldOf}
use Rattle.prefilters.proofs.pairs.folded_of.Given as goal

abbrev pub invariant-loop-needle : goal.invariant-loop-needle
invariant-loop-needle l =
    (n : ℕ) → n < l.needle-index
    → HasFoldOf l.fold (needle_at (map (λ v. v.items) l.needles) n) (needles_of l.folded)
