use Rattle.std.proofs.Common.{ℕ, ◌<◌, map}
use Rattle.regex_literal.specs.Find.{needle_at}
use Rattle.prefilters.specs.Pairs.{OccursFolded}
use Rattle.prefilters.proofs.pairs.any_occurs.Given as goal

abbrev pub invariant-loop-needle : goal.invariant-loop-needle
invariant-loop-needle l =
    (n : ℕ) → n < l.needle-index → OccursFolded l.fold l.hay (needle_at (map (λ v. v.items) l.folded) n) l.at → ⊥
