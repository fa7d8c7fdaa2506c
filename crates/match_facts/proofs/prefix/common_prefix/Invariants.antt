use Rattle.std.proofs.Common.{ℕ, ◌<◌, map}
use Rattle.regex_literal.specs.Find.{needle_at}
use Rattle.match_facts.specs.Prefixes.{BeginsWith}
use Rattle.match_facts.proofs.prefix.common_prefix.Given as goal

abbrev pub invariant-loop-needle : goal.invariant-loop-needle
invariant-loop-needle l =
    (n : ℕ) → n < l.needle-index → BeginsWith l.common (needle_at (map (λ v. v.items) l.needles) n)
