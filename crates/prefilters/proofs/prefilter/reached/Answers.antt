use Rattle.std.proofs.Common.{arith, subst}
use Rattle.regex_literal.specs.BoundedSearch.{IsBounded}
use Rattle.prefilters.proofs.prefilter.reached.Goals as goal

pub returns-in-Missing : goal.returns-in-Missing
returns-in-Missing c = λ hay needles start b k low high.
    subst (λ found. IsBounded hay needles start found) c.in-Missing.is b k low (omega (arith, high))
