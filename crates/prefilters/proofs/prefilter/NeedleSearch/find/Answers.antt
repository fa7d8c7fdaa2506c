use Rattle.std.proofs.Common.{length, subst, sym}
use Rattle.prefilters.specs.NeedleSearches.{needles_in}
use Rattle.prefilters.specs.Needles.{StopsBeforeNeedle}
use Rattle.prefilters.proofs.prefilter.NeedleSearch.find.Goals as goal

pub returns-in-Literals : goal.returns-in-Literals
returns-in-Literals c =
    subst (λ s. StopsBeforeNeedle c.args.hay.now (needles_in s) c.args.start (length c.args.hay.now) c.reached.result)
    (sym c.in-Literals.is) (c.reached.ensures _ _ _ c.find_bounded.ensures.bounded)

pub returns-in-Pairs : goal.returns-in-Pairs
returns-in-Pairs c =
    subst (λ s. StopsBeforeNeedle c.args.hay.now (needles_in s) c.args.start (length c.args.hay.now) c.find.result)
    (sym c.in-Pairs.is) c.find.ensures
