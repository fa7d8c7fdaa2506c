use Rattle.std.proofs.Common.{arith, map}
use Rattle.regex_hir.specs.Meaning.{cat_all, meaning}
use Rattle.prefilters.proofs.Following.{near_within}
use Rattle.prefilters.proofs.prefilter.Prefilter.after_head.Goals as goal

pub returns-else-is_empty : goal.returns-else-is_empty
returns-else-is_empty c =
    near_within (meaning c.args.hir.now) (cat_all (map meaning c.parts_of-parts.result.now)) c.literal_after.result
    (c.parts_of-parts.ensures (let inside = c.longest_literal.ensures in omega (arith, inside))) c.literal_after.ensures
