use Rattle.std.proofs.Common.{◌∷◌, []}
use Rattle.regex_hir.specs.Meaning.{meaning}
use Rattle.prefilters.specs.Needles.{HasNeedleNear}
use Rattle.patterns.specs.Searches.{HaveNeedlesNear}
use Rattle.patterns.proofs.Beginnings.{if_some, near_of_tree}
use Rattle.patterns.proofs.needles.inner_prefilter.Goals as goal

pub returns-in-Ok : goal.returns-in-Ok
returns-in-Ok c =
    if_some c.in-Ok.prefilter (HasNeedleNear (meaning c.in_ok-parsed.parsed.hir))
    (HaveNeedlesNear c.args.options.now (c.args.text.now ∷ []))
    (λ near has. near_of_tree c.args.options.now c.args.text.now c.in_ok-parsed.parsed.hir _ near
    c.in_ok-parsed.ensures.read has) c.in-Ok.ensures
