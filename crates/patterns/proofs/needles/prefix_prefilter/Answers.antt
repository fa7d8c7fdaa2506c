use Rattle.std.proofs.Common.{map}
use Rattle.regex_extract.specs.Needles.{needles_of}
use Rattle.patterns.specs.Searches.{AreNearFor, AreNeedlesOf, HaveNeedlesNear}
use Rattle.patterns.proofs.Beginnings.{are_near, if_some}
use Rattle.patterns.proofs.Items.{given}
use Rattle.patterns.proofs.needles.prefix_prefilter.Goals as goal

pub returns-in-Ok : goal.returns-in-Ok
returns-in-Ok c =
    let options = c.args.options.now in
    let texts = map (λ text. text.now) c.args.texts.now in
    let needles = needles_of c.in-Ok-Some.needles in
    let found =
    given (λ v. AreNeedlesOf options texts (needles_of v)) c.in-Ok-Some.field-0-is c.in-Ok-Some.ensures in
    if_some c.in-Ok.prefilter (AreNearFor needles) (HaveNeedlesNear options texts)
    (λ near may. are_near options texts needles near may found) c.in-Ok.ensures
