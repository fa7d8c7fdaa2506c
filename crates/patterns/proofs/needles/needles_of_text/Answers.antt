use Rattle.regex_extract.specs.Needles.{needles_of}
use Rattle.patterns.proofs.Beginnings.{if_some, needles_of_tree}
use Rattle.patterns.proofs.needles.needles_of_text.Goals as goal

pub returns-in-Ok : goal.returns-in-Ok
returns-in-Ok c =
    if_some c.in-Ok.needles _ _
    (λ v starts. needles_of_tree c.args.options.now c.args.text.now c.in_ok-parsed.parsed.hir _ (needles_of v)
    c.in_ok-parsed.ensures.read starts) c.in-Ok.ensures
