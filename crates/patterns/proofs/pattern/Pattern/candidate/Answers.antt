use Rattle.patterns.proofs.Attempting.{candidate_is}
use Rattle.patterns.proofs.pattern.Pattern.candidate.Goals as goal

pub returns-in-Some : goal.returns-in-Some
returns-in-Some c =
    candidate_is c.args.self.now c.in-Some.bytes c.args.input.now c.haystack.result.now c.start.result c.end.result
    c.find.result c.in-Some.is c.haystack.ensures.valid c.requires.full
    (c.args.self.now.first c.in-Some.bytes c.in-Some.is) c.requires.lazy c.haystack.ensures.same
    c.start.ensures.start c.end.ensures.end c.find.ensures
