use Rattle.meta.proofs.Answering.{is_for}
use Rattle.meta.proofs.regexes.Regex.next_match.Goals as goal

pub returns-in-Ok-clause-found : goal.returns-in-Ok-clause-found
returns-in-Ok-clause-found c = λ o res is text.
    c.in-Ok.ensures.found _ res is.pattern
    (is_for o c.args.self.now c.args.hay.now text (c.requires.dfas c.if-not-by_dfas.false))
