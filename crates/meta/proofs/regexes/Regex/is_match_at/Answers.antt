use Rattle.meta.specs.Regexes.{AfterError, ByDfas}
use Rattle.meta.proofs.Answering.{is_for, may_of}
use Rattle.meta.proofs.regexes.Regex.is_match_at.Goals as goal

pub returns-in-Ok-clause-found : goal.returns-in-Ok-clause-found
returns-in-Ok-clause-found c = λ o res is text.
    c.in-Ok.ensures.found _ res is.pattern
    (is_for o c.args.self.now c.args.hay.now text
    (may_of c.suits_dfas.result c.args.self.now c.args.hay.now c.suits_dfas.ensures c.if-not-suits_dfas.false))

pub returns-in-Ok-clause-searched : goal.returns-in-Ok-clause-searched
returns-in-Ok-clause-searched c = ByDfas c.in-Ok.ensures.searched

pub returns-in-Err-clause-searched : goal.returns-in-Err-clause-searched
returns-in-Err-clause-searched c = AfterError c.in-Err.field-0 c.in-Err.ensures.searched
