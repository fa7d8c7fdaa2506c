use Rattle.regex_automata.specs.Promises.{KindAll}
use Rattle.lexer.proofs.lex.test_utf8.Goals as goal

pub returns-in-Ok-true-clause-keeps : goal.returns-in-Ok-true-clause-keeps
returns-in-Ok-true-clause-keeps c = c.in-Ok-true.ensures.keeps c.in-Ok-true.field-0-test KindAll
