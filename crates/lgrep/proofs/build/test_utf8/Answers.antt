use Rattle.regex_automata.specs.Promises.{KindAll}
use Rattle.lgrep.proofs.build.test_utf8.Goals as goal

pub returns : goal.returns
returns c = c.in_ok-keeps_utf8.ensures.keeps c.if-not-branch.false KindAll
