use Rattle.regex_automata.specs.Promises.{forward_engine}
use Rattle.patterns.specs.Attempts.{NoRun}
use Rattle.patterns.proofs.Attempting.{one_run, skips_on}
use Rattle.patterns.proofs.pattern.Pattern.attempt_after.Goals as goal

pub find_at-requires-clause-skips : goal.find_at-requires-clause-skips
find_at-requires-clause-skips c = λ sound.
    skips_on (forward_engine c.args.self.now.regex) c.args.input.now c.args.at c.in-Some.next
    (c.requires.past.1 sound c.requires.plain) c.in-Some.ensures

pub returns-in-Some-clause-run : goal.returns-in-Some-clause-run
returns-in-Some-clause-run c =
    one_run c.args.self.now.regex c.args.input.now c.args.at c.in-Some.next c.args.cache.now c.find_at.new.cache
    c.requires.past c.requires.plain c.in-Some.ensures c.find_at.ensures.run

pub returns-in_default-clause-run : goal.returns-in_default-clause-run
returns-in_default-clause-run c = NoRun
