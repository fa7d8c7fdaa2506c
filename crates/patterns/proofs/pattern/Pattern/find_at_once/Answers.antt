use Rattle.patterns.specs.Attempts.{NoRun}
use Rattle.patterns.proofs.Attempting.{attempted}
use Rattle.patterns.proofs.pattern.Pattern.find_at_once.Goals as goal

pub returns-in-Found-clause-attempt : goal.returns-in-Found-clause-attempt
returns-in-Found-clause-attempt c =
    attempted c.args.self.now c.args.input.now c.in-Some.start c.args.cache.now c.find_at.new.cache c.find_at.new.cache
    c.if-not-self.false c.in-Some.ensures c.find_at.ensures.run NoRun

pub returns-in_default-find_at-clause-attempt : goal.returns-in_default-find_at-clause-attempt
returns-in_default-find_at-clause-attempt c =
    attempted c.args.self.now c.args.input.now c.in-Some.start c.args.cache.now c.find_at.new.cache c.find_at.new.cache
    c.if-not-self.false c.in-Some.ensures c.find_at.ensures.run NoRun
