use Rattle.patterns.specs.Attempts.{NoRun}
use Rattle.patterns.proofs.Attempting.{runs_join}
use Rattle.patterns.proofs.pattern.Pattern.find_later.Goals as goal

pub loop-attempts-init : goal.loop-attempts-init
loop-attempts-init c = (c.requires.caches, c.requires.past, NoRun)

pub returns-in-Found-clause-run : goal.returns-in-Found-clause-run
returns-in-Found-clause-run c =
    runs_join c.args.self.now.regex c.args.input.now c.args.cache.now c.loop-attempts.cache c.attempt_after.new.cache
    c.loop-attempts.invariant.2 c.attempt_after.ensures.run

pub returns-in-Unknown-clause-run : goal.returns-in-Unknown-clause-run
returns-in-Unknown-clause-run c =
    runs_join c.args.self.now.regex c.args.input.now c.args.cache.now c.loop-attempts.cache c.attempt_after.new.cache
    c.loop-attempts.invariant.2 c.attempt_after.ensures.run

pub loop-attempts-preserved : goal.loop-attempts-preserved
loop-attempts-preserved c = (
  c.attempt_after.ensures.of,
  c.in-Nothing.ensures.none,
  runs_join c.args.self.now.regex c.args.input.now c.args.cache.now c.loop-attempts.cache c.attempt_after.new.cache
      c.loop-attempts.invariant.2 c.attempt_after.ensures.run,
)
