use Rattle.regex_automata.specs.Promises.{AreCachesOf}
use Rattle.patterns.specs.Attempts.{AreLaterRuns, BeginsLater}
use Rattle.patterns.proofs.pattern.Pattern.find_later.Given as goal

abbrev pub invariant-loop-attempts : goal.invariant-loop-attempts
invariant-loop-attempts l =
    AreCachesOf l.cache l.self.regex × BeginsLater l.self.regex l.input l.at
    × AreLaterRuns l.self.regex l.input l.initial.cache l.cache
