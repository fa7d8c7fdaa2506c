use Rattle.std.proofs.Common.{◌+◌, ◌-◌}
use Rattle.regex_automata.specs.Promises.{IsCacheOf, StandsAt}
use Rattle.examples.proofs.steps.search.first_match.Given as goal

abbrev pub invariant-units : goal.invariant-units
invariant-units l = record {
  of : IsCacheOf l.cache l.dfa;
  stands : StandsAt l.dfa l.cache l.input l.at l.id;
}

abbrev pub decreases-units : goal.decreases-units
decreases-units l = l.input.end + 1 - l.at
