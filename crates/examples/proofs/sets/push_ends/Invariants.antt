use Rattle.regex_automata.specs.Promises.{Forward, IsCacheOf, IsWalkOf}
use Rattle.examples.proofs.sets.push_ends.Given as goal

abbrev pub invariant-loop : goal.invariant-loop
invariant-loop l = record {
  of : IsCacheOf l.cache l.set.dfa;
  walk : IsWalkOf Forward l.set.dfa l.input l.state;
}
