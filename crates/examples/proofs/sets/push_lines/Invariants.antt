use Rattle.regex_automata.specs.Promises.{IsCacheOf}
use Rattle.examples.proofs.sets.push_lines.Given as goal

abbrev pub invariant-loop-line : goal.invariant-loop-line
invariant-loop-line l =
    (goal.iterator-loop-line).can_next l.line-iterator
    × (goal.iterator-loop-line).is_finite l.line-iterator
    × IsCacheOf l.cache l.set.dfa
