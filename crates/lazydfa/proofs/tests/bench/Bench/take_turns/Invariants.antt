use Rattle.lazydfa.specs.Walks.{IsWalkOver}
use Rattle.lazydfa.proofs.tests.bench.Bench.take_turns.Given as goal

abbrev pub invariant-loop-call : goal.invariant-loop-call
invariant-loop-call g l = IsWalkOver l.self.dfa l.input l.walk

abbrev pub invariant-loop-number : goal.invariant-loop-number
invariant-loop-number g l = IsWalkOver l.self.dfa l.input l.walk
