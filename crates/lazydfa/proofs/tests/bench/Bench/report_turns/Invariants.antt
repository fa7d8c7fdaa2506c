use Rattle.lazydfa.specs.Walks.{IsWalkOver}
use Rattle.lazydfa.proofs.tests.bench.Bench.report_turns.Given as goal

abbrev pub invariant-loop-call : goal.invariant-loop-call
invariant-loop-call g l = IsWalkOver l.self.dfa l.input l.walk
