use Rattle.std.proofs.Common.{length}
use Rattle.automata_base.specs.Lists.{Distinct}
use Rattle.automata_determinize.proofs.determinize.valid.are_distinct.Given as goal

abbrev pub invariant-loop-rest : goal.invariant-loop-rest
invariant-loop-rest l = record {
  up : Distinct l.rest → Distinct l.fn.ids;
  down : Distinct l.fn.ids → Distinct l.rest;
}

abbrev pub decreases-loop-rest : goal.decreases-loop-rest
decreases-loop-rest l = length l.rest
