use Rattle.std.proofs.Common.{◌≡◌, ◌++◌, ◌<◌, ◌^◌}
use Rattle.automata_base.specs.Powersets.Code.{varint}
use Rattle.automata_base.proofs.nfa.thompson.ids_code.push_number.Given as goal

abbrev pub invariant-loop-rest : goal.invariant-loop-rest
invariant-loop-rest l = record {
  bound : l.rest < 2 ^ 35;
  reported : l.out.items ++ varint l.rest ≡ l.fn.out.items ++ varint l.fn.n;
}

abbrev pub decreases-loop-rest : goal.decreases-loop-rest
decreases-loop-rest l = l.rest
