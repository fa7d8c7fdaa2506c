use Rattle.std.proofs.Common.{◌≡◌, drop}
use Rattle.automata_base.specs.Nfas.Nodes.{dense_from}
use Rattle.automata_base.specs.Retraced.Once.{once_from}
use Rattle.automata_base.specs.Retraced.Reach.{nexts}
use Rattle.automata_base.proofs.nfa.thompson.reach.add_all_dense.Given as goal

abbrev pub invariant-loop-target : goal.invariant-loop-target
invariant-loop-target l = record {
  rest :
      once_from l.set.items (nexts (dense_from 0 (drop l.target-index l.targets)))
      ≡ once_from l.fn.set.items (nexts (dense_from 0 l.targets));
  capacity : l.set.capacity ≡ l.fn.set.capacity;
}
