use Rattle.std.proofs.Common.{◌≡◌, drop}
use Rattle.automata_base.specs.Nfas.Nodes.{ranges_of}
use Rattle.automata_base.specs.Retraced.Once.{once_from}
use Rattle.automata_base.specs.Retraced.Reach.{nexts}
use Rattle.automata_base.proofs.nfa.thompson.reach.add_nexts.Given as goal

abbrev pub invariant-loop-transition : goal.invariant-loop-transition
invariant-loop-transition l = record {
  rest :
      once_from l.set.items (nexts (ranges_of (drop l.transition-index l.transitions)))
      ≡ once_from l.fn.set.items (nexts (ranges_of l.transitions));
  capacity : l.set.capacity ≡ l.fn.set.capacity;
}
