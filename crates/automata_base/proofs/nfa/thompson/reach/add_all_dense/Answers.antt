use Rattle.std.proofs.Common.{ap, ◌∙◌}
use Rattle.automata_base.specs.Nfas.Nodes.{dense_from}
use Rattle.automata_base.specs.Retraced.Once.{once_from}
use Rattle.automata_base.specs.Retraced.Reach.{nexts}
use Rattle.automata_base.specs.Lists.{all_below}
use Rattle.automata_base.proofs.Nfas.Reach.Adding.{id_below, dense_next}
use Rattle.automata_base.proofs.nfa.thompson.reach.add_all_dense.Goals as goal

pub add_dense-requires : goal.add_dense-requires
add_dense-requires c =
    id_below c.loop-target.set.capacity c.args.targets.now c.loop-target.target-index c.target-item.result
    (ap (λ z. all_below z c.args.targets.now) c.loop-target.invariant.capacity ∙ c.requires) c.loop-target-test.true
    c.target-item.is

pub loop-target-preserved : goal.loop-target-preserved
loop-target-preserved c = record {
  rest =
      dense_next c.loop-target.set.items c.args.targets.now c.add_dense.new.set.items
      (once_from c.args.set.now.items (nexts (dense_from 0 c.args.targets.now)))
      c.loop-target.target-index c.target-item.result c.loop-target-test.true c.target-item.is c.add_dense.ensures.items
      c.loop-target.invariant.rest;
  capacity = c.add_dense.ensures.capacity ∙ c.loop-target.invariant.capacity;
}
