use Rattle.std.proofs.Common.{ap, ◌∙◌}
use Rattle.automata_base.specs.Nfas.Errors.{transitions_below}
use Rattle.automata_base.proofs.Nfas.Reach.Adding.{next_below}
use Rattle.automata_base.proofs.nfa.thompson.reach.add_nexts.Goals as goal

pub add_next-requires : goal.add_next-requires
add_next-requires c =
    next_below c.loop-transition.set.capacity c.args.transitions.now c.loop-transition.transition-index
    c.transition-item.result
    (ap (λ z. transitions_below z c.args.transitions.now) c.loop-transition.invariant.capacity ∙ c.requires)
    c.loop-transition-test.true c.transition-item.is
