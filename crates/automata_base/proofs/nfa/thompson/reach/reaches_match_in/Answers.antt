use Rattle.std.proofs.Common.{◌<◌, subst}
use Rattle.automata_base.specs.Lists.{In}
use Rattle.automata_base.proofs.Nfas.Reach.Matched.{match_found}
use Rattle.automata_base.proofs.nfa.thompson.reach.reaches_match_in.Goals as goal

pub is_some_match-requires : goal.is_some_match-requires
is_some_match-requires c = λ q i.
    subst (λ z. q < z) c.walk.ensures.capacity
    (c.as_slice.ensures.below q (subst (λ z. In q z) c.as_slice.ensures.items i))

pub returns-clause-found : goal.returns-clause-found
returns-clause-found c =
    match_found c.args.states.now c.args.roots.now c.as_slice.result.now c.walk.new.set.items c.is_some_match.result
    c.as_slice.ensures.items c.is_some_match.ensures c.walk.ensures.reached
