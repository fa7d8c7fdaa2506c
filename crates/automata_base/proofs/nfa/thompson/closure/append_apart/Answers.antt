use Rattle.std.proofs.Common.{refl, subst, arith}
use Rattle.automata_base.specs.Lists.{In}
use Rattle.automata_base.proofs.nfa.thompson.closure.append_apart.Goals as goal

pub append-requires-clause-below : goal.append-requires-clause-below
append-requires-clause-below c = λ q i.
    let low = c.as_slice.ensures.below q (subst (λ z. In q z) c.as_slice.ensures.items i) in
    omega (arith, low, c.requires)

pub append-requires-clause-new : goal.append-requires-clause-new
append-requires-clause-new c = λ q i. c.if-is_apart.ensures refl q (subst (λ z. In q z) c.as_slice.ensures.items i)
