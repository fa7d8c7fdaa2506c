use Rattle.std.proofs.Common.{List, sym, subst}
use Rattle.automata_base.specs.declared.nfa.thompson.state.State.{State}
use Rattle.automata_base.specs.declared.nfa.thompson.reach.Edges.TheVariants.{Every}
use Rattle.automata_base.specs.Lists.{In}
use Rattle.automata_base.specs.Retraced.Reach.{targets_of}
use Rattle.automata_transform.proofs.copies.add_copies.Goals as goal

pub copy_all-requires-clause-closed : goal.copy_all-requires-clause-closed
copy_all-requires-clause-closed c = λ x q i j.
    c.requires.closed x q i
    (subst (λ (z : List State). In q (targets_of Every z x)) c.as_slice.ensures.value j)
