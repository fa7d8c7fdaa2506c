use Rattle.std.proofs.Common.{◌≡◌, get_or, refl, ◌∙◌, subst}
use Rattle.automata_base.specs.declared.nfa.thompson.state.State.{State}
use Rattle.automata_base.specs.declared.nfa.thompson.state.State.TheVariants.{Fail}
use Rattle.automata_base.specs.declared.nfa.thompson.reach.Edges.TheVariants.{Every}
use Rattle.automata_base.specs.Lists.{In}
use Rattle.automata_base.specs.Nfas.Nodes.{node_of}
use Rattle.automata_base.specs.Retraced.Reach.{targets_at}
use Rattle.automata_transform.proofs.Nfas.Mirrors.Copies.{state_same}
use Rattle.automata_transform.proofs.copies.take_copy.Goals as goal

pub become_copy-requires-clause-members : goal.become_copy-requires-clause-members
become_copy-requires-clause-members c = λ q i.
    let same : c.replace-state.result ≡ get_or c.args.turned.now.items c.args.at Fail =
    c.replace-state.ensures.value
    ∙ state_same c.args.turned.now.items c.args.at c.args.at c.index_mut.result.now c.requires.inside refl
    c.index_mut.ensures.value in
    c.requires.members q (subst (λ (s : State). In q (targets_at Every (node_of s))) same i)
