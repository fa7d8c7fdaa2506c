use Rattle.std.proofs.Common.{[], ◌∷◌, length, length-append, ap, ◌∙◌}
use Rattle.automata_base.specs.Nfas.Nodes.{nodes_of}
use Rattle.automata_transform.proofs.Nfas.Mirrors.Copies.{nodes_more}
use Rattle.automata_transform.proofs.turn.push_state.Goals as goal

pub returns-clause-nodes : goal.returns-clause-nodes
returns-clause-nodes c = ap nodes_of c.in_ok-push.ensures.items ∙ nodes_more c.args.states.now.items c.args.state

pub returns-clause-more : goal.returns-clause-more
returns-clause-more c =
    ap (λ z. length z) c.in_ok-push.ensures.items ∙ length-append c.args.states.now.items (c.args.state ∷ [])
