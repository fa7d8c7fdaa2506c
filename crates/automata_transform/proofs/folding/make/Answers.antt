use Rattle.std.proofs.Common.{◌≡◌, length, arith}
use Rattle.automata_base.specs.Nfas.Nodes.{node_of, nodes_of}
use Rattle.automata_transform.proofs.Nfas.Folds.Heads.{made_last}
use Rattle.automata_transform.proofs.folding.make.Goals as goal

pub returns-clause-made : goal.returns-clause-made
returns-clause-made c =
    let at : c.len-at.result ≡ length c.args.made.now.items = omega (arith, c.len-at.ensures) in
    made_last c.args.free.now c.args.made.now.items (nodes_of c.push_state.new.states.items) (node_of c.args.state)
    c.len-at.result
    c.index-free-at.result at (omega arith) c.index-free-at.is c.in_ok-push_state.ensures.nodes
