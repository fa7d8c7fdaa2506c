use Rattle.automata_base.specs.Nfas.Nodes.{nfa_of, node_of}
use Rattle.automata_transform.proofs.Nfas.Flattens.Tests.{stays_flat}
use Rattle.automata_transform.proofs.flattening.flat_other.Goals as goal

pub returns-then-not-is_link : goal.returns-then-not-is_link
returns-then-not-is_link c =
    stays_flat (nfa_of c.args.nfa.now) c.args.links.now c.args.id (node_of c.args.state.now)
    (node_of c.in_ok-copy_of.field-0) c.requires (c.is_link.ensures.no c.if-not-is_link.true) c.in_ok-copy_of.ensures
