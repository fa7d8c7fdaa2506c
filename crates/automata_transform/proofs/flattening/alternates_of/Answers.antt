use Rattle.std.proofs.Common.{◌∙◌, ap}
use Rattle.automata_base.specs.Nfas.Nodes.{nfa_of, node_of}
use Rattle.automata_transform.proofs.Nfas.Flattens.Tests.{prefix_done, prefix_next}
use Rattle.automata_transform.proofs.Nfas.Standing.{node_found}
use Rattle.automata_transform.proofs.flattening.alternates_of.Goals as goal

pub loop-preserved : goal.loop-preserved
loop-preserved c =
    prefix_next (nfa_of c.args.nfa.now) c.args.links.now c.args.alt1 c.args.alt2 c.loop.first c.loop.last
    c.in-BinaryUnion.alt1 c.in-BinaryUnion.alt2 c.loop.all.items c.push.new.self.items c.loop.invariant
    (c.is_link.ensures.no c.if-is_link.false) (c.is_link-in-loop.ensures.yes c.if-not-is_link.false)
    (node_found c.args.nfa.now c.states-states.result.now c.as_usize-at.result c.loop.last c.index-states-at.result
    c.states-states.ensures.same c.as_usize-at.ensures.value c.if-at-states.false c.index-states-at.is
    ∙ ap node_of c.in-BinaryUnion.is)
    c.in_ok-push.ensures.items

pub returns-then-not-is_link : goal.returns-then-not-is_link
returns-then-not-is_link c =
    prefix_done (nfa_of c.args.nfa.now) c.args.links.now c.args.alt1 c.args.alt2 c.loop.first c.loop.last
    c.loop.all.items c.push.new.self.items c.push-then-not-is_link.new.self.items c.loop.invariant
    (c.is_link.ensures.no c.if-is_link.false) (c.is_link-in-loop.ensures.no c.if-not-is_link.true)
    c.in_ok-push.ensures.items c.in_ok-push-2.ensures.items
