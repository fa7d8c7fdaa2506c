use Rattle.std.proofs.Common.{refl, sym}
use Rattle.automata_base.specs.Nfas.Nodes.{node_of}
use Rattle.automata_transform.proofs.Nfas.Flattens.Tests.{flat_next}
use Rattle.automata_transform.proofs.Nfas.Merges.Places.{cond_one}
use Rattle.automata_transform.proofs.Nfas.Standing.{node_found}
use Rattle.automata_transform.proofs.flattening.flat_states.Goals as goal

pub loop-q-preserved : goal.loop-q-preserved
loop-q-preserved c =
    flat_next c.args.nfa.now c.args.links.now c.loop-q.flat.items c.push.new.self.items c.loop-q.q c.in-Some.id
    c.in-Some-2.state (node_of c.index-states-q.result) c.loop-q.invariant c.in_ok-push-in-Some-2.ensures.items
    (cond_one _ c.loop-q.q c.in-Some.id (sym c.in-Some.ensures))
    (node_found c.args.nfa.now c.states-states.result.now c.loop-q.q c.loop-q.q c.index-states-q.result
    c.states-states.ensures.same refl c.loop-q-test.true c.index-states-q.is)
    (rw c.in-Some-2.is at c.in_ok-state.ensures)
