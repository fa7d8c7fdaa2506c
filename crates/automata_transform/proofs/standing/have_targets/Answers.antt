use Rattle.std.proofs.Common.{◌≡◌, length, ap, arith}
use Rattle.automata_base.specs.Nfas.Nfa.{node}
use Rattle.automata_base.specs.Nfas.Nodes.{node_of, nfa_of}
use Rattle.automata_base.proofs.Nfas.Bounds.{expects_next}
use Rattle.automata_base.proofs.Powersets.Keeping.{below_at}
use Rattle.automata_base.proofs.Powersets.Walking.{node_at, state_read}
use Rattle.automata_transform.proofs.standing.have_targets.Goals as goal

pub state_at-requires-clause-id : goal.state_at-requires-clause-id
state_at-requires-clause-id c =
    let below =
    below_at c.args.list.now (length c.args.nfa.now.states) c.loop-i.i c.index-list-i.result c.requires.below
    c.loop-i-test.true c.index-list-i.is in
    let same = ap length c.states-states.ensures.same in
    omega (arith, below, same)

pub loop-i-preserved : goal.loop-i-preserved
loop-i-preserved c =
    let a = c.args.nfa.now in
    let q = c.index-list-i.result in
    let state = c.state_at.result.now in
    let below =
    below_at c.args.list.now (length a.states) c.loop-i.i q c.requires.below c.loop-i-test.true c.index-list-i.is in
    let at : node (nfa_of a) q ≡ node_of state =
    node_at a.states q state state below (state_read a.states q state c.state_at.ensures.same) in
    expects_next (nfa_of a) c.args.list.now c.args.expected.now c.args.u c.loop-i.i q (node_of state) c.loop-i.rest.now
    c.in-Some.next.now
    c.loop-i-test.true c.index-list-i.is at c.in-Some.ensures c.loop-i.invariant
