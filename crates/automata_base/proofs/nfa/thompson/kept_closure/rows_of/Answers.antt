use Rattle.std.proofs.Common.{◌≡◌, length, ap, arith}
use Rattle.automata_base.specs.Nfas.Nodes.{nfa_of, node_of}
use Rattle.automata_base.specs.Nfas.Nfa.{node}
use Rattle.automata_base.proofs.Powersets.Keeping.{below_at}
use Rattle.automata_base.proofs.Powersets.KeptClosures.{filling_init, filling_next, filling_done}
use Rattle.automata_base.proofs.Powersets.Walking.{node_at, state_read}
use Rattle.automata_base.proofs.nfa.thompson.kept_closure.rows_of.Goals as goal

pub loop-i-init : goal.loop-i-init
loop-i-init c =
    filling_init (nfa_of c.args.nfa.now) c.args.kept.now c.in_ok-rows.rows.items c.in_ok-rows.ensures.none
    c.in_ok-rows.ensures.few

pub state_at-requires-clause-id : goal.state_at-requires-clause-id
state_at-requires-clause-id c =
    let below =
    below_at c.args.kept.now (length c.args.nfa.now.states) c.loop-i.i c.index-kept-i.result c.requires.below
    c.loop-i-test.true c.index-kept-i.is in
    let same = ap length c.states-states.ensures.same in
    omega (arith, below, same)

pub loop-i-preserved : goal.loop-i-preserved
loop-i-preserved c =
    let a = c.args.nfa.now in
    let q = c.index-kept-i.result in
    let below =
    below_at c.args.kept.now (length a.states) c.loop-i.i q c.requires.below c.loop-i-test.true c.index-kept-i.is in
    let at : node (nfa_of a) q ≡ node_of c.state_at.result.now =
    node_at a.states q c.state_at.result.now c.state_at.result.now below
    (state_read a.states q c.state_at.result.now c.state_at.ensures.same) in
    filling_next (nfa_of a) c.args.kept.now c.loop-i.rows.items c.push_edges.new.rows.items c.loop-i.i q
    (node_of c.state_at.result.now)
    c.loop-i-test.true c.index-kept-i.is at c.in_ok-push_edges.ensures.few c.in_ok-push_edges.ensures.edges
    c.loop-i.invariant

pub returns : goal.returns
returns c =
    filling_done (nfa_of c.args.nfa.now) c.args.kept.now c.loop-i.rows.items c.loop-i.i c.requires.plain
    c.loop-i-test.false c.loop-i.invariant
