use Rattle.std.proofs.Common.{ap, length, below_more, refl, arith}
use Rattle.automata_base.specs.Nfas.Nodes.{node_of}
use Rattle.automata_base.specs.Retraced.ReversedEdges.{lists_of}
use Rattle.automata_transform.proofs.Nfas.Standing.{node_found, old_found}
use Rattle.automata_transform.proofs.standing.are_old.Goals as goal

pub loop-q-preserved : goal.loop-q-preserved
loop-q-preserved c =
    let most = c.loop-q-test.true in
    let many = c.if-new-states.false in
    below_more _ _ c.loop-q.invariant
    (old_found c.args.nfa.now c.args.merged.now (lists_of c.args.lists.now) (node_of c.index-new-q.result)
    (node_of c.index-states-q.result) _ _
    (node_found c.args.merged.now c.states-new.result.now c.loop-q.q c.loop-q.q c.index-new-q.result
    c.states-new.ensures.same refl
    (omega (arith, most, many)) c.index-new-q.is)
    (node_found c.args.nfa.now c.states-states.result.now c.loop-q.q c.loop-q.q c.index-states-q.result
    c.states-states.ensures.same refl
    most c.index-states-q.is)
    (c.in_ok-is_old.ensures c.if-not-branch.false))

pub returns : goal.returns
returns c = λ t q l.
    let past = c.loop-q-test.false in
    let same = ap length c.states-states.ensures.same in
    c.loop-q.invariant q (omega (arith, l, past, same))
