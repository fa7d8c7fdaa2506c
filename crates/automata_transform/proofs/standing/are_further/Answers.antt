use Rattle.std.proofs.Common.{◌+◌, length, ap, below_more, arith}
use Rattle.automata_base.specs.Nfas.Nodes.{node_of}
use Rattle.automata_transform.proofs.Nfas.Standing.{node_found, further_found}
use Rattle.automata_transform.proofs.standing.are_further.Goals as goal

pub loop-k-preserved : goal.loop-k-preserved
loop-k-preserved c =
    let most = c.loop-k-test.true in
    let many = c.if-states-count.false in
    below_more _ _ c.loop-k.invariant
    (further_found c.args.nfa.now c.args.merged.now c.args.lists.now c.loop-k.k (node_of c.index-states-count.result)
    c.as_slice.result.now
    c.index-lists-k.result most c.index-lists-k.is c.as_slice.ensures.value
    (node_found c.args.merged.now c.states-states.result.now (length c.states-count.result.now + c.loop-k.k)
    (length c.args.nfa.now.states + c.loop-k.k)
    c.index-states-count.result c.states-states.ensures.same
    (ap (λ xs. length xs + c.loop-k.k) c.states-count.ensures.same)
    (omega (arith, most, many)) c.index-states-count.is)
    (c.in_ok-shows.ensures c.if-not-branch.false))
