use Rattle.std.proofs.Common.{below_more, arith}
use Rattle.automata_base.specs.Nfas.Nodes.{node_of}
use Rattle.automata_transform.proofs.Nfas.Standing.{row_found}
use Rattle.automata_transform.proofs.standing.leads_to_rows.Goals as goal

pub loop-u-preserved : goal.loop-u-preserved
loop-u-preserved c =
    let many = c.if-rows-lt256.false in
    let small = c.loop-u-test.true in
    below_more _ _ c.loop-u.invariant
    (row_found c.args.lists.now c.args.rows.now c.args.count (node_of c.args.state.now) c.loop-u.u c.target.result
    c.as_slice.result.now
    c.index-rows-u.result (omega (arith, many, small)) c.target.ensures c.index-rows-u.is c.as_slice.ensures.value
    (c.leads_to.ensures c.if-not-leads_to.false))
