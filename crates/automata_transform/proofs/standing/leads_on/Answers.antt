use Rattle.std.proofs.Common.{◌-◌, length, ap, sym, ◌∙◌, arith}
use Rattle.automata_transform.specs.Nfas.Merges.{target_for}
use Rattle.automata_base.specs.Retraced.ReversedEdges.{lists_of}
use Rattle.automata_transform.proofs.Nfas.Standing.{stood_further}
use Rattle.automata_transform.proofs.standing.leads_on.Goals as goal

pub returns-then-at-lists : goal.returns-then-at-lists
returns-then-at-lists c = λ t.
    let a = c.args.nfa.now in
    let number = c.as_usize-number.result in
    let is = c.as_usize-number.ensures.value in
    let old = c.if-number-count.false in
    let same = ap length c.states-count.ensures.same in
    ap (target_for (length a.states) (lists_of c.args.lists.now)) (sym c.target.ensures ∙ c.in-Some.is)
    ∙ (stood_further (length a.states) c.args.lists.now (number - length c.states-count.result.now) c.in-Some.next
    c.index-lists-at.result
    (omega (arith, is, old, same)) (omega (arith, is, same)) c.if-at-lists.true c.index-lists-at.is
    ∙ (sym c.as_slice.ensures.value ∙ c.have_targets-then-at-lists.ensures t))
