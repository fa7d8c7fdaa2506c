use Rattle.std.proofs.Common.{◌∙◌, ap, get_or}
use Rattle.automata_base.specs.Nfas.Nodes as nodes
use Rattle.regex_nfa.specs.declared.state.Transition.{Transition}
use Rattle.meaning.proofs.Lists.{ranges_push}
use Rattle.patterns.proofs.translate.ranges_of.Goals as goal

pub loop-t-preserved : goal.loop-t-preserved
loop-t-preserved c =
    let d : Transition = record { start = 0; end = 0; next = 0 } in
    let t : Transition = get_or c.args.own.now c.loop-t.t-index d in
    ap nodes.ranges_of c.in_ok-push.ensures.items
    ∙ ranges_push c.args.origin.now.base c.loop-t.ranges.items
    (record { lo = t.start; hi = t.end; next = c.in_ok-next.next }) c.args.own.now
    c.loop-t.t-index d c.loop-t-test.true c.loop-t.invariant
    (ap (λ v. record { lo = t.start; hi = t.end; next = v }) c.in_ok-next.ensures.id)
