use Rattle.std.proofs.Common.{ap, length, refl, arith}
use Rattle.automata_transform.proofs.Nfas.Captures.{kept_all, kept_next}
use Rattle.automata_transform.proofs.Nfas.Folds.Parts.{state_at}
use Rattle.automata_transform.proofs.standing.keeps_captures.Goals as goal

pub loop-q-preserved : goal.loop-q-preserved
loop-q-preserved c =
    let most = c.loop-q-test.true in
    let many = c.if-new-states.false in
    kept_next c.args.nfa.now c.args.other.now c.states-states.result.now c.states-new.result.now c.loop-q.q
    c.index-states-q.result
    c.index-new-q.result c.states-states.ensures.same c.states-new.ensures.same
    (state_at c.states-states.result.now c.loop-q.q c.loop-q.q c.index-states-q.result most c.index-states-q.is refl)
    (state_at c.states-new.result.now c.loop-q.q c.loop-q.q c.index-new-q.result (omega (arith, most, many))
    c.index-new-q.is
    refl)
    (c.keeps_capture.ensures c.if-not-keeps_capture.false) c.loop-q.invariant

pub returns : goal.returns
returns c = λ t.
    kept_all c.args.nfa.now c.args.other.now c.loop-q.q
    (let past = c.loop-q-test.false in
    let same = ap length c.states-states.ensures.same in
    omega (arith, past, same))
    c.loop-q.invariant
