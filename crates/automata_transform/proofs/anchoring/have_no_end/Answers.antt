use Rattle.std.proofs.Common.{◌≡◌, ◌<◌, ◌∙◌, length, sym, arith}
use Rattle.automata_base.proofs.Powersets.Keeping.{below_at}
use Rattle.automata_transform.proofs.Nfas.Anchored.{end_here, end_next, end_none}
use Rattle.automata_transform.proofs.anchoring.have_no_end.Goals as goal

pub bounds-states-as_usize : goal.bounds-states-as_usize
bounds-states-as_usize c =
    let below : c.id-item.result < length c.args.states.now =
    below_at c.args.ids.now (length c.args.states.now) c.loop-id.id-index c.id-item.result c.requires
    c.loop-id-test.true c.id-item.is in
    let same : c.as_usize.result ≡ c.id-item.result = c.as_usize.ensures.value in
    omega arith

pub returns-then-is_end : goal.returns-then-is_end
returns-then-is_end c =
    let below : c.id-item.result < length c.args.states.now =
    below_at c.args.ids.now (length c.args.states.now) c.loop-id.id-index c.id-item.result c.requires
    c.loop-id-test.true c.id-item.is in
    let same : c.as_usize.result ≡ c.id-item.result = c.as_usize.ensures.value in
    let inside : c.as_usize.result < length c.args.states.now = omega arith in
    end_here c.args.states.now c.args.ids.now c.loop-id.id-index c.id-item.result c.as_usize.result
    c.index-states-as_usize.result c.loop-id-test.true c.id-item.is same inside c.index-states-as_usize.is
    (sym c.is_end.ensures ∙ c.if-is_end.true)

pub loop-id-preserved : goal.loop-id-preserved
loop-id-preserved c =
    let below : c.id-item.result < length c.args.states.now =
    below_at c.args.ids.now (length c.args.states.now) c.loop-id.id-index c.id-item.result c.requires
    c.loop-id-test.true c.id-item.is in
    let same : c.as_usize.result ≡ c.id-item.result = c.as_usize.ensures.value in
    let inside : c.as_usize.result < length c.args.states.now = omega arith in
    end_next c.args.states.now c.args.ids.now c.loop-id.id-index c.id-item.result c.as_usize.result
    c.index-states-as_usize.result c.loop-id-test.true c.id-item.is same inside c.index-states-as_usize.is
    (sym c.is_end.ensures ∙ c.if-is_end.false) c.loop-id.invariant

pub returns : goal.returns
returns c = end_none c.args.states.now c.args.ids.now c.loop-id.id-index c.loop-id-test.false c.loop-id.invariant
