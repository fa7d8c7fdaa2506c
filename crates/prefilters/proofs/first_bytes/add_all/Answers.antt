use Rattle.std.proofs.Common.{◌≡◌, ◌<◌, ◌∙◌, length, sym, arith, true≢false}
use Rattle.automata_base.proofs.Powersets.Keeping.{below_at}
use Rattle.prefilters.proofs.FirstSteps.{add_next}
use Rattle.prefilters.proofs.first_bytes.add_all.Goals as goal

pub bounds-states-as_usize : goal.bounds-states-as_usize
bounds-states-as_usize c =
    let below : c.id-item.result < length c.args.states.now =
    below_at c.args.ids.now (length c.args.states.now) c.loop-id.id-index c.id-item.result c.requires
    c.loop-id-test.true c.id-item.is in
    let same : c.as_usize.result ≡ c.id-item.result = c.as_usize.ensures.value in
    omega arith

pub loop-id-preserved : goal.loop-id-preserved
loop-id-preserved c =
    let below : c.id-item.result < length c.args.states.now =
    below_at c.args.ids.now (length c.args.states.now) c.loop-id.id-index c.id-item.result c.requires
    c.loop-id-test.true c.id-item.is in
    let same : c.as_usize.result ≡ c.id-item.result = c.as_usize.ensures.value in
    let inside : c.as_usize.result < length c.args.states.now = omega arith in
    add_next c.args.states.now c.args.ids.now c.loop-id.table c.add_bytes.new.table c.loop-id.id-index
    c.id-item.result c.as_usize.result c.index-states-as_usize.result c.loop-id-test.true c.id-item.is same inside
    c.index-states-as_usize.is c.add_bytes.ensures.kept
    (record {
      unmatched = λ m. true≢false (sym (c.is_match.ensures.1 m) ∙ c.if-is_match.false);
      reads = c.add_bytes.ensures.added;
    })
    c.loop-id.invariant
