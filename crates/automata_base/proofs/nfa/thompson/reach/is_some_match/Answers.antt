use Rattle.std.proofs.Common.{◌≡◌, ◌<◌, ◌∙◌, length, sym, arith}
use Rattle.std.proofs.lemmas.Bool.{false≢true}
use Rattle.automata_base.proofs.Powersets.Keeping.{below_at}
use Rattle.automata_base.proofs.Nfas.Reach.Matched.{match_here, match_next, match_none}
use Rattle.automata_base.proofs.nfa.thompson.reach.is_some_match.Goals as goal

pub bounds-states-as_usize : goal.bounds-states-as_usize
bounds-states-as_usize c =
    let below : c.id-item.result < length c.args.states.now =
    below_at c.args.ids.now (length c.args.states.now) c.loop-id.id-index c.id-item.result c.requires
    c.loop-id-test.true c.id-item.is in
    let same : c.as_usize.result ≡ c.id-item.result = c.as_usize.ensures.value in
    omega arith

pub returns-then-is_match : goal.returns-then-is_match
returns-then-is_match c =
    let below : c.id-item.result < length c.args.states.now =
    below_at c.args.ids.now (length c.args.states.now) c.loop-id.id-index c.id-item.result c.requires
    c.loop-id-test.true c.id-item.is in
    let same : c.as_usize.result ≡ c.id-item.result = c.as_usize.ensures.value in
    let inside : c.as_usize.result < length c.args.states.now = omega arith in
    match_here c.args.states.now c.args.ids.now c.loop-id.id-index c.id-item.result c.as_usize.result
    c.index-states-as_usize.result
    c.loop-id-test.true c.id-item.is same inside c.index-states-as_usize.is (c.is_match.ensures.0 c.if-is_match.true)

pub loop-id-preserved : goal.loop-id-preserved
loop-id-preserved c =
    let below : c.id-item.result < length c.args.states.now =
    below_at c.args.ids.now (length c.args.states.now) c.loop-id.id-index c.id-item.result c.requires
    c.loop-id-test.true c.id-item.is in
    let same : c.as_usize.result ≡ c.id-item.result = c.as_usize.ensures.value in
    let inside : c.as_usize.result < length c.args.states.now = omega arith in
    match_next c.args.states.now c.args.ids.now c.loop-id.id-index c.id-item.result c.as_usize.result
    c.index-states-as_usize.result
    c.loop-id-test.true c.id-item.is same inside c.index-states-as_usize.is
    (λ h. false≢true (sym c.if-is_match.false ∙ c.is_match.ensures.1 h)) c.loop-id.invariant

pub returns : goal.returns
returns c = match_none c.args.states.now c.args.ids.now c.loop-id.id-index c.loop-id-test.false c.loop-id.invariant
