use Rattle.automata_transform.proofs.Nfas.Standing.{IsPlain, plain_unmatched}
use Rattle.automata_base.proofs.Powersets.KeptClosures.{tested_next, tested_all}
use Rattle.automata_transform.proofs.standing.are_plain.Goals as goal

pub loop-i-preserved : goal.loop-i-preserved
loop-i-preserved c =
    let t = c.if-not-is_plain.false in
    tested_next (IsPlain c.args.nfa.now) c.args.list.now c.loop-i.i c.index-list-i.result c.loop-i-test.true
    c.index-list-i.is
    (c.is_plain.ensures.below t, (c.is_plain.ensures.other t, c.is_plain.ensures.reads t)) c.loop-i.invariant

pub returns-clause-below : goal.returns-clause-below
returns-clause-below c = λ _ q i.
    (tested_all (IsPlain c.args.nfa.now) c.args.list.now c.loop-i.i c.loop-i-test.false c.loop-i.invariant q i).0

pub returns-clause-plain : goal.returns-clause-plain
returns-clause-plain c = λ _ q i.
    (tested_all (IsPlain c.args.nfa.now) c.args.list.now c.loop-i.i c.loop-i-test.false c.loop-i.invariant q i).1

pub returns-clause-matches : goal.returns-clause-matches
returns-clause-matches c = λ _.
    plain_unmatched c.args.nfa.now c.args.list.now
    (tested_all (IsPlain c.args.nfa.now) c.args.list.now c.loop-i.i c.loop-i-test.false c.loop-i.invariant)
