use Rattle.std.proofs.Common.{arith, refl}
use Rattle.prefilters.proofs.Covering.{none_join, none_next, none_upto}
use Rattle.prefilters.proofs.pairs.Pairs.find.Goals as goal

pub returns-then-at-end : goal.returns-then-at-end
returns-then-at-end c =
    none_upto c.args.hay.now c.args.self.now c.args.start c.candidate-at.result c.args.end c.if-at-end.true
    (none_join c.args.hay.now c.args.self.now c.args.start c.loop-at.at c.candidate-at.result c.loop-at.invariant.1
    c.candidate-at.ensures.none)

pub returns-then-tired : goal.returns-then-tired
returns-then-tired c = (
  let from = c.candidate-at.ensures.from in let i = c.loop-at.invariant.0 in omega (arith, from, i),
  c.if-at-end.false,
  none_join c.args.hay.now c.args.self.now c.args.start c.loop-at.at c.candidate-at.result c.loop-at.invariant.1
      c.candidate-at.ensures.none,
)

pub loop-at-preserved : goal.loop-at-preserved
loop-at-preserved c = (
  let from = c.candidate-at.ensures.from in let i = c.loop-at.invariant.0 in omega (arith, from, i),
  none_next c.args.hay.now c.args.self.now c.args.start c.candidate-at.result (c.if-occurs.ensures refl)
      (none_join c.args.hay.now c.args.self.now c.args.start c.loop-at.at c.candidate-at.result c.loop-at.invariant.1
      c.candidate-at.ensures.none),
)

pub returns : goal.returns
returns c =
    none_upto c.args.hay.now c.args.self.now c.args.start c.loop-at.at c.args.end c.loop-at-test.false
    c.loop-at.invariant.1
