use Rattle.std.proofs.Common.{arith}
use Rattle.prefilters.proofs.Covering.{none_join, none_trailing, none_zero}
use Rattle.prefilters.proofs.pairs.Pairs.candidate.Goals as goal

pub returns-then-mask-ne0-clause-none : goal.returns-then-mask-ne0-clause-none
returns-then-mask-ne0-clause-none c =
    none_join c.args.hay.now c.args.self.now c.args.start c.loop-at.at _ c.loop-at.invariant.2
    (none_trailing c.args.self.now c.args.hay.now c.loop-at.at c.in-Some.mask c.in-Some.ensures.set c.if-mask-ne0.true
    c.in-Some.ensures.bits)

pub loop-at-preserved : goal.loop-at-preserved
loop-at-preserved c =
    let room = c.in-Some.ensures.room in
    let from = c.loop-at.invariant.0 in (
      omega (arith, from),
      room,
      none_join c.args.hay.now c.args.self.now c.args.start c.loop-at.at _ c.loop-at.invariant.2
          (none_zero c.args.self.now c.args.hay.now c.loop-at.at c.in-Some.mask c.in-Some.ensures.set
          c.if-mask-ne0.false),
    )
