use Rattle.std.proofs.Common.{subst, sym, arith}
use Rattle.automata_hybrid.specs.Private.Cache.Leaps.{AreLeapSteps}
use Rattle.automata_hybrid.proofs.Storage.Leaps.{steps_more}
use Rattle.automata_hybrid.proofs.cache.leaps.add_steps.Goals as goal

pub loop-class-preserved : goal.loop-class-preserved
loop-class-preserved c = record {
  long = omega (arith, c.in_ok-push.ensures.len, c.loop-class.invariant.long);
  steps =
      subst (AreLeapSteps c.args.table.now c.args.classes) (sym c.in_ok-push.ensures.items)
      (steps_more c.args.table.now c.args.classes c.loop-class.steps.items c.args.row c.loop-class.class
      c.row_after.result
      c.loop-class.invariant.long c.loop-class-test.true c.requires.row c.row_after.ensures.upto
      c.row_after.ensures.leads
      c.loop-class.invariant.steps);
}
