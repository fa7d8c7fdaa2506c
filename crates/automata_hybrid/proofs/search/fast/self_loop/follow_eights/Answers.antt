use Rattle.std.proofs.Common.{refl, arith}
use Rattle.automata_hybrid.proofs.Fast.SelfLoops.{run_none, run_over}
use Rattle.automata_hybrid.proofs.search.fast.self_loop.follow_eights.Goals as goal

pub eights-init : goal.eights-init
eights-init c = record {
  upto = omega (arith, c.requires.within);
  run = run_none c.args.start (omega (arith, c.requires.within, c.requires.inside));
}

pub eights-preserved : goal.eights-preserved
eights-preserved c = record {
  upto = omega (arith, c.eights-test.true);
  run =
      run_over 8 (omega (arith, c.eights-test.true, c.requires.inside)) (c.if-not-loops_on_eight.ensures refl)
      c.eights.invariant.run;
}
