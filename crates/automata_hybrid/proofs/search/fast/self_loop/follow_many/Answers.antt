use Rattle.std.proofs.Common.{arith}
use Rattle.automata_hybrid.proofs.Fast.SelfLoops.{run_none, run_on, run_over}
use Rattle.automata_hybrid.proofs.search.fast.self_loop.follow_many.Goals as goal

pub returns-then-few-wait : goal.returns-then-few-wait
returns-then-few-wait c =
    run_on (run_over 8 (omega (arith, c.requires.long)) c.requires.first (run_none 0 (omega arith)))
    c.follow_eights-few.ensures.run

pub returns : goal.returns
returns c =
    run_on (run_on
    (run_on (run_over 8 (omega (arith, c.requires.long)) c.requires.first (run_none 0 (omega arith)))
    c.follow_eights-few.ensures.run)
    c.scan-many.ensures) c.follow_eights.ensures.run
