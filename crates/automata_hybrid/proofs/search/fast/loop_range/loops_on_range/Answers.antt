use Rattle.std.proofs.Common.{refl, arith}
use Rattle.automata_hybrid.proofs.Fast.SelfLoops.{range_past, range_within}
use Rattle.automata_hybrid.proofs.search.fast.loop_range.loops_on_range.Goals as goal

pub returns-then-to-le256 : goal.returns-then-to-le256
returns-then-to-le256 c = λ yes.
    range_within c.args.dfa.now c.args.cache.now.store c.args.id c.args.range (omega arith)
    (λ byte l below. c.loops_between.ensures yes byte (omega (arith, l)) (omega (arith, below)))

pub returns-then-loops_between : goal.returns-then-loops_between
returns-then-loops_between c = λ yes.
    range_past c.args.dfa.now c.args.cache.now.store c.args.id c.args.range (omega arith)
    (λ byte l below. c.if-loops_between.ensures refl byte (omega (arith, l)) below)
    (λ byte l below. c.loops_between-then-loops_between.ensures yes byte l (omega (arith, below)))
