use Rattle.std.proofs.Common.{◌≡◌, ◌+◌, refl, subst, arith}
use Rattle.automata_hybrid.specs.Private.Fast.SelfLoops.{LoopsOn, LoopsOver}
use Rattle.automata_hybrid.proofs.Fast.SelfLoops.{over_more}
use Rattle.automata_hybrid.proofs.search.fast.self_loop.loops_on_eight.Goals as goal

pub loop-k-preserved : goal.loop-k-preserved
loop-k-preserved c =
    let next : c.args.at + c.loop-k.k + 1 ≡ c.args.at + (c.loop-k.k + 1) = omega arith in
    subst (λ n. LoopsOver c.args.dfa.now c.args.cache.now.store c.args.id c.args.way c.args.bytes.now c.args.at n) next
    (over_more c.args.dfa.now c.args.cache.now.store c.args.id c.args.way c.args.bytes.now c.args.at
    (c.args.at + c.loop-k.k)
    (subst (LoopsOn c.args.dfa.now c.args.cache.now.store c.args.id) c.byte_at.ensures
    (c.if-not-loops_on.ensures refl))
    c.loop-k.invariant)
