use Rattle.std.proofs.Common.{refl, subst}
use Rattle.automata_hybrid.proofs.Words.{Direction}
use Rattle.automata_hybrid.specs.Private.Fast.SelfLoops.{LoopsOver}
use Rattle.automata_hybrid.proofs.search.fast.self_loop.follow_self_loop.Goals as goal

pub follow_many_fwd-requires-clause-first : goal.follow_many_fwd-requires-clause-first
follow_many_fwd-requires-clause-first c =
    subst (λ (way : Direction). LoopsOver c.args.dfa.now c.args.cache.now.store c.args.id way c.args.bytes.now 0 8)
    c.in-Forward.is (c.if-not-loops_on_eight.ensures refl)

pub follow_many_rev-requires-clause-first : goal.follow_many_rev-requires-clause-first
follow_many_rev-requires-clause-first c =
    subst (λ (way : Direction). LoopsOver c.args.dfa.now c.args.cache.now.store c.args.id way c.args.bytes.now 0 8)
    c.in-Backward.is (c.if-not-loops_on_eight.ensures refl)
