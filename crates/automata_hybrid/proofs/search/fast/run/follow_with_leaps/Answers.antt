use Rattle.std.proofs.Common.{sym, subst}
use Rattle.automata_hybrid.proofs.Words.{CacheView, Direction}
use Rattle.automata_hybrid.specs.Private.Searches.PassContracts.{RunsAlong}
use Rattle.automata_hybrid.proofs.Fast.Runs.{follows_none, runs_on}
use Rattle.automata_hybrid.proofs.search.fast.run.follow_with_leaps.Goals as goal

pub follow_any_leaps-far-requires : goal.follow_any_leaps-far-requires
follow_any_leaps-far-requires g c =
    let may = c.requires.1.0 in
    let near =
    follows_none (record { at = c.args.near.at; id = c.args.near.id; next = c.args.near.next }) may.within may.on.named
    c.requires.1.1.0 in
    (c.requires.0, (near, (may.on.trace, may.undone)))

pub returns-clause-runs : goal.returns-clause-runs
returns-clause-runs g c = λ from near.
    let d : Direction = c.args.way in
    runs_on c.requires.1.0.on.trace
    (subst (λ (v : CacheView). RunsAlong g.trace d c.args.dfa.now v.store c.args.input.now from c.args.near)
    (sym c.follow_any_leaps-far.ensures.same) near) c.follow_any_leaps-far.ensures.far
