use Rattle.std.proofs.Common.{subst, sym}
use Rattle.automata_hybrid.proofs.Words.{CacheView, LeadsToStart}
use Rattle.automata_hybrid.specs.declared.cache.Cache.TheInside.{Inside}
use Rattle.automata_hybrid.proofs.Storage.Leaps.{cache_start}
use Rattle.automata_hybrid.proofs.cache.Cache.set_start.Goals as goal

pub invariant_of-self-inside : goal.invariant_of-self-inside
invariant_of-self-inside c =
    let i = c.self-inside.inside.0.0 in
    cache_start (record { table = i.table; starts = i.starts.items; clears = i.clears; searched = i.searched })
    i.settings c.args.slot c.args.id
    (subst (λ (i : Inside). LeadsToStart i.store.table c.args.id c.args.slot) (sym c.self-inside.view_is)
    (subst (λ (v : CacheView). LeadsToStart v.store.table c.args.id c.args.slot) (sym c.self.view_is) c.requires.leads))
    c.self-inside.invariant
