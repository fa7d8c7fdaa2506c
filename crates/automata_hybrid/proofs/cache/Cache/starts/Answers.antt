use Rattle.std.proofs.Common.{subst}
use Rattle.automata_hybrid.proofs.Words.{AllStarts, CacheView}
use Rattle.automata_hybrid.specs.declared.cache.Cache.TheInside.{Inside}
use Rattle.automata_hybrid.proofs.Storage.Starts.{leads_as_start}
use Rattle.automata_hybrid.proofs.cache.Cache.starts.Goals as goal

pub returns-clause-leads : goal.returns-clause-leads
returns-clause-leads c =
    leads_as_start c.args.self.now.store
    (subst (λ (v : CacheView). AllStarts v.store.table v.store.starts) c.self.view_is
    (subst (λ (i : Inside). AllStarts i.store.table i.store.starts) c.self-inside.view_is
    c.self-inside.invariant.named))
