use Rattle.std.proofs.Common.{subst}
use Rattle.automata_hybrid.proofs.Words.{CacheView, IsStoreOf}
use Rattle.automata_hybrid.specs.Private.Cache.Table.{IsSoundTable}
use Rattle.automata_hybrid.proofs.Storage.Sound.{store_of}
use Rattle.automata_hybrid.specs.declared.cache.Cache.TheInside.{Inside}
use Rattle.automata_hybrid.proofs.cache.Cache.reveal_invariant.Goals as goal

pub returns-clause-store : goal.returns-clause-store
returns-clause-store c =
    subst (λ (v : CacheView). IsStoreOf v.store v.store.table.of) c.self.view_is
    (subst (λ (i : Inside). IsStoreOf i.store i.store.table.of) c.self-inside.view_is
    (store_of _ _ c.self-inside.invariant c.reveal_invariant.ensures))

pub returns-clause-table : goal.returns-clause-table
returns-clause-table c =
    subst (λ (v : CacheView). IsSoundTable v.store.table) c.self.view_is
    (subst (λ (i : Inside). IsSoundTable i.store.table) c.self-inside.view_is c.reveal_invariant.ensures)
