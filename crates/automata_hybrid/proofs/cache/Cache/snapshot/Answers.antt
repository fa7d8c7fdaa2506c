use Rattle.std.proofs.Common.{subst, sym}
use Rattle.automata_hybrid.proofs.Words.{CacheView, IsRowState, Powerset}
use Rattle.automata_hybrid.specs.declared.cache.Cache.TheInside.{Inside}
use Rattle.automata_hybrid.proofs.cache.Cache.snapshot.Goals as goal

pub returns-clause-row : goal.returns-clause-row
returns-clause-row c =
    subst (λ (p : Powerset). IsRowState c.args.self.now.store.table.of p) (sym c.of.ensures)
    (subst (λ (v : CacheView). IsRowState v.store.table.of c.state.result.now) c.self.view_is
    (subst (λ (i : Inside). IsRowState i.store.table.of c.state.result.now) c.self-inside.view_is c.state.ensures.row))
