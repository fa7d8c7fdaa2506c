use Rattle.std.proofs.Common.{◌<◌, ◌^◌, arith, subst}
use Rattle.automata_hybrid.proofs.Words.{Stored}
use Rattle.automata_hybrid.proofs.Storage.Usage.{IsCache-most}
use Rattle.automata_hybrid.proofs.cache.store.Store.cost_of.Goals as goal

pub cost-requires : goal.cost-requires
cost-requires c =
    let most : c.args.self.now.table.of.greatest < 2 ^ 64 =
    subst (λ (v : Stored). v.table.of.greatest < 2 ^ 64) c.self.view_is
    (IsCache-most _ c.self.inside.settings c.self.invariant) in
    omega (arith, most, c.requires)
