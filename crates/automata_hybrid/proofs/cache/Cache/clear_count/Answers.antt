use Rattle.std.proofs.Common.{◌∙◌, ap}
use Rattle.automata_hybrid.proofs.Words.{CacheView}
use Rattle.automata_hybrid.specs.declared.cache.Cache.TheInside.{Inside}
use Rattle.automata_hybrid.proofs.cache.Cache.clear_count.Goals as goal

pub returns : goal.returns
returns c =
    ap (λ (i : Inside). i.store.clears) c.self-inside.view_is ∙ ap (λ (v : CacheView). v.store.clears) c.self.view_is
