use Rattle.std.proofs.Common.{◌∙◌, ap}
use Rattle.automata_hybrid.proofs.Words.{CacheView, total_len}
use Rattle.automata_hybrid.specs.declared.cache.Cache.TheInside.{Inside}
use Rattle.automata_hybrid.proofs.cache.Cache.search_total_len.Goals as goal

pub returns : goal.returns
returns c =
    c.total_len.ensures
    ∙ (ap (λ (i : Inside). total_len i.store.searched) c.self-inside.view_is
    ∙ ap (λ (v : CacheView). total_len v.store.searched) c.self.view_is)
