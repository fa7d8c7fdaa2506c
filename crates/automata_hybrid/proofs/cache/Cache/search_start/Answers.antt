use Rattle.std.proofs.Common.{◌∙◌, ap}
use Rattle.automata_hybrid.specs.declared.cache.Cache.TheInside.{Inside}
use Rattle.automata_hybrid.proofs.Words.{CacheView, progress_started, with_searched, with_store}
use Rattle.automata_hybrid.proofs.cache.Cache.search_start.Goals as goal

pub returns-clause-value : goal.returns-clause-value
returns-clause-value c =
    rw c.start.ensures
    (ap (λ (i : Inside).
    record { store = with_searched i.store (progress_started i.store.searched c.args.at); count = i.scratch.count })
    c.self-inside.view_is
    ∙ ap (λ (v : CacheView). with_store v (with_searched v.store (progress_started v.store.searched c.args.at)))
    c.self.view_is)
