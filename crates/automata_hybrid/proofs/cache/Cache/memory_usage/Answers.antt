use Rattle.std.proofs.Common.{◌∙◌, ap}
use Rattle.automata_hybrid.proofs.Words.{CacheView, known_in, usage}
use Rattle.automata_hybrid.proofs.cache.Cache.memory_usage.Goals as goal

pub returns-clause-usage : goal.returns-clause-usage
returns-clause-usage c =
    c.memory_usage.ensures.usage ∙ ap (λ (v : CacheView). usage v.store.table.of (known_in v.store)) c.self.view_is
