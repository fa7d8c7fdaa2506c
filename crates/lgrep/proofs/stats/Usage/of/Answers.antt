use Rattle.std.proofs.Common.{◌≡◌, ◌∙◌, ap, arith, inl, length}
use Rattle.automata_hybrid.specs.Cache.Caches.{dfa_of}
use Rattle.automata_hybrid.specs.Known.Stores.{known_of}
use Rattle.lgrep.proofs.Counting.{states_counted, states_few}
use Rattle.lgrep.proofs.stats.Usage.of.Goals as goal

pub count-requires-clause-fits : goal.count-requires-clause-fits
count-requires-clause-fits c =
    let cache = c.args.cache.now in
    let same : length c.states.result ≡ length cache.store.table.rows =
    ap length c.states.ensures.value ∙ states_counted cache.store.table in
    inl (omega (arith, same, states_few (dfa_of cache) (known_of cache), c.memory_usage-bytes.ensures.usage))
