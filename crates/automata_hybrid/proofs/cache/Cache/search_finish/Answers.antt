use Rattle.automata_hybrid.proofs.cache.Cache.search_finish.Goals as goal

pub returns : goal.returns
returns c = c.end_search.ensures.value
