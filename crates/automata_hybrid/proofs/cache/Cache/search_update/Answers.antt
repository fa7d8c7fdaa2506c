use Rattle.automata_hybrid.proofs.cache.Cache.search_update.Goals as goal

pub returns : goal.returns
returns c = c.move_search.ensures.value
