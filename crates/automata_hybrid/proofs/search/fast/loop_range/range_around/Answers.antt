use Rattle.automata_hybrid.proofs.Fast.SelfLoops.{range_none}
use Rattle.automata_hybrid.proofs.search.fast.loop_range.range_around.Goals as goal

pub returns : goal.returns
returns c = range_none c.args.dfa.now c.args.cache.now.store c.args.id c.none.result c.none.ensures
