use Rattle.automata_hybrid.proofs.Fast.SelfLoops.{range_none}
use Rattle.automata_hybrid.proofs.search.fast.self_loop.find_first.Goals as goal

pub returns : goal.returns
returns c = record {
  first = c.range_around-first.ensures;
  second = range_none c.args.dfa.now c.args.cache.now.store c.args.id c.none-second.result c.none-second.ensures;
}
