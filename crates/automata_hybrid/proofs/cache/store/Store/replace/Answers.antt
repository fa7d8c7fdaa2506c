use Rattle.automata_hybrid.proofs.Words.{cost}
use Rattle.automata_hybrid.proofs.cache.store.Store.replace.Goals as goal

pub add_row-requires-clause-fits : goal.add_row-requires-clause-fits
add_row-requires-clause-fits c = c.requires.room (cost c.args.state) c.requires.new.cheap
