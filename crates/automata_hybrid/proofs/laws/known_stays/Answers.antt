use Rattle.automata_hybrid.proofs.Known.SearchesFollow.{known_stays}
use Rattle.automata_hybrid.proofs.laws.known_stays.Goals as goal

pub returns : goal.returns
returns c = known_stays c.args.dfa.now
