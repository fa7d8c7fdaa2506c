use Rattle.automata_hybrid.proofs.Words.{pass_trace}
use Rattle.automata_hybrid.proofs.search.walk.advance.follow_walk.Given as goal

abbrev pub ghost-follow : goal.ghost-follow
ghost-follow a = pass_trace a.way a.dfa.now a.input.now
