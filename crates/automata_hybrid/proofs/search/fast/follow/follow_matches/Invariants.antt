use Rattle.automata_hybrid.proofs.search.fast.follow.follow_matches.Given as goal

abbrev pub ghost-follow : goal.ghost-follow
ghost-follow g a = g.trace
