use Rattle.automata_hybrid.proofs.search.fast.leap.leap_along.Given as goal

abbrev pub ghost-follow_leaps : goal.ghost-follow_leaps
ghost-follow_leaps g a = g.trace
