use Rattle.automata_hybrid.proofs.search.fast.leap.follow_any_leaps.Given as goal

abbrev pub ghost-follow_far : goal.ghost-follow_far
ghost-follow_far g a = g.trace
