use Rattle.automata_hybrid.proofs.search.fast.run.follow_with_leaps.Given as goal

abbrev pub ghost-follow_any_leaps : goal.ghost-follow_any_leaps
ghost-follow_any_leaps g a = g.trace
