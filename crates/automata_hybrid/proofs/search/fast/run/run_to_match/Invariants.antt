use Rattle.automata_hybrid.proofs.search.fast.run.run_to_match.Given as goal

abbrev pub ghost-follow : goal.ghost-follow
ghost-follow g a = g.trace

abbrev pub ghost-follow_matches : goal.ghost-follow_matches
ghost-follow_matches g a = g.trace
