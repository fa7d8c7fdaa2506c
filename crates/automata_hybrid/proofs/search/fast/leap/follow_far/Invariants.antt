use Rattle.automata_hybrid.proofs.search.fast.leap.follow_far.Given as goal

abbrev pub ghost-leap_if : goal.ghost-leap_if
ghost-leap_if g a = g.trace
