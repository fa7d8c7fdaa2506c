use Rattle.automata_hybrid.proofs.search.fast.leap.leap_if.Given as goal

abbrev pub ghost-leap_along : goal.ghost-leap_along
ghost-leap_along g a = g.trace

abbrev pub ghost-next_known : goal.ghost-next_known
ghost-next_known g a = g.trace
