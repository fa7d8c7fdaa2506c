use Rattle.automata_hybrid.proofs.laws.sizes_are_of_nfa.Goals as goal

pub returns : goal.returns
returns c = c.states_are_bounded.ensures.machine.sizes
