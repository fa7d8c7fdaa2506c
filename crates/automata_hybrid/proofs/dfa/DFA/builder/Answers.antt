use Rattle.automata_hybrid.proofs.dfa.DFA.builder.Goals as goal

pub returns : goal.returns
returns c = c.new.ensures
