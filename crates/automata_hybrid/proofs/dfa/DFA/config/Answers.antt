use Rattle.automata_hybrid.proofs.dfa.DFA.config.Goals as goal

pub returns : goal.returns
returns c = c.new.ensures
