use Rattle.automata_hybrid.proofs.dfa.DFA.create_cache.Goals as goal

pub returns : goal.returns
returns c = c.new.ensures
