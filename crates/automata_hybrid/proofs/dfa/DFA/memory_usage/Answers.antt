use Rattle.automata_hybrid.proofs.dfa.DFA.memory_usage.Goals as goal

pub returns : goal.returns
returns c = λ _. 0
