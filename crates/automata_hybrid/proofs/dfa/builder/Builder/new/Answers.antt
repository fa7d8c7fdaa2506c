use Rattle.automata_hybrid.proofs.dfa.builder.Builder.new.Goals as goal

pub returns : goal.returns
returns c = c.new.ensures
