use Rattle.automata_determinize.proofs.determinize.read.after_long.Goals as goal

pub returns : goal.returns
returns c = λ n tail front. (c.groups_in.ensures n tail front).1
