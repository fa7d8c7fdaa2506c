use Rattle.automata_determinize.proofs.determinize.read.long_number.Goals as goal

pub returns : goal.returns
returns c = λ n tail front. (c.groups_in-number.ensures n tail front).0
