use Rattle.automata_base.specs.Nfas.Nodes.{nfa_of}
use Rattle.automata_base.specs.Haystacks.LookSets.{truth_of}
use Rattle.automata_base.proofs.Powersets.Endings.{way_closure}
use Rattle.automata_base.proofs.nfa.thompson.closure.close.Goals as goal

pub returns-clause-closure : goal.returns-clause-closure
returns-clause-closure c =
    way_closure (nfa_of c.args.nfa.now) (truth_of c.args.looks) c.args.roots.now c.clear.new.self.items
    c.close_all.new.set.items
    c.clear.ensures.empty c.close_all.ensures.way
