use Rattle.automata_base.proofs.Nfas.Reach.Adding.{inserted}
use Rattle.automata_base.proofs.nfa.thompson.reach.add.Goals as goal

pub returns-clause-items : goal.returns-clause-items
returns-clause-items c =
    inserted c.args.set.now.items c.insert.new.self.items c.args.id c.insert.result
    c.insert.ensures.new c.insert.ensures.added c.insert.ensures.had c.insert.ensures.unchanged
