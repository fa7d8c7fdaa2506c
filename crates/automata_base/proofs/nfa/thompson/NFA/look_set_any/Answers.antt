use Rattle.std.proofs.Common.{subst, sym}
use Rattle.automata_base.specs.declared.nfa.thompson.Data.{Data}
use Rattle.automata_base.specs.Nfas.Accepted.{IsLooks}
use Rattle.automata_base.proofs.Nfas.Reach.Occurring.{occurs_is}
use Rattle.automata_base.proofs.nfa.thompson.NFA.look_set_any.Goals as goal

pub returns-clause-occurs : goal.returns-clause-occurs
returns-clause-occurs c =
    occurs_is c.args.self.now c.deref.result.now.looks
    (subst (λ (d : Data). IsLooks c.args.self.now d.looks) (sym c.deref.ensures)
    (subst (λ a. IsLooks a c.self.inside.data.value.looks) c.self.view_is c.self.invariant.0.looks))
