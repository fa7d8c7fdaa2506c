use Rattle.std.proofs.Common.{◌↔◌, subst, sym}
use Rattle.std.specs.Prelude.{IsTrue}
use Rattle.automata_base.specs.declared.nfa.thompson.Data.{Data}
use Rattle.automata_base.specs.Nfas.Nodes.{nfa_of}
use Rattle.automata_base.specs.Paths.Paths.{IsLookAcyclic}
use Rattle.automata_base.proofs.nfa.thompson.NFA.is_look_acyclic.Goals as goal

pub returns : goal.returns
returns c =
    subst (λ (d : Data). IsTrue d.is_look_acyclic ↔ IsLookAcyclic (nfa_of c.args.self.now)) (sym c.deref.ensures)
    (subst (λ a. IsTrue c.self.inside.data.value.is_look_acyclic ↔ IsLookAcyclic (nfa_of a)) c.self.view_is
    c.self.invariant.0.acyclic)
