use Rattle.std.proofs.Common.{◌↔◌, subst, sym}
use Rattle.std.specs.Prelude.{IsTrue}
use Rattle.automata_base.specs.declared.nfa.thompson.Data.{Data}
use Rattle.automata_base.specs.Nfas.Getters.{SkipsLazily}
use Rattle.automata_base.proofs.nfa.thompson.NFA.skips_lazily.Goals as goal

pub returns : goal.returns
returns c =
    subst (λ (d : Data). IsTrue d.skips_lazily ↔ SkipsLazily c.args.self.now) (sym c.deref.ensures)
    (subst (λ a. IsTrue c.self.inside.data.value.skips_lazily ↔ SkipsLazily a) c.self.view_is c.self.invariant.0.skips)
