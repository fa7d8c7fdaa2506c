use Rattle.std.proofs.Common.{◌∙◌, ap}
use Rattle.automata_base.specs.declared.nfa.thompson.Data.{Data}
use Rattle.automata_base.specs.Nfas.Nodes.{Automaton}
use Rattle.automata_base.proofs.nfa.thompson.NFA.start_unanchored.Goals as goal

pub returns : goal.returns
returns c =
    ap (λ (d : Data). d.start_unanchored) c.deref.ensures ∙ ap (λ (a : Automaton). a.start_unanchored) c.self.view_is
