use Rattle.std.proofs.Common.{◌∙◌, ap}
use Rattle.automata_base.specs.declared.nfa.thompson.Data.{Data}
use Rattle.automata_base.specs.Nfas.Nodes.{Automaton}
use Rattle.automata_base.proofs.nfa.thompson.NFA.start_anchored.Goals as goal

pub returns : goal.returns
returns c =
    ap (λ (d : Data). d.start_anchored) c.deref.ensures ∙ ap (λ (a : Automaton). a.start_anchored) c.self.view_is
