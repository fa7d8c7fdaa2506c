use Rattle.std.proofs.Common.{◌∙◌, ap}
use Rattle.automata_base.specs.declared.nfa.thompson.Data.{Data}
use Rattle.automata_base.specs.Nfas.Nodes.{Automaton}
use Rattle.automata_base.proofs.nfa.thompson.NFA.pattern_starts.Goals as goal

pub returns-clause-same : goal.returns-clause-same
returns-clause-same c =
    c.as_slice.ensures.value
    ∙ (ap (λ (d : Data). d.start_pattern.items) c.deref.ensures
    ∙ ap (λ (a : Automaton). a.start_pattern) c.self.view_is)
