use Rattle.std.proofs.Common.{◌∙◌, ap}
use Rattle.automata_base.specs.Nfas.Nodes.{Automaton, stack_room}
use Rattle.automata_base.specs.declared.nfa.thompson.Data.{Data}
use Rattle.automata_base.proofs.nfa.thompson.NFA.room.Goals as goal

pub returns-clause-number : goal.returns-clause-number
returns-clause-number c =
    ap (λ (d : Data). d.room) c.deref.ensures
    ∙ (c.self.invariant.0.room ∙ ap (λ (a : Automaton). stack_room a.states) c.self.view_is)
