use Rattle.automata_base.specs.ByteClasses.Classes.{transitions_bound}
use Rattle.automata_base.proofs.ByteClasses.Marking.{Left}
use Rattle.automata_base.proofs.util.alphabet.mark_transitions.Given as goal

abbrev pub invariant-loop-t : goal.invariant-loop-t
invariant-loop-t l = Left transitions_bound l.initial.marks l.marks l.transitions l.t-index
