use Rattle.automata_base.specs.ByteClasses.Classes.{states_bound}
use Rattle.automata_base.proofs.ByteClasses.Marking.{Left}
use Rattle.automata_base.proofs.util.alphabet.mark_states.Given as goal

abbrev pub invariant-loop-state : goal.invariant-loop-state
invariant-loop-state l = Left (states_bound l.terminator) l.initial.marks l.marks l.states l.state-index
