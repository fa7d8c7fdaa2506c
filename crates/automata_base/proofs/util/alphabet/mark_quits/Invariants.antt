use Rattle.automata_base.specs.ByteClasses.Classes.{quits_bound}
use Rattle.automata_base.specs.Retraced.Boundaries.{Adds}
use Rattle.automata_base.proofs.ByteClasses.Marking.{upto}
use Rattle.automata_base.proofs.util.alphabet.mark_quits.Given as goal

abbrev pub invariant-loop-byte : goal.invariant-loop-byte
invariant-loop-byte l = Adds l.initial.marks l.marks (upto l.byte (quits_bound l.quits))
