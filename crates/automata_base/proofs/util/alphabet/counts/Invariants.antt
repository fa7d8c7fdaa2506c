use Rattle.std.proofs.Common.{◌+◌, ◌*◌}
use Rattle.automata_base.specs.Retraced.Boundaries.{is_marked}
use Rattle.automata_base.proofs.ByteClasses.Boundaries.{Counted}
use Rattle.automata_base.proofs.util.alphabet.counts.Given as goal

abbrev pub invariant-loop-byte : goal.invariant-loop-byte
invariant-loop-byte l = Counted (is_marked l.marks) l.map l.class l.byte

abbrev pub invariant-loop-i : goal.invariant-loop-i
invariant-loop-i l = Counted (is_marked l.marks) l.map l.class (16 * l.block + l.i)

abbrev pub invariant-loop-i-else-has_mark : goal.invariant-loop-i-else-has_mark
invariant-loop-i-else-has_mark l = Counted (is_marked l.marks) l.map l.class (16 * l.block + l.i)

abbrev pub invariant-loop-block : goal.invariant-loop-block
invariant-loop-block l = Counted (is_marked l.marks) l.map l.class (16 * l.block)
