use Rattle.automata_base.specs.ByteClasses.Classes.{targets_bound}
use Rattle.automata_base.proofs.ByteClasses.Marking.{runs_next}
use Rattle.automata_base.proofs.util.alphabet.mark_targets.Goals as goal

pub loop-byte-preserved : goal.loop-byte-preserved
loop-byte-preserved c =
    runs_next c.args.marks.now c.loop-byte.marks c.mark_if.new.marks (targets_bound c.args.targets.now) c.loop-byte.byte
    c.are_targets_apart.result
    c.are_targets_apart.ensures c.loop-byte.invariant c.mark_if.ensures
