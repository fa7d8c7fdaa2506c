use Rattle.std.proofs.Common.{◌∙◌, arith}
use Rattle.automata_determinize.proofs.Powersets.Marks.{marked, marks_past}
use Rattle.automata_determinize.proofs.determinize.lists.is_new.Goals as goal

pub returns-then-as_usize-capacity-clause-new : goal.returns-then-as_usize-capacity-clause-new
returns-then-as_usize-capacity-clause-new c =
    (marked c.args.p c.new_unchecked.result c.args.patterns.now c.args.marks.now c.insert.new.self c.insert.result
    (c.new_unchecked.ensures ∙ c.as_u32.ensures.value) c.requires (omega arith)
    c.insert.ensures.new c.insert.ensures.added c.insert.ensures.had c.insert.ensures.unchanged
    c.insert.ensures.capacity).0

pub returns-then-as_usize-capacity-clause-marks : goal.returns-then-as_usize-capacity-clause-marks
returns-then-as_usize-capacity-clause-marks c =
    (marked c.args.p c.new_unchecked.result c.args.patterns.now c.args.marks.now c.insert.new.self c.insert.result
    (c.new_unchecked.ensures ∙ c.as_u32.ensures.value) c.requires (omega arith)
    c.insert.ensures.new c.insert.ensures.added c.insert.ensures.had c.insert.ensures.unchanged
    c.insert.ensures.capacity).1

pub returns-else-as_usize-capacity-clause-marks : goal.returns-else-as_usize-capacity-clause-marks
returns-else-as_usize-capacity-clause-marks c =
    marks_past c.args.p c.args.patterns.now c.args.marks.now c.requires (omega arith)
