use Rattle.std.proofs.Common.{◌∙◌, ◌&&◌, ◌||◌, ◌<◌, ap, arith, lt-ltb}
use Rattle.automata_base.specs.ByteClasses.Classes.{quits_bound}
use Rattle.automata_base.specs.Retraced.Boundaries.{is_marked}
use Rattle.automata_base.proofs.ByteClasses.Marking.{runs_next, adds_no_quits}
use Rattle.automata_base.proofs.util.alphabet.mark_quits.Goals as goal

pub loop-byte-preserved : goal.loop-byte-preserved
loop-byte-preserved c =
    runs_next c.args.marks.now c.loop-byte.marks c.mark_if.new.marks (quits_bound c.args.quits.now) c.loop-byte.byte
    c.are_quits_apart.result
    c.are_quits_apart.ensures c.loop-byte.invariant c.mark_if.ensures

pub returns-then-is_empty : goal.returns-then-is_empty
returns-then-is_empty c = adds_no_quits c.args.marks.now c.args.quits.now (c.is_empty.ensures.yes c.if-is_empty.true)

pub returns : goal.returns
returns c = record {
  marks = λ byte l.
      let inside : byte < c.loop-byte.byte = omega (arith, l, c.loop-byte-test.false) in
      c.loop-byte.invariant.marks byte l
      ∙ ap (λ b. is_marked c.args.marks.now byte || (b && quits_bound c.args.quits.now byte))
      (lt-ltb byte c.loop-byte.byte inside);
}
