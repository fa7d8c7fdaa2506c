use Rattle.std.proofs.Common.{◌+◌, ◌*◌, sym, ◌∙◌, arith, refl, replicate}
use Rattle.automata_base.specs.Retraced.Boundaries.{is_marked}
use Rattle.automata_base.proofs.ByteClasses.Boundaries.{counted_next, counted_same, counted_at, count_none}
use Rattle.automata_base.proofs.ByteClasses.Boundaries.{first_counted}
use Rattle.automata_base.proofs.ByteClasses.Boundaries.{from_bool-cond, from_bool-small}
use Rattle.automata_base.proofs.util.alphabet.counts.Goals as goal
use Rattle.automata_base.proofs.util.alphabet.counts.Goals.{then-has_mark+else-loop-i-test}
use Rattle.automata_base.proofs.util.alphabet.counts.Goals.{else-has_mark+else-loop-i-else-has_mark-test}

pub loop-byte-init : goal.loop-byte-init
loop-byte-init c = record {
  whole = refl;
  last = sym (count_none (is_marked c.args.marks.now));
  small = omega arith;
  done = first_counted (is_marked c.args.marks.now) (replicate 256 0) refl;
}

pub overflow_add-class : goal.overflow_add-class
overflow_add-class c =
    let seen = from_bool-small (is_marked c.args.marks.now c.loop-byte.byte) in
    omega (arith, c.loop-byte.invariant.small, c.loop-byte-test.true, c.from-class.ensures, seen)

pub loop-byte-preserved : goal.loop-byte-preserved
loop-byte-preserved c =
    let f = is_marked c.args.marks.now in
    counted_next f c.loop-byte.map c.loop-byte.class c.loop-byte.byte c.from-class.result c.loop-byte.auto.byte
    (omega (arith, c.loop-byte-test.true))
    (c.from-class.ensures ∙ from_bool-cond (f c.loop-byte.byte)) c.loop-byte.invariant

pub loop-block-init : goal.loop-block-init
loop-block-init c =
    counted_at (is_marked c.args.marks.now) c.loop-byte.map c.loop-byte.class c.loop-byte.byte 16
    (omega (arith, c.loop-byte-test.false, c.loop-byte.auto.byte-end)) c.loop-byte.invariant

pub loop-i-init : goal.loop-i-init
loop-i-init c =
    counted_at (is_marked c.args.marks.now) c.loop-block.map c.loop-block.class (16 * c.loop-block.block) _
    (omega arith) c.loop-block.invariant

pub overflow_add-class-in-loop-i : goal.overflow_add-class-in-loop-i
overflow_add-class-in-loop-i c =
    let seen = from_bool-small (is_marked c.args.marks.now (16 * c.loop-block.block + c.loop-i.i)) in
    omega (
      arith,
      c.loop-i.invariant.small,
      c.loop-block-test.true,
      c.loop-i-test.true,
      c.from-class-in-loop-i.ensures,
      seen,
    )

pub loop-i-preserved : goal.loop-i-preserved
loop-i-preserved c =
    let f = is_marked c.args.marks.now in
    let byte = 16 * c.loop-block.block + c.loop-i.i in
    counted_at f _ (c.loop-i.class + c.from-class-in-loop-i.result) (byte + 1) _ (omega arith)
    (counted_next f c.loop-i.map c.loop-i.class byte c.from-class-in-loop-i.result
    (omega (arith, c.loop-block.auto.block))
    (omega (arith, c.loop-block-test.true, c.loop-i-test.true))
    (c.from-class-in-loop-i.ensures ∙ from_bool-cond (f byte)) c.loop-i.invariant)

pub loop-i-else-has_mark-init : goal.loop-i-else-has_mark-init
loop-i-else-has_mark-init c =
    counted_at (is_marked c.args.marks.now) c.loop-block.map c.loop-block.class (16 * c.loop-block.block) _
    (omega arith) c.loop-block.invariant

pub loop-i-else-has_mark-preserved : goal.loop-i-else-has_mark-preserved
loop-i-else-has_mark-preserved c =
    let f = is_marked c.args.marks.now in
    let byte = 16 * c.loop-block.block + c.loop-i-else-has_mark.i in
    counted_at f _ c.loop-block.class (byte + 1) _ (omega arith)
    (counted_same f c.loop-i-else-has_mark.map c.loop-block.class byte (omega (arith, c.loop-block.auto.block))
    (omega (arith, c.loop-block-test.true, c.loop-i-else-has_mark-test.true))
    (c.has_mark.ensures c.if-has_mark.false c.loop-i-else-has_mark.i c.loop-i-else-has_mark-test.true)
    c.loop-i-else-has_mark.invariant)

pub loop-block-preserved : goal.loop-block-preserved
loop-block-preserved c =
    let f = is_marked c.args.marks.now in
    elim c.if-has_mark.branch [
      | then-has_mark+else-loop-i-test w ↦
          rw w.map-is (rw w.class-is (counted_at f w.loop-i.map w.loop-i.class (16 * c.loop-block.block + w.loop-i.i) _
          (omega (arith, w.loop-i-test.false, w.loop-i.auto.i-end)) w.loop-i.invariant))
      | else-has_mark+else-loop-i-else-has_mark-test w ↦
          rw w.map-is
          (rw w.class-is
          (counted_at f w.loop-i-else-has_mark.map c.loop-block.class
          (16 * c.loop-block.block + w.loop-i-else-has_mark.i) _
          (omega (arith, w.loop-i-else-has_mark-test.false, w.loop-i-else-has_mark.auto.i-end))
          w.loop-i-else-has_mark.invariant))
    ]

pub returns-clause-whole : goal.returns-clause-whole
returns-clause-whole c = c.loop-block.invariant.whole

pub returns-clause-same : goal.returns-clause-same
returns-clause-same c = λ byte h. c.loop-block.invariant.done byte (omega (arith, h, c.loop-block-test.false))
