use Rattle.std.proofs.Common.{ℕ, ◌≡◌, ◌≤◌, ◌+◌, ◌*◌, length, slice_index, arith}
use Rattle.std.proofs.Math.Nat.{mul-le-mul_right}
use Rattle.automata_hybrid.proofs.Storage.Leaps.{level_append, slice_at, slice_long}
use Rattle.automata_hybrid.proofs.cache.leaps.next_level.Goals as goal

pub loop-row-preserved : goal.loop-row-preserved
loop-row-preserved c =
    let row : ℕ = slice_index c.args.level.now c.loop-row.row-index in
    let known : row ≤ length c.args._table.now.rows =
    (c.requires.level.1 c.loop-row.row-index c.loop-row-test.true).upto in
    let within : (row + 1) * c.args.classes ≤ (length c.args._table.now.rows + 1) * c.args.classes =
    mul-le-mul_right c.args.classes (omega (arith, known)) in
    let next : (row + 1) * c.args.classes ≡ row * c.args.classes + c.args.classes = omega arith in
    let wide =
    slice_long c.args.steps.now (row * c.args.classes) c.args.classes (omega (arith, within, next, c.requires.long)) in
    record {
      long = omega (arith, c.loop-row.invariant.long, c.in_ok-extend_from_slice.ensures.len, wide);
      level = λ count before.
          level_append c.args._table.now c.args.classes count c.args.level.now c.args.steps.now c.loop-row.next.items
          c.extend_from_slice.new.self.items _ c.loop-row.row-index c.requires.long c.loop-row-test.true
          c.loop-row.invariant.long
          c.in_ok-extend_from_slice.ensures.items wide
          (λ class l. slice_at c.args.steps.now (row * c.args.classes) c.args.classes class l)
          c.requires.steps before (c.loop-row.invariant.level count before);
    }
