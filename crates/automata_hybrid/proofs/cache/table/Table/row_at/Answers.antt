use Rattle.std.proofs.Common.{◌≤◌, ◌+◌, ◌*◌, ◌<◌, ◌^◌, arith, subst}
use Rattle.std.proofs.Math.Nat.{mul-le-mul_left}
use Rattle.automata_hybrid.proofs.Words.{Rows, RowsFitCells}
use Rattle.automata_hybrid.proofs.Storage.Leaps.{row_low}
use Rattle.automata_hybrid.proofs.cache.table.Table.row_at.Goals as goal

pub overflow_add-index : goal.overflow_add-index
overflow_add-index c =
    let low : (c.args.index + 3) * c.args.self.now.of.stride < 2 ^ 27 =
    row_low c.args.self.now c.args.index (subst RowsFitCells c.self.view_is c.self.invariant.rows) c.requires in
    let l : (c.args.index + 3) * 1 ≤ (c.args.index + 3) * c.args.self.now.of.stride =
    mul-le-mul_left (c.args.index + 3) (subst (λ (v : Rows). 0 < v.of.stride) c.self.view_is
    c.self.invariant.cells.positive) in
    omega (arith, low, l)
