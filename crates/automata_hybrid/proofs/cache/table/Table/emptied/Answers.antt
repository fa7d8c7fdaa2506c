use Rattle.std.proofs.Common.{◌≡◌, arith, length}
use Rattle.std.proofs.lemmas.Grind.{common_steps}
use Rattle.automata_hybrid.proofs.cache.table.Table.emptied.Goals as goal

pub fresh-requires-clause-room : goal.fresh-requires-clause-room
fresh-requires-clause-room c =
    let t = c.self.invariant.rows in
    let rows : c.len.result ≡ length c.self.inside.rows.items = grind (arith, common_steps) in
    rw (rows, c.self.invariant.stride) (omega (arith, t.whole, t.small, c.self.invariant.cells.small))
