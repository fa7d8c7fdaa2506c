use Rattle.std.proofs.Common.{◌≡◌, ◌∙◌, ap, subst, length, get_or, Some, slice_get, refl}
use Rattle.std.proofs.lemmas.Option.{slice_get_read}
use Rattle.automata_hybrid.proofs.Words.{Row, Rows, RowsFitCells}
use Rattle.automata_hybrid.proofs.cache.table.Table.state.Goals as goal

pub returns-clause-row : goal.returns-clause-row
returns-clause-row c =
    let t : Rows = c.args.self.now in
    let r : Row = c.index-row.result.now in
    let k = c.row_index-index.result in
    let i : RowsFitCells t = subst RowsFitCells c.self.view_is c.self.invariant.rows in
    let e : r ≡ get_or t.rows k r = c.index-row.ensures ∙ ap (λ (v : Rows). get_or v.rows k r) c.self.view_is in
    let has : slice_get t.rows k ≡ Some r =
    slice_get_read t.rows (length t.rows) k r refl c.row_index-index.ensures.within e in
    i.states k r has
