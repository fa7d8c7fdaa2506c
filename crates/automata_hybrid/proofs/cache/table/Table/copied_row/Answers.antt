use Rattle.std.proofs.Common.{◌≡◌, ◌∙◌, sym, ap, ◌+◌, ◌*◌, length, None, Some, slice_get, get_or, subst, refl}
use Rattle.std.proofs.lemmas.Option.{slice_get_read}
use Rattle.automata_hybrid.proofs.Words.{Row, row_id, Rows, RowsFitCells}
use Rattle.automata_hybrid.specs.Private.Cache.Table.{IsCopiedRow}
use Rattle.automata_hybrid.proofs.cache.table.Table.copied_row.Goals as goal

at : (c : goal.In_ok-copy) → slice_get c.args.self.now.rows c.args.row ≡ Some c.index-row.result.now
at c =
    let t : Rows = c.args.self.now in
    let r : Row = c.index-row.result.now in
    let e : r ≡ get_or t.rows c.args.row r =
    c.index-row.ensures ∙ ap (λ (v : Rows). get_or v.rows c.args.row r) c.self.view_is in
    slice_get_read t.rows (length t.rows) c.args.row r refl c.requires e

pub returns : goal.returns
returns c =
    let t : Rows = c.args.self.now in
    let r : Row = c.index-row.result.now in
    let i : RowsFitCells t = subst RowsFitCells c.self.view_is c.self.invariant.rows in
    subst (IsCopiedRow t c.args.row) (sym c.in_ok-copy.ensures.cases)
    (record {
      value = at c;
      state = i.states c.args.row r (at c);
      had = λ none. (let clash : None ≡ Some (row_id ((c.args.row + 3) * t.of.stride) r) =
          sym none ∙ (i.ids c.args.row r (at c)).0 in
          cc);
    })
