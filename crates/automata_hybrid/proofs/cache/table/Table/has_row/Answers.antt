use Rattle.std.proofs.Common.{◌≡◌, ◌<◌, ◌≤◌, ◌∙◌, sym, ap, ◌-◌, ◌*◌, ◌/◌, ◌%◌, ◌^◌, arith, subst, refl, true≢false}
use Rattle.std.proofs.Common.{length, vec_len, get_or, slice_get, Some}
use Rattle.std.proofs.lemmas.Bool.{eqb-true, eq-eqb}
use Rattle.std.proofs.lemmas.Option.{slice_get_read}
use Rattle.automata_hybrid.proofs.Words.{IsRowId, Row, row_id, Rows, RowsFitCells}
use Rattle.automata_hybrid.proofs.Storage.Places.{placed_valid, valid_at}
use Rattle.automata_base.proofs.Paths.Orders.{some_inj}
use Rattle.automata_hybrid.proofs.cache.table.Table.has_row.Goals as goal
use Rattle.automata_hybrid.proofs.cache.table.Table.has_row.Goals.{then-index-lt3-via-then-index-lt3}
use Rattle.automata_hybrid.proofs.cache.table.Table.has_row.Goals.{then-index-lt3-via-else-index-lt3+then-len-index}

pub rows_before-index-requires : goal.rows_before-index-requires
rows_before-index-requires c =
    let s : c.self.inside.stride ≡ c.args.self.now.of.stride =
    c.self.invariant.stride ∙ ap (λ (v : Rows). v.of.stride) c.self.view_is in
    let power = c.self.invariant.cells.power in
    record {
      positive = subst (λ n. 0 < n) (sym c.self.invariant.stride) c.self.invariant.cells.positive;
      power = (power.0, c.self.invariant.stride ∙ power.1);
    }

pub returns-then-index-lt3 : goal.returns-then-index-lt3
returns-then-index-lt3 c =
    let t : Rows = c.args.self.now in
    let i : RowsFitCells t = subst RowsFitCells c.self.view_is c.self.invariant.rows in
    let positive : 0 < t.of.stride =
    subst (λ (v : Rows). 0 < v.of.stride) c.self.view_is c.self.invariant.cells.positive in
    let s : c.self.inside.stride ≡ t.of.stride =
    c.self.invariant.stride ∙ ap (λ (v : Rows). v.of.stride) c.self.view_is in
    let e : c.rows_before-index.result ≡ (c.args.id % 2 ^ 27) / t.of.stride =
    c.rows_before-index.ensures ∙ ap (λ n. n / c.self.inside.stride) c.offset-offset.ensures
    ∙ ap (λ z. (c.args.id % 2 ^ 27) / z) s in
    let rows : length c.self.inside.rows.items ≡ length t.rows = ap (λ (v : Rows). length v.rows) c.self.view_is in
    let none : IsRowId t c.args.id → ⊥ =
    λ v. let a = valid_at t c.args.id i positive v in
    let len : vec_len c.self.inside.rows ≡ length c.self.inside.rows.items = c.self.inside.rows.ok.0 in
    elim c.then-index-lt3.branch [
      | then-index-lt3-via-then-index-lt3 w ↦ omega (arith, e, a.behind, w.if-index-lt3.true)
      | then-index-lt3-via-else-index-lt3+then-len-index w ↦ omega
          (arith, e, a.within, rows, len, w.len.ensures, w.if-len-index.true)
    ] in ((λ f. absurd (true≢false (sym f))), λ v. absurd (none v))

pub returns-then-index-self : goal.returns-then-index-self
returns-then-index-self c =
    let t : Rows = c.args.self.now in
    let i : RowsFitCells t = subst RowsFitCells c.self.view_is c.self.invariant.rows in
    let positive : 0 < t.of.stride =
    subst (λ (v : Rows). 0 < v.of.stride) c.self.view_is c.self.invariant.cells.positive in
    let s : c.self.inside.stride ≡ t.of.stride =
    c.self.invariant.stride ∙ ap (λ (v : Rows). v.of.stride) c.self.view_is in
    let e : c.rows_before-index.result ≡ (c.args.id % 2 ^ 27) / t.of.stride =
    c.rows_before-index.ensures ∙ ap (λ n. n / c.self.inside.stride) c.offset-offset.ensures
    ∙ ap (λ z. (c.args.id % 2 ^ 27) / z) s in (
      (λ f. absurd (true≢false (sym f))),
      λ v. let a = valid_at t c.args.id i positive v in
          absurd (c.if-index-self.true
          (ap (λ n. n * c.self.inside.stride) e ∙ ap (λ z. (c.args.id % 2 ^ 27) / t.of.stride * z) s ∙ a.at
          ∙ sym c.offset-offset.ensures)),
    )

pub returns : goal.returns
returns c =
    let t : Rows = c.args.self.now in
    let i : RowsFitCells t = subst RowsFitCells c.self.view_is c.self.invariant.rows in
    let positive : 0 < t.of.stride =
    subst (λ (v : Rows). 0 < v.of.stride) c.self.view_is c.self.invariant.cells.positive in
    let s : c.self.inside.stride ≡ t.of.stride =
    c.self.invariant.stride ∙ ap (λ (v : Rows). v.of.stride) c.self.view_is in
    let e : c.rows_before-index.result ≡ (c.args.id % 2 ^ 27) / t.of.stride =
    c.rows_before-index.ensures ∙ ap (λ n. n / c.self.inside.stride) c.offset-offset.ensures
    ∙ ap (λ z. (c.args.id % 2 ^ 27) / z) s in
    let row : Row = c.index-row.result.now in
    let three : 3 ≤ c.rows_before-index.result = omega (arith, c.if-index-lt3.false) in
    let rows : length c.self.inside.rows.items ≡ length t.rows = ap (λ (v : Rows). length v.rows) c.self.view_is in
    let len : vec_len c.self.inside.rows ≡ length c.self.inside.rows.items = c.self.inside.rows.ok.0 in
    let few : c.rows_before-index.result - 3 < length t.rows =
    omega (arith, three, rows, len, c.len.ensures, c.if-len-index.false) in
    let read : row ≡ get_or t.rows (c.rows_before-index.result - 3) row =
    c.index-row.ensures ∙ ap (λ (v : Rows). get_or v.rows (c.rows_before-index.result - 3) row) c.self.view_is in
    let has : slice_get t.rows (c.rows_before-index.result - 3) ≡ Some row =
    slice_get_read t.rows (length t.rows) (c.rows_before-index.result - 3) row refl few read in
    let at : c.rows_before-index.result * t.of.stride ≡ c.args.id % 2 ^ 27 =
    ap (λ z. c.rows_before-index.result * z) (sym s) ∙ c.if-index-self.false ∙ c.offset-offset.ensures in
    let made : c.id.result ≡ row_id (c.args.id % 2 ^ 27) row =
    c.id.ensures ∙ ap (λ n. row_id n row) c.offset-offset.ensures in (
      (λ yes. placed_valid t c.args.id (c.rows_before-index.result) row i three has at
          (eqb-true c.args.id c.id.result (sym c.eq.ensures ∙ yes) ∙ made)),
      (λ v. let a = valid_at t c.args.id i positive v in
          let one : a.row ≡ row =
          some_inj (sym a.has ∙ ap (λ n. slice_get t.rows (n - 3)) (sym e) ∙ has) in
          c.eq.ensures
          ∙ eq-eqb c.args.id c.id.result (a.same ∙ ap (λ r. row_id (c.args.id % 2 ^ 27) r) one ∙ sym made)),
    )
