use Rattle.std.proofs.Common.{◌≡◌, ◌∙◌, ap, ◌+◌, ◌/◌, ◌%◌, ◌^◌, ◌<◌, arith, subst, refl, sym}
use Rattle.automata_hybrid.proofs.Storage.Places.{Names-Placed, Placed-place, Placed-HasState}
use Rattle.automata_hybrid.proofs.Words.{Rows, RowsFitCells}
use Rattle.automata_hybrid.proofs.cache.table.Table.row_index.Goals as goal

pub rows_before-requires : goal.rows_before-requires
rows_before-requires c =
    let s : c.self.inside.stride ≡ c.args.self.now.of.stride =
    c.self.invariant.stride ∙ ap (λ (v : Rows). v.of.stride) c.self.view_is in
    let power = c.self.invariant.cells.power in
    record {
      positive = subst (λ n. 0 < n) (sym c.self.invariant.stride) c.self.invariant.cells.positive;
      power = (power.0, c.self.invariant.stride ∙ power.1);
    }

pub overflow_sub-result : goal.overflow_sub-result
overflow_sub-result c =
    let t : Rows = c.args.self.now in
    let positive : 0 < t.of.stride =
    subst (λ (v : Rows). 0 < v.of.stride) c.self.view_is c.self.invariant.cells.positive in
    let i : RowsFitCells t = subst RowsFitCells c.self.view_is c.self.invariant.rows in
    let s : c.self.inside.stride ≡ t.of.stride =
    c.self.invariant.stride ∙ ap (λ (v : Rows). v.of.stride) c.self.view_is in
    let p = Names-Placed t c.args.id c.requires.0 i c.requires.1 in
    let e : (c.args.id % 2 ^ 27) / t.of.stride ≡ p.place + 3 = Placed-place t c.args.id c.requires.0 positive p in
    rw (c.rows_before.ensures, c.offset.ensures, s, e) (omega arith)

pub returns-clause-value : goal.returns-clause-value
returns-clause-value c =
    let s : c.self.inside.stride ≡ c.args.self.now.of.stride =
    c.self.invariant.stride ∙ ap (λ (v : Rows). v.of.stride) c.self.view_is in
    rw (c.rows_before.ensures, c.offset.ensures, s) refl

pub returns-clause-row : goal.returns-clause-row
returns-clause-row c = λ q h.
    let t : Rows = c.args.self.now in
    let positive : 0 < t.of.stride =
    subst (λ (v : Rows). 0 < v.of.stride) c.self.view_is c.self.invariant.cells.positive in
    let i : RowsFitCells t = subst RowsFitCells c.self.view_is c.self.invariant.rows in
    let s : c.self.inside.stride ≡ t.of.stride =
    c.self.invariant.stride ∙ ap (λ (v : Rows). v.of.stride) c.self.view_is in
    Placed-HasState t c.args.id _ q positive (Names-Placed t c.args.id q i h)
    (rw (c.rows_before.ensures, c.offset.ensures, s) refl)

pub returns-clause-within : goal.returns-clause-within
returns-clause-within c =
    let t : Rows = c.args.self.now in
    let positive : 0 < t.of.stride =
    subst (λ (v : Rows). 0 < v.of.stride) c.self.view_is c.self.invariant.cells.positive in
    let i : RowsFitCells t = subst RowsFitCells c.self.view_is c.self.invariant.rows in
    let s : c.self.inside.stride ≡ t.of.stride =
    c.self.invariant.stride ∙ ap (λ (v : Rows). v.of.stride) c.self.view_is in
    let p = Names-Placed t c.args.id c.requires.0 i c.requires.1 in
    let e : (c.args.id % 2 ^ 27) / t.of.stride ≡ p.place + 3 = Placed-place t c.args.id c.requires.0 positive p in
    rw (c.rows_before.ensures, c.offset.ensures, s, e) (omega (arith, p.within))
