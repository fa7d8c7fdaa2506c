use Rattle.std.proofs.Common.{◌≡◌, ◌∙◌, ℕ, List, sym, ap, ◌+◌, ◌-◌, ◌%◌, ◌<◌, drop, length, get_or, arith, subst}
use Rattle.std.proofs.lemmas.Grind.{common_steps, get_or_default_zero}
use Rattle.std.proofs.lemmas.List.{get_or-drop, get_or-take}
use Rattle.automata_hybrid.proofs.Words.{cell_at, IsCell, Names, offset_limit, Powerset, Rows, RowsFitCells}
use Rattle.automata_hybrid.proofs.Storage.Places.{Names-own, Names-Placed, Names-tagged, Placed-cell, Placed-IsCell}
use Rattle.automata_hybrid.proofs.cache.table.Table.cell_in_row.Goals as goal

-- the cell of a row lies in the table
cell_inside :
    (t : Rows) (id row class : ℕ) (q : Powerset) (cells : List ℕ) → RowsFitCells t → Names t id q → class < t.of.stride
    → row ≡ id % offset_limit
    → cells ≡ t.cells → row + class < length cells
cell_inside t id row class q cells i named below offset same =
    let l : cell_at id class < length t.cells = Placed-cell t id class q i (Names-Placed t id q i named) below in
    let s : length cells ≡ length t.cells = ap (λ (xs : List ℕ). length xs) same in
    omega (arith, l, s, offset)

pub bounds-column-row : goal.bounds-column-row
bounds-column-row c =
    let inside =
    cell_inside c.args.self.now c.args.id c.args.row c.args.class c.requires.row.0 c.as_slice-cells.result.now
    (subst RowsFitCells c.self.view_is c.self.invariant.rows)
    c.requires.row.1 c.requires.class c.requires.offset
    (c.as_slice-cells.ensures.value ∙ ap (λ (v : Rows). v.cells) c.self.view_is) in
    grind (arith, common_steps, inside)

read :
    (c : goal.After-index-column-row)
    → c.index-column-row.result ≡ get_or c.args.self.now.cells (cell_at c.args.id c.args.class) 0
read c =
    let cells : List ℕ = c.as_slice-cells.result.now in
    let inside =
    cell_inside c.args.self.now c.args.id c.args.row c.args.class c.requires.row.0 cells
    (subst RowsFitCells c.self.view_is c.self.invariant.rows)
    c.requires.row.1 c.requires.class c.requires.offset
    (c.as_slice-cells.ensures.value ∙ ap (λ (v : Rows). v.cells) c.self.view_is) in
    let r : ℕ = c.index-column-row.result in
    let at : c.args.class + c.args.row ≡ cell_at c.args.id c.args.class = omega (arith, c.requires.offset) in
    c.index-column-row.is
    ∙ (get_or-take (length cells - c.args.class) (drop c.args.class cells) c.args.row r (omega (arith, inside))
    ∙ (get_or-drop c.args.class cells c.args.row r
    ∙ (get_or_default_zero cells (c.args.class + c.args.row) r (omega (arith, inside))
    ∙ (ap (λ n. get_or cells n 0) at
    ∙ ap (λ (xs : List ℕ). get_or xs (cell_at c.args.id c.args.class) 0)
    (c.as_slice-cells.ensures.value ∙ ap (λ (v : Rows). v.cells) c.self.view_is)))))

pub returns-clause-value : goal.returns-clause-value
returns-clause-value c = read c

pub returns-clause-named : goal.returns-clause-named
returns-clause-named c = λ q h.
    let t : Rows = c.args.self.now in
    let i : RowsFitCells t = subst RowsFitCells c.self.view_is c.self.invariant.rows in
    let p = Names-Placed t c.args.id q i h in
    subst (IsCell t q c.args.class) (sym (read c)) (Placed-IsCell t c.args.id c.args.class q i p c.requires.class)

pub returns-clause-tag : goal.returns-clause-tag
returns-clause-tag c = λ q h.
    Names-tagged c.args.self.now c.index-column-row.result q
    (subst RowsFitCells c.self.view_is c.self.invariant.rows) h

pub returns-clause-own : goal.returns-clause-own
returns-clause-own c = λ q h.
    (Names-own c.args.self.now c.args.id q (subst RowsFitCells c.self.view_is c.self.invariant.rows) h).own
