use Rattle.std.proofs.Common.{◌≡◌, ap, ℕ, ◌+◌, ◌%◌, ◌^◌, ◌<◌, length, set, arith, subst, refl}
use Rattle.std.proofs.lemmas.Grind.{common_steps}
use Rattle.automata_hybrid.proofs.Storage.Places.{RowsFitCells-with_cell, Names-Placed, Placed-cell}
use Rattle.automata_hybrid.proofs.Words.{cell_at, Rows, RowsFitCells, with_cell}
use Rattle.automata_hybrid.proofs.Storage.SoundTables.{sound_table}
use Rattle.automata_hybrid.proofs.cache.table.Table.set_cell.Goals as goal

pub index_mut-requires : goal.index_mut-requires
index_mut-requires c =
    let t : Rows = c.args.self.now in
    let i : RowsFitCells t = subst RowsFitCells c.self.view_is c.self.invariant.rows in
    let p = Names-Placed t c.args.id c.requires.row.0 i c.requires.row.1 in
    let l : cell_at c.args.id c.args.class < length t.cells =
    Placed-cell t c.args.id c.args.class c.requires.row.0 i p c.requires.class in
    let s : length c.self.inside.cells.items ≡ length t.cells = ap (λ (v : Rows). length v.cells) c.self.view_is in
    grind (arith, common_steps, l, s, c.offset.ensures)

written :
    (t : Rows) (inside : Rows) (at id class next : ℕ) → inside ≡ t → at ≡ id % 2 ^ 27
    → with_cell t id class next
    ≡ record { of = inside.of; cells = set inside.cells (at + class) next; rows = inside.rows }
written t inside at id class next e f = rw (f, ← e) refl

pub invariant_of-self : goal.invariant_of-self
invariant_of-self c =
    let t : Rows = c.args.self.now in
    let i : RowsFitCells t = subst RowsFitCells c.self.view_is c.self.invariant.rows in
    let n : RowsFitCells (with_cell t c.args.id c.args.class c.args.next) =
    RowsFitCells-with_cell t c.args.id c.args.class c.args.next c.requires.next.0 i c.requires.next.1 c.requires.class
    c.requires.free c.requires.next.2 in
    record {
      rows =
          subst RowsFitCells
          (written t _ c.offset.result c.args.id c.args.class c.args.next c.self.view_is c.offset.ensures) n;
      cells = c.self.invariant.cells;
      stride = c.self.invariant.stride;
      template = c.self.invariant.template;
      mapped = c.self.invariant.mapped;
      costs_of = c.self.invariant.costs_of;
    }

pub returns-clause-sound : goal.returns-clause-sound
returns-clause-sound c = sound_table _ (invariant_of-self c).rows c.self.invariant.cells
