-- Tables whose rows and cells fit each other are sound.
use Rattle.std.proofs.Common.{◌≡◌, ◌+◌, ◌*◌, ◌^◌, ◌++◌, length, length-append, replicate, arith}
use Rattle.std.proofs.lemmas.List.{length-replicate, take_all}
use Rattle.automata_base.proofs.Paths.Orders.{none_some}
use Rattle.automata_hybrid.proofs.Words.{dead_id, fresh, IsTemplate, Machine, quit_id, Rows, RowsFitCells}
use Rattle.automata_hybrid.specs.Cache.Table.{fixed_rows}
use Rattle.automata_hybrid.specs.Private.Cache.Table.{IsSoundTable}
use Rattle.automata_hybrid.proofs.Storage.Places.{RowsFitCells-costs, Names-Placed, Names-alive, Names-own}
use Rattle.automata_hybrid.proofs.Storage.Places.{Names-tagged, Placed-cell}

-- such a table is sound, if the cells of a new row are
pub sound_table : (t : Rows) → RowsFitCells t → IsTemplate t.of.stride t.of.template → IsSoundTable t
sound_table t i template = record {
  rows = i;
  template = template;
  costs = RowsFitCells-costs t i;
  low = λ id q h. (Names-Placed t id q i h).low;
  tagged = λ id q h. Names-tagged t id q i h;
  alive = λ id q h. Names-alive t id q i h;
  own = λ id q h. (Names-own t id q i h).own;
  cells = λ id class v l. Placed-cell t id class v.0 i (Names-Placed t id v.0 i v.1) l;
}

-- a table with only the fixed rows is sound
pub sound_fresh : (m : Machine) → IsTemplate m.stride m.template → IsSoundTable (fresh m)
sound_fresh m template =
    let a : length (replicate m.stride (2 ^ 31)) ≡ m.stride = length-replicate m.stride (2 ^ 31) in
    let b : length (replicate m.stride (dead_id m.stride)) ≡ m.stride = length-replicate m.stride (dead_id m.stride) in
    let d : length (replicate m.stride (quit_id m.stride)) ≡ m.stride = length-replicate m.stride (quit_id m.stride) in
    let cells : length (fixed_rows m.stride) ≡ (0 + 3) * m.stride =
    omega (
      arith,
      length-append (replicate m.stride (2 ^ 31))
          (replicate m.stride (dead_id m.stride) ++ replicate m.stride (quit_id m.stride)),
      length-append
          (replicate m.stride (dead_id m.stride)) (replicate m.stride (quit_id m.stride)),
      a,
      b,
      d,
    ) in
    sound_table (fresh m)
    (record {
      whole = cells;
      small = omega (arith, cells, template.small);
      fixed = take_all (3 * m.stride) (fixed_rows m.stride) (omega (arith, cells));
      stepped = λ k class r at. absurd (none_some at);
      ids = λ k r at. absurd (none_some at);
      states = λ k r at. absurd (none_some at);
    }) template
