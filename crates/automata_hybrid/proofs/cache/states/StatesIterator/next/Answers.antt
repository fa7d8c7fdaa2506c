use Rattle.std.proofs.Common.{rules, ◌<◌, length}
use Rattle.automata_hybrid.proofs.Storage.States.{first_row}
use Rattle.automata_hybrid.proofs.cache.states.StatesIterator.next.Goals as goal

pub split_at-requires : goal.split_at-requires
split_at-requires c =
    let l : 0 < length c.self.inside.rows.now = search rules in
    (first_row c.self.inside.stride c.self.inside.offset c.self.inside.cells.now c.self.inside.rows.now
    c.index-self-0.result l c.self.invariant).enough
