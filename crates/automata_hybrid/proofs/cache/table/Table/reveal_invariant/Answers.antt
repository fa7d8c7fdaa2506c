use Rattle.std.proofs.Common.{subst}
use Rattle.automata_hybrid.proofs.Words.{IsTemplate, Rows, RowsFitCells}
use Rattle.automata_hybrid.proofs.Storage.SoundTables.{sound_table}
use Rattle.automata_hybrid.proofs.cache.table.Table.reveal_invariant.Goals as goal

pub returns : goal.returns
returns c =
    sound_table c.args.self.now (subst RowsFitCells c.self.view_is c.self.invariant.rows)
    (subst (λ (v : Rows). IsTemplate v.of.stride v.of.template) c.self.view_is c.self.invariant.cells)
