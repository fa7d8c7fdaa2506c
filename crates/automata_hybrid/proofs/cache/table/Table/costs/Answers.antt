use Rattle.std.proofs.Common.{subst}
use Rattle.automata_hybrid.proofs.Storage.Places.{RowsFitCells-costs}
use Rattle.automata_hybrid.proofs.Words.{RowsFitCells}
use Rattle.automata_hybrid.proofs.cache.table.Table.costs.Goals as goal

pub returns-clause-most : goal.returns-clause-most
returns-clause-most c =
    RowsFitCells-costs c.args.self.now (subst RowsFitCells c.self.view_is c.self.invariant.rows)
