use Rattle.std.proofs.Common.{subst}
use Rattle.automata_hybrid.proofs.Words.{RowsFitCells}
use Rattle.automata_hybrid.proofs.cache.table.Table.states.Goals as goal

pub returns-clause-rows : goal.returns-clause-rows
returns-clause-rows c = subst RowsFitCells c.self.view_is c.self.invariant.rows
