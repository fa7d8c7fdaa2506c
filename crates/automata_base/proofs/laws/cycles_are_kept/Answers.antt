use Rattle.automata_base.proofs.Paths.KeptUnions.{acyclic_keeps, unions_keep, unions_dropped}
use Rattle.automata_base.proofs.laws.cycles_are_kept.Goals as goal

pub returns-clause-acyclic : goal.returns-clause-acyclic
returns-clause-acyclic c = acyclic_keeps

pub returns-clause-unions : goal.returns-clause-unions
returns-clause-unions c = unions_keep

pub returns-clause-dropped : goal.returns-clause-dropped
returns-clause-dropped c = unions_dropped
