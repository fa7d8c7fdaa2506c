use Rattle.automata_transform.proofs.Nfas.Folds.Alike.{patterns_turned, reversed_true}
use Rattle.automata_transform.proofs.laws.reversed_is_true.Goals as goal

pub returns-clause-pair : goal.returns-clause-pair
returns-clause-pair c = reversed_true

pub returns-clause-patterns : goal.returns-clause-patterns
returns-clause-patterns c = patterns_turned
