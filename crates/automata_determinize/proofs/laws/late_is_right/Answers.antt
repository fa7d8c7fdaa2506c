-- The theorems are lemmas of `Finals`.
use Rattle.automata_determinize.proofs.Paths.Finals.{search_right, walked_right, earliest_right, end_right, set_right}
use Rattle.automata_determinize.proofs.laws.late_is_right.Goals as goal

pub returns-clause-searches : goal.returns-clause-searches
returns-clause-searches c = search_right

pub returns-clause-walks : goal.returns-clause-walks
returns-clause-walks c = walked_right

pub returns-clause-nearest : goal.returns-clause-nearest
returns-clause-nearest c = earliest_right

pub returns-clause-ends : goal.returns-clause-ends
returns-clause-ends c = end_right

pub returns-clause-pairs : goal.returns-clause-pairs
returns-clause-pairs c = set_right
