-- The theorems are lemmas of `Flattened`.
use Rattle.automata_transform.proofs.Answers.Flattened.{flattened_alike, flattened_pairs, flattened_utf8}
use Rattle.automata_transform.proofs.laws.flattened_answers_alike.Goals as goal

pub returns-clause-answers : goal.returns-clause-answers
returns-clause-answers c = flattened_alike

pub returns-clause-pairs : goal.returns-clause-pairs
returns-clause-pairs c = flattened_pairs

pub returns-clause-utf8 : goal.returns-clause-utf8
returns-clause-utf8 c = flattened_utf8
