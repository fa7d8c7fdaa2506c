-- The theorems are lemmas of `Anchored`.
use Rattle.automata_transform.proofs.Answers.Anchored.{anchored_alike, anchored_pairs, anchored_utf8}
use Rattle.automata_transform.proofs.laws.anchored_answers_alike.Goals as goal

pub returns-clause-answers : goal.returns-clause-answers
returns-clause-answers c = anchored_alike

pub returns-clause-pairs : goal.returns-clause-pairs
returns-clause-pairs c = anchored_pairs

pub returns-clause-utf8 : goal.returns-clause-utf8
returns-clause-utf8 c = anchored_utf8
