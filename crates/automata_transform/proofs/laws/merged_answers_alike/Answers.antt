-- The theorems are lemmas of `Merged`.
use Rattle.automata_transform.proofs.Answers.Merged.{merged_accepts, merged_acyclic, merged_alike, merged_begins}
use Rattle.automata_transform.proofs.Answers.Merged.{merged_paired}
use Rattle.automata_transform.proofs.Answers.Merged.{merged_pairs, merged_reads, merged_utf8}
use Rattle.automata_transform.proofs.laws.merged_answers_alike.Goals as goal

pub returns-clause-answers : goal.returns-clause-answers
returns-clause-answers c = merged_alike

pub returns-clause-accepts : goal.returns-clause-accepts
returns-clause-accepts c = merged_accepts

pub returns-clause-pairs : goal.returns-clause-pairs
returns-clause-pairs c = merged_pairs

pub returns-clause-acyclic : goal.returns-clause-acyclic
returns-clause-acyclic c = merged_acyclic

pub returns-clause-utf8 : goal.returns-clause-utf8
returns-clause-utf8 c = merged_utf8

pub returns-clause-reads : goal.returns-clause-reads
returns-clause-reads c = merged_reads

pub returns-clause-begins : goal.returns-clause-begins
returns-clause-begins c = merged_begins

pub returns-clause-pair : goal.returns-clause-pair
returns-clause-pair c = merged_paired
