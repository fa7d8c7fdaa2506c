use Rattle.automata_determinize.proofs.Powersets.ReportedPairs.{all_pairs}
use Rattle.automata_determinize.proofs.Powersets.WalkReports.{overlapping_reported, walk_right, walks_one}
use Rattle.automata_determinize.proofs.Powersets.WalkReports.{walks_reported}
use Rattle.automata_determinize.proofs.Answers.Within.{walk_lies}
use Rattle.automata_determinize.proofs.laws.walk_is_right.Goals as goal

pub returns-clause-reported : goal.returns-clause-reported
returns-clause-reported c = walks_reported c.args.nfa.now _ _ c.is_utf8-utf8.ensures c.has_empty-empty.ensures

pub returns-clause-one : goal.returns-clause-one
returns-clause-one c = walks_one

pub returns-clause-right : goal.returns-clause-right
returns-clause-right c = walk_right c.args.nfa.now c.states-states.ensures.checked

pub returns-clause-overlapping : goal.returns-clause-overlapping
returns-clause-overlapping c = overlapping_reported c.args.nfa.now c.states-states.ensures.checked

pub returns-clause-all : goal.returns-clause-all
returns-clause-all c = all_pairs c.args.nfa.now c.states-states.ensures.checked

pub returns-clause-within : goal.returns-clause-within
returns-clause-within c = walk_lies c.args.nfa.now c.states-states.ensures.checked
