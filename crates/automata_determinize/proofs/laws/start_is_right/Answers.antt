-- The theorems are lemmas.
use Rattle.automata_determinize.proofs.Answers.Right.{far_right, span_right}
use Rattle.automata_determinize.proofs.Answers.Total.{span_found}
use Rattle.automata_base.proofs.Answers.Once.{span_once, answer_once, spans_once, match_iff_find}
use Rattle.automata_determinize.proofs.Answers.Rising.{spans_right, spans_rise, found_rise}
use Rattle.automata_determinize.proofs.Answers.Units.{back_meets_none}
use Rattle.automata_determinize.proofs.laws.start_is_right.Goals as goal

pub returns-clause-starts : goal.returns-clause-starts
returns-clause-starts c = record {
  paths = λ f r input outcome pair keeps b s. span_right f r input outcome pair keeps b.0 b.1 s;
  farthest = λ f r input outcome pair keeps b s. far_right f r input outcome pair keeps b.0 b.1 s;
}

pub returns-clause-found : goal.returns-clause-found
returns-clause-found c = span_found

pub returns-clause-one : goal.returns-clause-one
returns-clause-one c = record { span = span_once; answer = answer_once; list = spans_once }

pub returns-clause-iterations : goal.returns-clause-iterations
returns-clause-iterations c = λ f r input ms pair keeps b s. spans_right f r input ms pair keeps b.0 b.1 s

pub returns-clause-rise : goal.returns-clause-rise
returns-clause-rise c = record { spans = spans_rise; found = found_rise }

pub returns-clause-matches : goal.returns-clause-matches
returns-clause-matches c = match_iff_find

pub returns-clause-quits : goal.returns-clause-quits
returns-clause-quits c = back_meets_none
