use Rattle.prefilters.proofs.Answering.{answer_moves, selection_moves, span_moves, truth_moves}
use Rattle.prefilters.proofs.Nowhere.{none_found}
use Rattle.prefilters.proofs.laws.skipped_offsets_change_nothing.Goals as goal

pub returns-clause-selections : goal.returns-clause-selections
returns-clause-selections c = λ d input p answer m. selection_moves d input p m answer

pub returns-clause-answers : goal.returns-clause-answers
returns-clause-answers c = λ d input p answer m. answer_moves d input p m answer

pub returns-clause-spans : goal.returns-clause-spans
returns-clause-spans c = λ d input p answer m. span_moves d input p m answer

pub returns-clause-truths : goal.returns-clause-truths
returns-clause-truths c = truth_moves

pub returns-clause-none : goal.returns-clause-none
returns-clause-none c = none_found
