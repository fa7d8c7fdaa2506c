use Rattle.patterns.proofs.Skips.{narrowing_keeps, span_none}
use Rattle.patterns.proofs.laws.narrowed_inputs_are_enough.Goals as goal

pub returns-clause-kept : goal.returns-clause-kept
returns-clause-kept c = narrowing_keeps

pub returns-clause-none : goal.returns-clause-none
returns-clause-none c = span_none
