use Rattle.regex_automata.proofs.Spans.Agreement.{truths_agree}
use Rattle.regex_automata.proofs.laws.truths_agree.Goals as goal

pub returns : goal.returns
returns c = truths_agree c.passes_report_paths.ensures.one
