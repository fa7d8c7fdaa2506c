use Rattle.regex_automata.proofs.Spans.Agreement.{truth_is_found}
use Rattle.regex_automata.proofs.laws.truth_is_found.Goals as goal

pub returns : goal.returns
returns c = truth_is_found c.passes_report_paths.ensures.one
