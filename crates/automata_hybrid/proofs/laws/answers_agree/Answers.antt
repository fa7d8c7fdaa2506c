use Rattle.automata_hybrid.proofs.Searches.Agreement.{answers_agree}
use Rattle.automata_hybrid.proofs.laws.answers_agree.Goals as goal

pub returns : goal.returns
returns c = answers_agree c.passes_report_paths.ensures.one
