use Rattle.regex_automata.proofs.Spans.Agreement.{matches_agree}
use Rattle.regex_automata.proofs.laws.matches_agree.Goals as goal

pub returns : goal.returns
returns c = matches_agree c.answers_agree.ensures
