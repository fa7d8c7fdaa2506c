use Rattle.regex_automata.proofs.TokenLists.OfPaths.{spans_of_paths}
use Rattle.regex_automata.proofs.laws.tokens_are_spans.Goals as goal

pub returns : goal.returns
returns c = spans_of_paths
