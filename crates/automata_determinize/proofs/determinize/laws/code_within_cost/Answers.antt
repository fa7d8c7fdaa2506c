use Rattle.automata_determinize.proofs.Powersets.Code.Inverse.{length-code}
use Rattle.automata_determinize.proofs.determinize.laws.code_within_cost.Goals as goal

pub returns : goal.returns
returns c = length-code
