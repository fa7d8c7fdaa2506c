use Rattle.automata_determinize.proofs.Powersets.Code.Inverse.{decoded-code}
use Rattle.automata_determinize.proofs.determinize.laws.code_is_read.Goals as goal

pub returns : goal.returns
returns c = decoded-code
