use Rattle.std.proofs.Common.{ap}
use Rattle.automata_determinize.specs.Powersets.Code.{code}
use Rattle.automata_determinize.proofs.Powersets.Code.Inverse.{same_from_code}
use Rattle.automata_determinize.proofs.determinize.laws.one_code.Goals as goal

pub returns : goal.returns
returns c = λ a b p q. (same_from_code a b p q, ap code)
