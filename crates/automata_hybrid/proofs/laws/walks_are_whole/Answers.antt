use Rattle.automata_hybrid.proofs.Pieces.WholeWalks.{walks_are_whole}
use Rattle.automata_hybrid.proofs.laws.walks_are_whole.Goals as goal

pub returns : goal.returns
returns c = walks_are_whole
