use Rattle.automata_hybrid.proofs.Pieces.Whole.{pieces_are_whole}
use Rattle.automata_hybrid.proofs.laws.pieces_are_whole.Goals as goal

pub returns : goal.returns
returns c = pieces_are_whole
