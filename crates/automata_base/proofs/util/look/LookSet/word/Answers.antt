use Rattle.automata_base.proofs.Powersets.Making.{word_mask}
use Rattle.automata_base.proofs.util.look.LookSet.word.Goals as goal

pub returns : goal.returns
returns c = word_mask
