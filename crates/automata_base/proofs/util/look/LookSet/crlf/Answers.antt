use Rattle.automata_base.proofs.Powersets.Making.{crlf_mask}
use Rattle.automata_base.proofs.util.look.LookSet.crlf.Goals as goal

pub returns : goal.returns
returns c = crlf_mask
