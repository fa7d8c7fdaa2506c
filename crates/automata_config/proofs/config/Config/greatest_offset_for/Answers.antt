use Rattle.automata_config.specs.Settling.{greatest_offset}
use Rattle.automata_config.proofs.config.Config.greatest_offset_for.Goals as goal

pub returns : goal.returns
unfolding greatest_offset
returns c = cc
