use Rattle.automata_config.specs.Settling.{settled_minimum}
use Rattle.automata_config.proofs.config.Config.minimum_for.Goals as goal

pub returns : goal.returns
unfolding settled_minimum
returns c = cc
