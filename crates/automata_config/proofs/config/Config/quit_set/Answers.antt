use Rattle.std.proofs.Common.{rules}
use Rattle.automata_config.specs.Options.{no_quits}
use Rattle.automata_config.proofs.config.Config.quit_set.Goals as goal

pub returns-clause-set : goal.returns-clause-set
unfolding no_quits
returns-clause-set c = search rules
