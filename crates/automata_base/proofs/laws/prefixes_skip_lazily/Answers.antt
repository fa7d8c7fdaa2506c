use Rattle.automata_base.proofs.Nfas.Building.Prefixes.{prefixed}
use Rattle.automata_base.proofs.laws.prefixes_skip_lazily.Goals as goal

pub returns : goal.returns
returns c = prefixed
