use Rattle.automata_transform.proofs.Nfas.Flattens.Tests.{dense_free}
use Rattle.automata_transform.proofs.flattening.dense_has_link.Goals as goal

pub returns : goal.returns
returns c = λ t. dense_free c.args.links.now c.args.targets.now 0 (c.has_link.ensures t)
