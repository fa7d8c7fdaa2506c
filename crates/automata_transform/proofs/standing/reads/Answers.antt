use Rattle.std.proofs.Common.{ap}
use Rattle.automata_base.specs.Nfas.Nodes.{node_of}
use Rattle.automata_transform.proofs.standing.reads.Goals as goal

pub returns-in-ByteRange : goal.returns-in-ByteRange
returns-in-ByteRange c = λ _. (_, ap node_of c.in-ByteRange.is)

pub returns-in-Sparse : goal.returns-in-Sparse
returns-in-Sparse c = λ _. (_, ap node_of c.in-Sparse.is)

pub returns-in-Dense : goal.returns-in-Dense
returns-in-Dense c = λ _. (_, ap node_of c.in-Dense.is)
