use Rattle.std.proofs.Common.{arith}
use Rattle.automata_transform.specs.Retraced.ReversedEdges.{turns_of}
use Rattle.automata_transform.proofs.Nfas.Mirrors.Lists.{nothing}
use Rattle.automata_transform.proofs.Nfas.Mirrors.Sizes.{size_by}
use Rattle.automata_transform.proofs.turn.EdgesByTarget.turn_by.Goals as goal

pub returns-in_default-clause-large : goal.returns-in_default-clause-large
returns-in_default-clause-large c = λ e.
    let a = c.next_helper.ensures.none (nothing c.next_helper.result c.in_default.not-Some) in
    let b = size_by (turns_of c.args.self.now) c.args.helper c.args.to in
    omega (arith, a, b)
