use Rattle.std.proofs.Common.{◌≡◌, ◌++◌, drop}
use Rattle.automata_base.specs.Nfas.Nodes.{nodes_of}
use Rattle.automata_transform.specs.Retraced.ReversedEdges.{copy_of, copies}
use Rattle.automata_transform.proofs.copies.copy_all.Given as goal

abbrev pub invariant-loop-id : goal.invariant-loop-id
invariant-loop-id l =
    nodes_of l.out.items ++ copies (copy_of l.base l.set.items) l.pattern l.turned (drop l.id-index l.members)
    ≡ nodes_of l.fn.out.items ++ copies (copy_of l.base l.set.items) l.pattern l.turned l.members
