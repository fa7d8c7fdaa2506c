use Rattle.std.proofs.Common.{◌≡◌}
use Rattle.automata_transform.specs.Retraced.ReversedEdges.{copy_of}
use Rattle.automata_transform.proofs.Nfas.Mirrors.Copies.{replaced}
use Rattle.automata_transform.proofs.copies.renumber.Given as goal

abbrev pub invariant-loop-id : goal.invariant-loop-id
invariant-loop-id l = l.ids ≡ replaced (copy_of l.base l.set.items) l.id-index l.fn.ids
