use Rattle.std.proofs.Common.{◌≡◌, ◌++◌, map, drop}
use Rattle.automata_transform.specs.Retraced.ReversedEdges.{copy_of}
use Rattle.automata_transform.proofs.copies.copy_ids.Given as goal

abbrev pub invariant-loop-id : goal.invariant-loop-id
invariant-loop-id l =
    l.copies.items ++ map (copy_of l.base l.set.items) (drop l.id-index l.ids) ≡ map (copy_of l.base l.set.items) l.ids
