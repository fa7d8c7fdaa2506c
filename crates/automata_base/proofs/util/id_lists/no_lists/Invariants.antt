use Rattle.std.proofs.Common.{◌≡◌, length}
use Rattle.automata_base.specs.Retraced.ReversedEdges.{lists_of, no_lists}
use Rattle.automata_base.proofs.util.id_lists.no_lists.Given as goal

abbrev pub invariant-loop-i : goal.invariant-loop-i
invariant-loop-i l = record { none : lists_of l.lists.items ≡ no_lists l.i; few : length l.lists.items ≡ l.i }
