use Rattle.std.proofs.Common.{◌≡◌, length}
use Rattle.automata_base.specs.Retraced.ReversedEdges.{no_lists}
use Rattle.automata_transform.specs.Retraced.ReversedEdges.{alternate_lists}
use Rattle.automata_transform.proofs.alternates.no_alternates.Given as goal

abbrev pub invariant-loop-i : goal.invariant-loop-i
invariant-loop-i l = record { none : alternate_lists l.lists.items ≡ no_lists l.i; few : length l.lists.items ≡ l.i }
