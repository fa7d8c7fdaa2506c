use Rattle.std.proofs.Common.{ℕ, ◌≡◌, ◌<◌, ◌++◌, length, drop}
use Rattle.automata_base.specs.Retraced.ReversedEdges.{list_at, lists_of}
use Rattle.automata_transform.specs.Retraced.ReversedEdges.{matches_in}
use Rattle.automata_transform.proofs.copies.matches_by_pattern.Given as goal

abbrev pub invariant-loop-id : goal.invariant-loop-id
invariant-loop-id l = record {
  matches :
      (p : ℕ) → p < l.patterns
      → list_at (lists_of l.lists.items) p ++ matches_in l.states p (drop l.id-index l.ids)
      ≡ matches_in l.states p l.ids;
  few : length l.lists.items ≡ l.patterns;
}
