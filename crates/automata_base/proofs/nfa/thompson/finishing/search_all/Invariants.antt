use Rattle.std.proofs.Common.{ℕ, ◌≡◌, ◌<◌, [], length}
use Rattle.automata_base.specs.declared.nfa.thompson.reach.Edges.TheVariants.{Epsilon}
use Rattle.automata_base.specs.Retraced.DepthFirst.{IsUnderSearch}
use Rattle.automata_base.specs.Lists.{In}
use Rattle.automata_base.specs.Retraced.Reach.{targets_of}
use Rattle.automata_base.proofs.nfa.thompson.finishing.search_all.Given as goal

abbrev pub invariant-loop-q : goal.invariant-loop-q
invariant-loop-q l = record {
  empty : l.stack.items ≡ [];
  search : IsUnderSearch (length l.states) (targets_of Epsilon l.states) l.visited.items l.finished.items [];
  tried : (q : ℕ) → q < l.q → In q l.visited.items;
  rooms : (l.visited.capacity ≡ length l.states) × (l.finished.capacity ≡ length l.states);
}
