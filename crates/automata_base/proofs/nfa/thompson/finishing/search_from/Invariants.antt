use Rattle.std.proofs.Common.{ℕ, ◌≡◌, ◌+◌, ◌-◌, ◌*◌, length, reverse}
use Rattle.automata_base.specs.declared.nfa.thompson.reach.Edges.TheVariants.{Epsilon}
use Rattle.automata_base.specs.Retraced.DepthFirst.{IsUnderSearch}
use Rattle.automata_base.specs.Lists.{In}
use Rattle.automata_base.specs.Retraced.Reach.{targets_of}
use Rattle.automata_base.proofs.nfa.thompson.finishing.search_from.Given as goal

abbrev pub invariant-loop-frame : goal.invariant-loop-frame
invariant-loop-frame l = record {
  search :
      IsUnderSearch (length l.states) (targets_of Epsilon l.states) l.visited.items l.finished.items
      (reverse l.stack.items);
  root : In l.fn.root l.visited.items;
  kept : (q : ℕ) → In q l.fn.visited.items → In q l.visited.items;
  rooms : (l.visited.capacity ≡ length l.states) × (l.finished.capacity ≡ length l.states);
}

abbrev pub decreases-loop-frame : goal.decreases-loop-frame
decreases-loop-frame l = 2 * (length l.states - length l.visited.items) + length l.stack.items
