use Rattle.std.proofs.Common.{◌≡◌, ◌++◌, List, ℕ, length, drop}
use Rattle.automata_base.specs.Nfas.Nfa.{Truth}
use Rattle.automata_base.specs.Nfas.Nodes.{nfa_of}
use Rattle.automata_base.specs.Powersets.Closure.{IsUnderWay}
use Rattle.automata_base.specs.Retraced.Expanding.{Extends}
use Rattle.automata_base.proofs.nfa.thompson.closure.visit_leaves.Given as goal

abbrev pub invariant-loop-i : goal.invariant-loop-i
invariant-loop-i l = record {
  way : (truth : Truth) (roots tail : List ℕ) → IsUnderWay (nfa_of l.nfa) truth roots (l.list ++ tail) l.fn.set.items
      → IsUnderWay (nfa_of l.nfa) truth roots (drop l.i l.list ++ tail) l.set.items;
  grown : Extends l.fn.set.items l.set.items;
  whole : l.set.capacity ≡ length l.nfa.states;
}
