use Rattle.std.proofs.Common.{List, ℕ, ◌≡◌, ◌≤◌, ◌++◌, [], drop, Some, vec_capacity}
use Rattle.automata_base.specs.Powersets.Cuts.{cut, has_match, targets}
use Rattle.automata_base.specs.Lists.{pick}
use Rattle.automata_base.specs.Nfas.Nfa.{accepts}
use Rattle.automata_base.specs.Nfas.Nodes.{nfa_of}
use Rattle.automata_base.specs.Powersets.Rooms.{IsClosureRoom}
use Rattle.automata_base.specs.Haystacks.LookSets.{truth_of}
use Rattle.automata_base.specs.Powersets.Closure.{IsUnderWay}
use Rattle.automata_determinize.proofs.determinize.construct.read_first.Given as goal

abbrev pub invariant-loop-i : goal.invariant-loop-i
invariant-loop-i l = record {
  way : (roots tail : List ℕ)
      → IsUnderWay (nfa_of l.nfa) (truth_of l.known) roots
      (targets (nfa_of l.nfa) (Some l.u) (cut (nfa_of l.nfa) l.list) ++ tail) l.fn.set.items
      → IsUnderWay (nfa_of l.nfa) (truth_of l.known) roots
      (targets (nfa_of l.nfa) (Some l.u) (cut (nfa_of l.nfa) (drop l.i l.list)) ++ tail) l.set.items;
  matches : has_match (nfa_of l.nfa) l.list ≡ has_match (nfa_of l.nfa) (drop l.i l.list);
  room : IsClosureRoom l.nfa l.stack l.set;
  picks :
      pick (accepts (nfa_of l.nfa)) (cut (nfa_of l.nfa) l.list)
      ≡ pick (accepts (nfa_of l.nfa)) (cut (nfa_of l.nfa) (drop l.i l.list));
  none : l.patterns.items ≡ [];
  capacity : vec_capacity l.fn.patterns ≤ vec_capacity l.patterns;
}
