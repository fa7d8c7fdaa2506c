use Rattle.std.proofs.Common.{◌≡◌, ◌≤◌, ◌+◌, ◌||◌, eqb, take, drop}
use Rattle.std.specs.Prelude.{sum_by}
use Rattle.automata_base.specs.Haystacks.Looks.{Look, look_index}
use Rattle.automata_base.specs.Haystacks.LookSets.{truth_of}
use Rattle.automata_base.specs.Nfas.Nfa.{any_node}
use Rattle.automata_base.specs.Nfas.Nodes.{extra_of, nodes_of}
use Rattle.automata_base.specs.Nfas.Errors.{alternates_of}
use Rattle.automata_base.proofs.nfa.thompson.checks.totals_of.Given as goal

abbrev pub invariant-loop-i : goal.invariant-loop-i
invariant-loop-i l = record {
  total : l.total ≡ sum_by alternates_of (take l.i l.states);
  room : l.room ≡ 1 + sum_by extra_of (take l.i l.states);
  most : l.total ≤ 2147483648;
  small : l.room ≤ 1 + l.total;
  looks :
      (other : Look)
      → (truth_of l.looks other
      || any_node (λ look. eqb (look_index look) (look_index other)) (nodes_of (drop l.i l.states)))
      ≡ any_node (λ look. eqb (look_index look) (look_index other)) (nodes_of l.states);
}
