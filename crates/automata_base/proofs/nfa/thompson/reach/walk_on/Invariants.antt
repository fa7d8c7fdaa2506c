use Rattle.std.proofs.Common.{◌≡◌, ◌-◌, length}
use Rattle.automata_base.specs.Retraced.Reach.{targets_of}
use Rattle.automata_base.proofs.Nfas.Reach.Walked.{IsWalked}
use Rattle.automata_base.proofs.nfa.thompson.reach.walk_on.Given as goal

abbrev pub invariant-loop-id : goal.invariant-loop-id
invariant-loop-id l = record {
  walked : IsWalked (targets_of l.edges l.states) l.fn.set.items l.at l.set.items;
  capacity : l.set.capacity ≡ length l.states;
}

abbrev pub decreases-loop-id : goal.decreases-loop-id
decreases-loop-id l = length l.states - l.at
