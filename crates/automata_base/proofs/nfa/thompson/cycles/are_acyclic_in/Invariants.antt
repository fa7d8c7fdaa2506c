use Rattle.std.proofs.Common.{◌≡◌, length}
use Rattle.automata_base.proofs.Nfas.Reach.Cycles.{IsTried}
use Rattle.automata_base.proofs.nfa.thompson.cycles.are_acyclic_in.Given as goal

abbrev pub invariant-loop-q : goal.invariant-loop-q
invariant-loop-q l = record {
  tried : IsTried l.states l.order l.q-index l.set.items;
  capacity : l.set.capacity ≡ length l.states;
}
