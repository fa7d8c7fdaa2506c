use Rattle.std.proofs.Common.{List, ℕ, ◌++◌, drop, Some}
use Rattle.automata_base.specs.Nfas.Nodes.{nfa_of}
use Rattle.automata_base.specs.Powersets.Rooms.{IsClosureRoom}
use Rattle.automata_base.specs.Haystacks.LookSets.{truth_of}
use Rattle.automata_base.specs.Powersets.Cuts.{targets}
use Rattle.automata_base.specs.Powersets.Closure.{IsUnderWay}
use Rattle.automata_determinize.proofs.determinize.construct.close_targets.Given as goal

abbrev pub invariant-loop-i : goal.invariant-loop-i
invariant-loop-i l =
    ((roots tail : List ℕ)
    → IsUnderWay (nfa_of l.nfa) (truth_of l.known) roots (targets (nfa_of l.nfa) (Some l.u) l.list ++ tail)
    l.fn.set.items
    → IsUnderWay (nfa_of l.nfa) (truth_of l.known) roots (targets (nfa_of l.nfa) (Some l.u) (drop l.i l.list) ++ tail)
    l.set.items)
    × IsClosureRoom l.nfa l.stack l.set
