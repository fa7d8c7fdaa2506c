use Rattle.std.proofs.Common.{List, ℕ, ◌++◌, drop}
use Rattle.automata_base.specs.Nfas.Nodes.{nfa_of}
use Rattle.automata_base.specs.Powersets.Rooms.{IsClosureRoom}
use Rattle.automata_base.specs.Haystacks.LookSets.{truth_of}
use Rattle.automata_base.specs.Powersets.Closure.{IsUnderWay}
use Rattle.automata_base.proofs.nfa.thompson.closure.close_all.Given as goal

abbrev pub invariant-loop-root : goal.invariant-loop-root
invariant-loop-root l =
    ((all tail : List ℕ) → IsUnderWay (nfa_of l.nfa) (truth_of l.looks) all (l.roots ++ tail) l.fn.set.items
    → IsUnderWay (nfa_of l.nfa) (truth_of l.looks) all (drop l.root-index l.roots ++ tail) l.set.items)
    × IsClosureRoom l.nfa l.stack l.set
