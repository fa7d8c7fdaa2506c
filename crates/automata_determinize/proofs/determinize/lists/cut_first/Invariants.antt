use Rattle.std.proofs.Common.{◌≡◌, ◌≤◌, ◌++◌, [], drop, take, vec_capacity}
use Rattle.automata_base.specs.Powersets.Cuts.{cut}
use Rattle.automata_base.specs.Lists.{pick}
use Rattle.automata_base.specs.Nfas.Nfa.{accepts}
use Rattle.automata_base.specs.Nfas.Nodes.{nfa_of}
use Rattle.automata_determinize.proofs.determinize.lists.cut_first.Given as goal

abbrev pub invariant-loop-i : goal.invariant-loop-i
invariant-loop-i l =
    (cut (nfa_of l.nfa) l.states ≡ take l.i l.states ++ cut (nfa_of l.nfa) (drop l.i l.states))
    × (pick (accepts (nfa_of l.nfa)) (cut (nfa_of l.nfa) l.states)
    ≡ pick (accepts (nfa_of l.nfa)) (cut (nfa_of l.nfa) (drop l.i l.states)))
    × (l.patterns.items ≡ [])
    × (vec_capacity l.fn.patterns ≤ vec_capacity l.patterns)
