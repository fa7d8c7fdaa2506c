use Rattle.std.proofs.Common.{◌≡◌, ◌++◌, take}
use Rattle.automata_base.specs.Nfas.Nodes as nodes
use Rattle.meaning.specs.Translated as translated
use Rattle.patterns.proofs.translate.push_states.Given as goal

abbrev pub invariant-loop-state : goal.invariant-loop-state
invariant-loop-state l =
    nodes.nodes_of l.states.items
    ≡ nodes.nodes_of l.fn.states.items
    ++ translated.nodes_of l.origin.base l.origin.pattern l.nfa.transitions.items
    (take l.state-index l.nfa.states.items)
