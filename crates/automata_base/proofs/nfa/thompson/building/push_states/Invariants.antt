use Rattle.std.proofs.Common.{◌≡◌, ◌++◌, map, take}
use Rattle.automata_base.specs.Nfas.Shapes.{shape_of, shape_added, built_of}
use Rattle.automata_base.proofs.nfa.thompson.building.push_states.Given as goal

abbrev pub invariant-loop-one : goal.invariant-loop-one
invariant-loop-one l =
    map shape_of l.states.items ≡ map shape_of l.fn.states.items
    ++ map built_of (map shape_added (take l.one-index l.added))
