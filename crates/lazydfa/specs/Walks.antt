-- Overlapping walks in the direction of their NFA.
use Rattle.std.specs.Prelude.{◌≡◌, true, false}
use Rattle.regex_automata.specs.Promises.{Backward, Forward, Input, IsWalkOf, Machine, Walk}

-- `w` is a walk over this input, backward if the NFA is for reverse searches
abbrev pub IsWalkOver : Machine → Input → Walk → Type 0
IsWalkOver m input w =
    (m.nfa.flags.reverse ≡ false → IsWalkOf Forward m input w)
    × (m.nfa.flags.reverse ≡ true → IsWalkOf Backward m input w)
