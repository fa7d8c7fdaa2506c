-- The state where the paths of an anchored mode start.
use Rattle.std.specs.Prelude.{ℕ, slice_get, Option, Some}
use Rattle.automata_base.specs.declared.util.search.Anchored.{Anchored}
use Rattle.automata_base.specs.declared.util.search.Anchored.TheVariants.{No, Yes, Pattern}
use Rattle.automata_base.specs.Nfas.Nodes.{Automaton}

-- The state where the paths of an anchored mode start; none past the last pattern.
abbrev pub mode_start : Automaton → Anchored → Option ℕ
mode_start a No = Some a.start_unanchored
mode_start a Yes = Some a.start_anchored
mode_start a (Pattern p) = slice_get a.start_pattern p
