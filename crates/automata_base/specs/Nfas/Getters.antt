-- The properties that an NFA reports.
use Rattle.std.specs.Prelude.{◌≡◌}
use Rattle.automata_base.specs.Nfas.Engines.{BeginsLazily, MatchesEmpty}
use Rattle.automata_base.specs.Nfas.Nodes.{Automaton, nfa_of}

-- The empty match is reached from some pattern's start.
abbrev pub HasEmpty : Automaton → Type 0
HasEmpty a = MatchesEmpty (nfa_of a) a.start_pattern

-- Anchored and unanchored searches have the same start.
abbrev pub IsAlwaysStartAnchored : Automaton → Type 0
IsAlwaysStartAnchored a = a.start_unanchored ≡ a.start_anchored

-- Unanchored searches begin at the anchored start, or lazily skip bytes before it.
abbrev pub SkipsLazily : Automaton → Type 0
SkipsLazily a = BeginsLazily (nfa_of a) a.start_anchored a.start_unanchored
