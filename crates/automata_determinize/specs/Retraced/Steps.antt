-- The powerset construction as functions: each state has one start and one successor on a unit.
use Rattle.std.specs.Prelude.{ℕ, Option, Some, None}
use Rattle.automata_base.specs.declared.util.search.Anchored.{Anchored}
use Rattle.automata_determinize.specs.Retraced.Computed.{start_behind, successor_of}
use Rattle.automata_base.specs.declared.util.search.MatchKind.{MatchKind}
use Rattle.automata_base.specs.Nfas.Nfa.{Nfa}
use Rattle.automata_base.specs.Nfas.Nodes.{Automaton, nfa_of}
use Rattle.automata_base.specs.Powersets.Powerset.{Powerset, dead}
use Rattle.automata_base.specs.Paths.Starts.{mode_start}

-- the powerset state where searches from a first state start; the dead state if there is none
abbrev pub start_or_dead : Nfa → Option ℕ → Option ℕ → Powerset
start_or_dead n None prev = dead
start_or_dead n (Some start) prev = start_behind n start prev

-- the start state of a mode after a byte, or after none; past the last pattern, the dead state
unfoldable pub start_state_of : Automaton → Anchored → Option ℕ → Powerset
start_state_of a mode prev = start_or_dead (nfa_of a) (mode_start a mode) prev

-- the successor on a byte, or at the end of the haystack
unfoldable pub successor : Automaton → MatchKind → Powerset → Option ℕ → Powerset
successor a kind q unit = successor_of (nfa_of a) kind q unit
