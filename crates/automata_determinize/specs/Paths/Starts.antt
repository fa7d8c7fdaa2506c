-- The powerset state where the searches of an anchored mode start.
use Rattle.std.specs.Prelude.{ℕ, ◌≡◌, ◌<◌, length, true, Option, Some, None}
use Rattle.automata_base.specs.declared.util.search.Anchored.{Anchored}
use Rattle.automata_base.specs.Nfas.Nodes.{Automaton, nfa_of}
use Rattle.automata_base.specs.declared.util.look.Look.{Look}
use Rattle.automata_base.specs.Haystacks.LookSets.{truth_of}
use Rattle.automata_base.specs.Lists.{In}
use Rattle.automata_base.specs.Nfas.Nfa.{Nfa}
use Rattle.automata_determinize.specs.Powersets.Passes.{IsStart}
use Rattle.automata_base.specs.Powersets.Passes.{Occurs}
use Rattle.automata_base.specs.Powersets.Powerset.{Powerset, dead}
use Rattle.automata_base.specs.Paths.Starts.{mode_start}

-- The start state for a first state, or the dead state if there is none.
abbrev pub IsStartAt : Nfa → Option ℕ → Option ℕ → Powerset → Type 0
IsStartAt n None prev Q = Q ≡ dead
IsStartAt n (Some start) prev Q = IsStart n start prev Q

-- The start state of an anchored mode; past the last pattern, the dead state.
abbrev pub IsStartOf : Automaton → Anchored → Option ℕ → Powerset → Type 0
IsStartOf a mode prev Q = IsStartAt (nfa_of a) (mode_start a mode) prev Q

-- Every NFA state of the powerset state is a state of the NFA.
abbrev pub IsOf : Automaton → Powerset → Type 0
IsOf a q = (s : ℕ) → In s q.nfa → s < length a.states

-- The looks that a powerset state needs are looks of the automaton.
abbrev pub NeedsOwnLooks : Automaton → Powerset → Type 0
NeedsOwnLooks a q = (look : Look) → truth_of q.needed look ≡ true → Occurs (nfa_of a) look
