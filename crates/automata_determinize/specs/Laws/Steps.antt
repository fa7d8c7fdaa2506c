-- Laws about every DFA: what its steps and starts do not distinguish, and what its passes report.
use Rattle.std.specs.Prelude.{ℕ, ◌≡◌, ◌<◌, ◌↔◌, Bool, true, false, List, length, Option, Some}
use Rattle.automata_determinize.specs.ByteClasses.LookBehind.{behind_of}
use Rattle.automata_base.specs.ByteClasses.Classes.{class_of, is_quit}
use Rattle.automata_base.specs.Nfas.Accepted.{IsInRange}
use Rattle.automata_base.specs.declared.util.search.MatchKind.{MatchKind}
use Rattle.automata_base.specs.declared.util.search.MatchKind.TheVariants.{All}
use Rattle.automata_base.specs.declared.util.search.Anchored.{Anchored}
use Rattle.automata_base.specs.Nfas.Nodes.{Automaton, nfa_of, nodes_of}
use Rattle.automata_base.specs.Paths.Paths.{Tape, KeepsCycles}
use Rattle.automata_determinize.specs.Powersets.Passes.{IsSuccessor, IsTape}
use Rattle.automata_base.specs.Powersets.Powerset.{Powerset, dead}
use Rattle.automata_base.specs.Paths.Selections.{Selects, IsNearest, IsFarthest}
use Rattle.automata_determinize.specs.Paths.Starts.{IsOf, IsStartOf, NeedsOwnLooks}
use Rattle.automata_base.specs.Paths.Starts.{mode_start}
use Rattle.automata_determinize.specs.Retraced.Steps.{start_state_of, successor}
use Rattle.automata_determinize.specs.Retraced.Passes.{reported_by}

-- bytes of one class lead a powerset state to one successor
abbrev pub ClassesStepAlike : Type 0
ClassesStepAlike =
    (a : Automaton) (quits : List Bool) (on : Bool) (kind : MatchKind) (q : Powerset) (u v : ℕ)
    → class_of a quits on u ≡ class_of a quits on v → NeedsOwnLooks a q
    → successor a kind q (Some u) ≡ successor a kind q (Some v)

-- bytes of one class are both quit bytes, or neither is
abbrev pub ClassesQuitAlike : Type 0
ClassesQuitAlike =
    (a : Automaton) (quits : List Bool) (on : Bool) (u v : ℕ)
    → class_of a quits on u ≡ class_of a quits on v → is_quit quits u ≡ is_quit quits v

-- an anchored mode has the same start state after all look-behind bytes of one kind
abbrev pub StartsAreAlike : Type 0
StartsAreAlike =
    (a : Automaton) (mode : Anchored) (x y : Option ℕ)
    → behind_of a.flags.line_terminator x ≡ behind_of a.flags.line_terminator y
    → start_state_of a mode x ≡ start_state_of a mode y

-- the dead state leads to itself
abbrev pub DeadStaysDead : Type 0
DeadStaysDead = (a : Automaton) (kind : MatchKind) (unit : Option ℕ) → successor a kind dead unit ≡ dead

-- a pass over an NFA that keeps its cycles reports what the ordered paths select
abbrev pub PassesSelect : Type 0
PassesSelect =
    (kind : MatchKind) (earliest : Bool) (a : Automaton) (mode : Anchored) (t : Tape) (start : ℕ)
    → mode_start a mode ≡ Some start → IsInRange (nfa_of a) → start < length (nodes_of a.states)
    → KeepsCycles (nfa_of a) → IsTape t
    → Selects kind earliest (nfa_of a) t start (reported_by kind earliest a mode t)

-- an earliest pass over any NFA reports the nearest end
abbrev pub PassesFindNearest : Type 0
PassesFindNearest =
    (kind : MatchKind) (a : Automaton) (mode : Anchored) (t : Tape) (start : ℕ)
    → mode_start a mode ≡ Some start → IsInRange (nfa_of a) → start < length (nodes_of a.states) → IsTape t
    → IsNearest (nfa_of a) t start (reported_by kind true a mode t)

-- under `MatchKind::All` a pass over any NFA reports the farthest end
abbrev pub PassesFindFarthest : Type 0
PassesFindFarthest =
    (a : Automaton) (mode : Anchored) (t : Tape) (start : ℕ)
    → mode_start a mode ≡ Some start → IsInRange (nfa_of a) → start < length (nodes_of a.states) → IsTape t
    → IsFarthest (nfa_of a) t start (reported_by All false a mode t)

-- `successor` returns the only successor of a state of the automaton
abbrev pub SuccessorsAreRight : Automaton → Type 0
SuccessorsAreRight a =
    (kind : MatchKind) (q r : Powerset) (unit : Option ℕ)
    → IsOf a q → IsSuccessor (nfa_of a) kind q unit r ↔ (r ≡ successor a kind q unit)

-- `start_state_of` returns the only start state
abbrev pub PowersetStartsAreRight : Automaton → Type 0
PowersetStartsAreRight a =
    (mode : Anchored) (prev : Option ℕ) (r : Powerset) → IsStartOf a mode prev r ↔ (r ≡ start_state_of a mode prev)
