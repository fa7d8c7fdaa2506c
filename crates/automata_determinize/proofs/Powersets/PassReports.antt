-- What a pass reports is what the ordered paths select.
use Rattle.std.proofs.Common.{ℕ, suc, ◌≡◌, ◌<◌, Bool, true, false, List, length, Option, Some, sym, ap, subst}
use Rattle.automata_base.specs.Nfas.Accepted.{IsInRange}
use Rattle.automata_base.specs.declared.util.search.MatchKind.{MatchKind}
use Rattle.automata_base.specs.declared.util.search.MatchKind.TheVariants.{All}
use Rattle.automata_base.specs.declared.util.search.Anchored.{Anchored}
use Rattle.automata_base.specs.Nfas.Nodes.{Automaton, nfa_of, nodes_of}
use Rattle.automata_base.specs.Paths.Paths.{Tape, KeepsCycles}
use Rattle.automata_determinize.specs.Powersets.Passes.{IsTape}
use Rattle.automata_base.specs.Powersets.Powerset.{Powerset}
use Rattle.automata_base.specs.Paths.Selections.{Selects, IsNearest, IsFarthest}
use Rattle.automata_base.specs.Paths.Starts.{mode_start}
use Rattle.automata_determinize.specs.Retraced.Computed.{successor_of}
use Rattle.automata_determinize.specs.Retraced.Steps.{start_or_dead, start_state_of, successor}
use Rattle.automata_determinize.specs.Retraced.Passes.{after_units, first_among, last_among, pairs_among}
use Rattle.automata_determinize.specs.Retraced.Passes.{state_after, reported_at, last_reported, first_reported}
use Rattle.automata_determinize.specs.Retraced.Passes.{reported_by}
use Rattle.automata_determinize.specs.Retraced.Passes.{pairs_reported, pairs_upto, reported_of, search_of}
use Rattle.automata_determinize.proofs.Paths.Finals.{search_right, earliest_right, end_right}

-- The powerset state of a pass from a start, if there is one.
abbrev after_from : Automaton → MatchKind → Tape → Option ℕ → ℕ → Powerset
after_from a kind t start k = after_units (start_or_dead (nfa_of a) start t.before) (successor_of (nfa_of a) kind) t k

abbrev from_start : Automaton → MatchKind → Tape → Option ℕ → ℕ → List ℕ
from_start a kind t start i = (after_from a kind t start (suc i)).patterns

-- If a mode has a start, its states report what the states of the pass report.
pub reported_is :
    (a : Automaton) (kind : MatchKind) (mode : Anchored) (t : Tape) (start i : ℕ)
    → mode_start a mode ≡ Some start → reported_at a kind mode t i ≡ reported_of (nfa_of a) kind start t i
unfolding state_after start_state_of successor
reported_is a kind mode t start i e = ap (λ o. from_start a kind t o i) e

-- What a pass reports is what the computed search reports.
pub reported_by_is :
    (kind : MatchKind) (earliest : Bool) (a : Automaton) (mode : Anchored) (t : Tape) (start : ℕ)
    → mode_start a mode ≡ Some start → reported_by kind earliest a mode t ≡ search_of kind earliest (nfa_of a) t start
unfolding state_after start_state_of successor last_reported first_reported
reported_by_is kind true a mode t start e = ap (λ o. first_among (from_start a kind t o) (suc (length t.bytes))) e
reported_by_is kind false a mode t start e = ap (λ o. last_among (from_start a kind t o) (suc (length t.bytes))) e

-- The pairs of a walk are the computed pairs.
pub pairs_is :
    (a : Automaton) (kind : MatchKind) (mode : Anchored) (t : Tape) (start k : ℕ)
    → mode_start a mode ≡ Some start → pairs_reported a kind mode t k ≡ pairs_upto (nfa_of a) kind start t k
unfolding state_after start_state_of successor pairs_reported
pairs_is a kind mode t start k e = ap (λ o. pairs_among (from_start a kind t o) k) e

-- If cycles are kept, a pass reports what the ordered paths select.
pub reported_selects :
    (kind : MatchKind) (earliest : Bool) (a : Automaton) (mode : Anchored) (t : Tape) (start : ℕ)
    → mode_start a mode ≡ Some start → IsInRange (nfa_of a) → start < length (nodes_of a.states)
    → KeepsCycles (nfa_of a) → IsTape t → Selects kind earliest (nfa_of a) t start (reported_by kind earliest a mode t)
reported_selects kind earliest a mode t start e range below free tape =
    subst (Selects kind earliest (nfa_of a) t start) (sym (reported_by_is kind earliest a mode t start e))
    (search_right kind earliest (nfa_of a) t start range below free tape)

-- For every automaton, an earliest search reports the nearest end.
pub reported_nearest :
    (kind : MatchKind) (a : Automaton) (mode : Anchored) (t : Tape) (start : ℕ)
    → mode_start a mode ≡ Some start → IsInRange (nfa_of a) → start < length (nodes_of a.states) → IsTape t
    → IsNearest (nfa_of a) t start (reported_by kind true a mode t)
reported_nearest kind a mode t start e range below tape =
    subst (IsNearest (nfa_of a) t start) (sym (reported_by_is kind true a mode t start e))
    (earliest_right kind (nfa_of a) t start range below tape)

-- For every automaton under `MatchKind::All`, a search that is not earliest reports the farthest end.
pub reported_farthest :
    (a : Automaton) (mode : Anchored) (t : Tape) (start : ℕ)
    → mode_start a mode ≡ Some start → IsInRange (nfa_of a) → start < length (nodes_of a.states) → IsTape t
    → IsFarthest (nfa_of a) t start (reported_by All false a mode t)
reported_farthest a mode t start e range below tape =
    subst (IsFarthest (nfa_of a) t start) (sym (reported_by_is All false a mode t start e))
    (end_right (nfa_of a) t start range below tape)
