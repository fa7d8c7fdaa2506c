-- What a pass over a tape reports: the search over powerset states, unit by unit, as functions.
use Rattle.std.specs.Prelude.{ℕ, zero, suc, Bool, true, false, List, [], ◌∷◌, ◌++◌, length, Option, Some, None}
use Rattle.automata_determinize.specs.Retraced.Computed.{start_behind, successor_of}
use Rattle.automata_base.specs.declared.util.search.MatchKind.{MatchKind}
use Rattle.automata_base.specs.declared.util.search.Anchored.{Anchored}
use Rattle.automata_base.specs.Nfas.Nfa.{Nfa}
use Rattle.automata_base.specs.Nfas.Nodes.{Automaton}
use Rattle.automata_base.specs.Paths.Paths.{Tape, next}
use Rattle.automata_base.specs.Powersets.Powerset.{Powerset}
use Rattle.automata_base.specs.Paths.Selections.{Pair, at_place}
use Rattle.automata_determinize.specs.Retraced.Steps.{start_state_of, successor}

-- the powerset state after the first `k` units of a tape, from the first state by a step for each unit
abbrev pub after_units : Powerset → (Powerset → Option ℕ → Powerset) → Tape → ℕ → Powerset
after_units first step t zero = first
after_units first step t (suc k) = step (after_units first step t k) (next t k)

-- the first of the patterns that are reported at a place, if there is one
abbrev pub pair_at : List ℕ → ℕ → Option Pair → Option Pair
pair_at [] i other = other
pair_at (p ∷ rest) i other = Some (record { pattern = p; place = i })

-- the earlier pair if there is one, else the other
abbrev pub earlier_or : Option Pair → Option Pair → Option Pair
earlier_or None other = other
earlier_or (Some pair) other = Some pair

-- the first pattern of the last of `k` places that have patterns, with that place
abbrev pub last_among : (ℕ → List ℕ) → ℕ → Option Pair
last_among reported zero = None
last_among reported (suc i) = pair_at (reported i) i (last_among reported i)

-- the first pattern of the first of `k` places that have patterns, with that place
abbrev pub first_among : (ℕ → List ℕ) → ℕ → Option Pair
first_among reported zero = None
first_among reported (suc i) = earlier_or (first_among reported i) (pair_at (reported i) i None)

-- all pairs of `k` places, in order
abbrev pub pairs_among : (ℕ → List ℕ) → ℕ → List Pair
pairs_among reported zero = []
pairs_among reported (suc i) = pairs_among reported i ++ at_place i (reported i)

-- the powerset state of an automaton after the first `k` units of the tape
unfoldable pub state_after : Automaton → MatchKind → Anchored → Tape → ℕ → Powerset
state_after a kind mode t k = after_units (start_state_of a mode t.before) (successor a kind) t k

-- the patterns of the state that the unit at place `i` leads to: matches are delayed by one byte
abbrev pub reported_at : Automaton → MatchKind → Anchored → Tape → ℕ → List ℕ
reported_at a kind mode t i = (state_after a kind mode t (suc i)).patterns

-- the last match that the first `k` units report: the first pattern of the last place that has one
unfoldable pub last_reported : Automaton → MatchKind → Anchored → Tape → ℕ → Option Pair
last_reported a kind mode t k = last_among (reported_at a kind mode t) k

-- the first match that the first `k` units report: the first pattern of the first place that has one
unfoldable pub first_reported : Automaton → MatchKind → Anchored → Tape → ℕ → Option Pair
first_reported a kind mode t k = first_among (reported_at a kind mode t) k

-- what the first `k` units report: an earliest search the first match, any other the last one
abbrev pub reported_upto : MatchKind → (earliest : Bool) → Automaton → Anchored → Tape → ℕ → Option Pair
reported_upto kind true a mode t k = first_reported a kind mode t k
reported_upto kind false a mode t k = last_reported a kind mode t k

-- what the pass of a search reports, which reads each byte of the tape and the unit after it
abbrev pub reported_by : MatchKind → (earliest : Bool) → Automaton → Anchored → Tape → Option Pair
reported_by kind earliest a mode t = reported_upto kind earliest a mode t (suc (length t.bytes))

-- the pairs that the first `k` units report, in order
unfoldable pub pairs_reported : Automaton → MatchKind → Anchored → Tape → ℕ → List Pair
pairs_reported a kind mode t k = pairs_among (reported_at a kind mode t) k

-- the powerset state after the first `k` units, of an NFA and the state where its paths start
abbrev pub pass_of : Nfa → MatchKind → ℕ → Tape → ℕ → Powerset
pass_of n kind start t k = after_units (start_behind n start t.before) (successor_of n kind) t k

-- the patterns that this pass reports at place `i`
abbrev pub reported_of : Nfa → MatchKind → ℕ → Tape → ℕ → List ℕ
reported_of n kind start t i = (pass_of n kind start t (suc i)).patterns

-- what a search reports by this pass: an earliest search the first match, any other the last one
abbrev pub search_of : MatchKind → (earliest : Bool) → Nfa → Tape → ℕ → Option Pair
search_of kind true n t start = first_among (reported_of n kind start t) (suc (length t.bytes))
search_of kind false n t start = last_among (reported_of n kind start t) (suc (length t.bytes))

-- the pairs that the first `k` units of this pass report, in order
abbrev pub pairs_upto : Nfa → MatchKind → ℕ → Tape → ℕ → List Pair
pairs_upto n kind start t k = pairs_among (reported_of n kind start t) k
