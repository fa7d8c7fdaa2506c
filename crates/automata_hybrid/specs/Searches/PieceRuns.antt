-- Runs over a whole span along a trace, and over a piece of a haystack, from any state that a search has reached.
use Rattle.std.specs.Prelude.{ℕ, ◌≡◌, ◌-◌, ◌<◌, Bool, true, List, length, None}
use Rattle.automata_base.specs.Haystacks.Input.{Input}
use Rattle.automata_base.specs.Haystacks.Tapes.{forward_tape}
use Rattle.automata_base.specs.Powersets.Powerset.{Powerset, dead}
use Rattle.automata_determinize.specs.Retraced.Passes.{after_units}
use Rattle.automata_base.specs.declared.util.search.Anchored.TheVariants.{No}
use Rattle.automata_hybrid.specs.Machines.FullDfas.{full_dfa}
use Rattle.automata_hybrid.specs.Machines.Machine.{Machine}
use Rattle.automata_hybrid.specs.Searches.Passes.{reported_along}
use Rattle.automata_hybrid.specs.Searches.Traces.{Trace}

-- a run along a trace reads the byte at place `k`: the state there is not dead, and an earliest run has reported
-- nothing
abbrev pub ReadsAlong : Trace → Input → (k : ℕ) → Type 0
ReadsAlong s input k =
    (k < input.end - input.start) × (s.state k ≡ dead → ⊥) × (input.earliest ≡ true → s.reported k ≡ None)

-- a piece as an input of its own
abbrev pub piece_input : (piece : List ℕ) → (earliest : Bool) → Input
piece_input piece earliest =
    record { haystack = piece; start = 0; end = length piece; anchored = No; earliest = earliest }

-- the powerset state after the first `k` bytes of a piece, from the one before it
abbrev pub piece_state : Machine → (piece : List ℕ) → Powerset → (k : ℕ) → Powerset
piece_state m piece q k =
    after_units q (full_dfa m).step (forward_tape piece 0 (length piece)) k

-- the trace of a piece from that state
abbrev pub piece_trace : Machine → (piece : List ℕ) → (earliest : Bool) → Powerset → Trace
piece_trace m piece earliest q = record {
  state = λ k. piece_state m piece q k;
  reported = λ k. reported_along earliest (λ i. piece_state m piece q i) k;
}
