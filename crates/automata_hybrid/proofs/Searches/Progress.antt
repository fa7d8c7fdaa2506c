-- The spans that a search tries.
use Rattle.std.proofs.Common.{ℕ, suc, ◌+◌, ◌≤◌, refl, arith}
use Rattle.automata_hybrid.proofs.Words.{Direction, Finds, Input, IsFirstSpan, Machine, Skips, Tries}
use Rattle.automata_hybrid.specs.Searches.Progress.{TriesSpans}
use Rattle.automata_hybrid.proofs.Searches.Costs.{tries_before}

-- a search tries its first span
pub tries_first : (way : Direction) (m : Machine) (input : Input) → Tries (Finds way m) (Skips m) way input 0
tries_first way m input = record { comes = IsFirstSpan refl; before = λ j less. absurd (omega (arith, less)) }

-- a search that tries a span tries every span before it
pub spans_before :
    (way : Direction) (m : Machine) (input : Input) (k : ℕ)
    → Tries (Finds way m) (Skips m) way input k → TriesSpans way m input k
spans_before way m input k tries =
    λ j less. (tries_before (Finds way m) (Skips m) way input j k (omega (arith, less)) tries, (tries.before j less).0)

-- and that span, if it begins within the span of the input
pub spans_tried :
    (way : Direction) (m : Machine) (input : Input) (k : ℕ)
    → Tries (Finds way m) (Skips m) way input k → input.start + k ≤ input.end → TriesSpans way m input (suc k)
spans_tried way m input k tries within = λ j less.
    (tries_before (Finds way m) (Skips m) way input j k (omega (arith, less)) tries, omega (arith, less, within))
