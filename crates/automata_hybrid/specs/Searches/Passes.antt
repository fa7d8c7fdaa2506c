-- A pass of a search over the span of an input, unit by unit, and what a search answers.
use Rattle.std.specs.Prelude.{ℕ, suc, ◌≡◌, ◌<◌, ◌≤◌, ◌+◌, ◌-◌, max, option_map, length, Bool, true, false, Option}
use Rattle.std.specs.Prelude.{Some, None, slice_get}
use Rattle.automata_base.specs.Answers.Answers.{Answers, Half}
use Rattle.automata_base.specs.ByteClasses.Classes.{is_quit}
use Rattle.automata_base.specs.Haystacks.Input.{Input}
use Rattle.automata_base.specs.Haystacks.Matches.{HalfMatch}
use Rattle.automata_base.specs.Paths.Paths.{Tape, next}
use Rattle.automata_base.specs.Powersets.Powerset.{Powerset, dead}
use Rattle.automata_base.specs.Paths.Selections.{Pair}
use Rattle.automata_base.specs.Haystacks.Tapes.{tape_of}
use Rattle.automata_base.specs.declared.util.search.Direction.{Direction}
use Rattle.automata_base.specs.declared.util.search.Direction.TheVariants.{Forward, Backward}
use Rattle.automata_determinize.specs.Retraced.Passes.{first_among, last_among}
use Rattle.automata_hybrid.specs.Machines.FullDfas.{full_dfa, state_on}
use Rattle.automata_hybrid.specs.Machines.Machine.{Machine}
use Rattle.automata_hybrid.specs.Steps.Starts.{quit_behind}

-- the tape of an input's span in a direction
abbrev pub tape_in : Direction → Input → Tape
tape_in way input = tape_of way input.haystack input.start input.end

-- the powerset state of a pass after its first `k` units
abbrev pub state_in : Direction → Machine → Input → ℕ → Powerset
state_in way m input k = state_on (full_dfa m) input.anchored (tape_in way input) k

-- what the first `k` units report, if they lead through these states: the first match in an earliest search, and the
-- last one in any other; matches are delayed by one unit
abbrev pub reported_along : (earliest : Bool) → (ℕ → Powerset) → ℕ → Option Pair
reported_along true state k = first_among (λ i. (state (suc i)).patterns) k
reported_along false state k = last_among (λ i. (state (suc i)).patterns) k

-- what the first `k` units of a pass report
abbrev pub reported_in : Direction → Machine → Input → ℕ → Option Pair
reported_in way m input k = reported_along input.earliest (λ i. state_in way m input i) k

-- what a pass over the span of an input that is not done reports
abbrev pub report_in : Direction → Machine → Input → Option Pair
report_in way m input = reported_in way m input (suc (length (tape_in way input).bytes))

-- a pass reads the unit at place `k`: its state there is not dead, and an earliest pass has reported nothing yet
abbrev pub Reads : Direction → Machine → Input → ℕ → Type 0
Reads way m input k =
    (k ≤ length (tape_in way input).bytes) × (state_in way m input k ≡ dead → ⊥)
    × (input.earliest ≡ true → reported_in way m input k ≡ None)

-- none of the first `k` units of a pass is a quit byte
abbrev pub HasReadNoQuit : Direction → Machine → Input → ℕ → Type 0
HasReadNoQuit way m input k =
    (j byte : ℕ) → j < k → next (tape_in way input) j ≡ Some byte → is_quit m.quits byte ≡ false

-- no unit that a pass reads is a quit byte, nor is its look-behind byte
abbrev pub MeetsNoQuit : Direction → Machine → Input → Type 0
MeetsNoQuit way m input =
    (quit_behind m (tape_in way input).before ≡ None)
    × ((k byte : ℕ) → Reads way m input k → next (tape_in way input) k ≡ Some byte → is_quit m.quits byte ≡ false)

-- the offset of the unit at a place of a pass
abbrev pub unit_offset : Direction → Input → ℕ → ℕ
unit_offset Forward input k = input.start + k
unit_offset Backward input k = input.end - k - 1

-- the offset of the "gave up" error at a place of a pass, which lies in the span
abbrev pub given_up_offset : Direction → Input → ℕ → ℕ
given_up_offset Forward input k = input.start + k
given_up_offset Backward input k = max input.start (input.end - k - 1)

-- the offset of the look-behind byte of a pass
abbrev pub behind_offset : Direction → Input → ℕ
behind_offset Forward input = input.start - 1
behind_offset Backward input = input.end

-- a pass over the span of an input reports this, and meets no quit byte
abbrev pub Finds : Direction → Machine → Input → Option Pair → Type 0
Finds way m input reported = (reported ≡ report_in way m input) × MeetsNoQuit way m input

-- split places are skipped
abbrev pub Skips : Machine → Type 0
Skips m = (full_dfa m).skips

-- What a search finds: what is reported over the first span for which that is nothing or is not split. No pass that it
-- made met a quit byte.
abbrev pub IsFound : Direction → Machine → Input → Option Half → Type 0
IsFound way m input answer = Answers (Finds way m) (Skips m) way input answer

-- a half match with the start of the span that gave it
abbrev pub with_base : HalfMatch → ℕ → Half
with_base half base = record { pattern = half.pattern; offset = half.offset; base = base }

-- a half match without that start
abbrev pub without_base : Half → HalfMatch
without_base half = record { pattern = half.pattern; offset = half.offset }

-- a half match is an answer of this kind without its base
abbrev pub WithoutBase : (Option Half → Type 0) → Option HalfMatch → Type 0
WithoutBase P found = (answer : Option Half) × P answer × (found ≡ option_map without_base answer)

-- no byte is a quit byte from the one before the span to the one after it
abbrev pub NoQuitInReach : Machine → Input → Type 0
NoQuitInReach m input =
    (at byte : ℕ) → input.start ≤ at + 1 → at ≤ input.end → slice_get input.haystack at ≡ Some byte
    → is_quit m.quits byte ≡ false
