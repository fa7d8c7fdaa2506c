-- The slots that a simulation writes, and the spans of the groups that they give.
use Rattle.std.specs.Prelude.{ℕ, ◌-◌, ◌*◌, ◌≤◌, ◌==◌, ◌&&◌, nat_le, nat_lt, if◌then◌else◌, List, Option, None, Some}
use Rattle.std.specs.Prelude.{slice_index}
use Rattle.automata_base.specs.Haystacks.Matches.{Match}
use Rattle.automata_base.specs.declared.util.search.Span.{Span}

-- the span between two slots, if it lies in the match; a slot is an offset plus one, or 0 for none
abbrev pub slot_span : Match → (first last : ℕ) → Option Span
slot_span m first last =
    if nat_lt m.start first && (nat_le first last && nat_le (last - 1) m.end)
    then Some (record { start = first - 1; end = last - 1 }) else None

-- the span of a group of a match: group 0 is the match, and each other group has two of these slots
abbrev pub slots_span : Match → (slots : List ℕ) → (group : ℕ) → Option Span
slots_span m slots group =
    if group == 0 then Some (record { start = m.start; end = m.end })
    else slot_span m (slice_index slots (2 * group - 2)) (slice_index slots (2 * group - 1))

-- a span lies in a match
abbrev pub LiesInMatch : Match → Span → Type 0
LiesInMatch m span = (m.start ≤ span.start) × (span.start ≤ span.end) × (span.end ≤ m.end)
