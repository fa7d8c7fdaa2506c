-- The groups that captures hold.
use Rattle.std.specs.Prelude.{ℕ, ◌≡◌, Option, None, Some, IfSome, slice_index_or}
use Rattle.regex_hir.specs.Find as kit
use Rattle.automata_base.specs.Haystacks.Matches.{Match}
use Rattle.automata_base.specs.declared.util.search.Span.{Span}
use Rattle.meta.specs.Groups.{group_span}
use Rattle.meta.specs.Slots.{LiesInMatch}
use Rattle.meta.specs.declared.captures.Captures.{Captures}

-- the span of a group that captures hold
abbrev pub span_in : Captures → (group : ℕ) → Option Span
span_in captures group = slice_index_or captures.spans.items group None

-- captures hold no match and no group
abbrev pub HoldNothing : Captures → Type 0
HoldNothing captures = (captures.found ≡ None) × ((group : ℕ) → span_in captures group ≡ None)

-- captures hold the span of each group of a match
abbrev pub HoldGroups : kit.Match → Captures → Type 0
HoldGroups m captures = (group : ℕ) → span_in captures group ≡ group_span m group

-- captures hold the groups of what is found: of a match, or nothing
abbrev pub HoldFound : Option kit.Match → Captures → Type 0
HoldFound None captures = HoldNothing captures
HoldFound (Some m) captures = HoldGroups m captures

-- each span that captures hold lies in a match
abbrev pub LieInMatch : Match → Captures → Type 0
LieInMatch m captures = (group : ℕ) → IfSome (span_in captures group) (LiesInMatch m)

-- captures hold the match that a search returned, and spans in it; nothing, if it returned none
abbrev pub HoldMatch : Option Match → Captures → Type 0
HoldMatch (Some found) captures = (captures.found ≡ Some found) × LieInMatch found captures
HoldMatch None captures = HoldNothing captures
