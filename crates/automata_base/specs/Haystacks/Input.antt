-- An input as contracts see it.
use Rattle.std.specs.Prelude.{ℕ, ◌+◌, ◌^◌, ◌<◌, ◌≤◌, ◌++◌, Bool, List, length, codes}
use Rattle.std.specs.Fmt.{decimal}
use Rattle.automata_base.specs.Haystacks.Tapes.{IsHaystack}
use Rattle.automata_base.specs.declared.util.search.Anchored.{Anchored}
use Rattle.automata_base.specs.declared.util.search.Anchored.TheVariants.{No, Yes, Pattern}

-- The input of a search: the span `start..end` of a haystack, and how it is searched. It is done if `start` is past
-- `end`.
pub record Input : Type 0 where
  -- the bytes of the haystack; looks also see those beside the span
  pub haystack : List ℕ
  -- the offset where the span begins
  pub start : ℕ
  -- the offset where the span ends, exclusive
  pub end : ℕ
  -- the anchored mode: unanchored, anchored at the start, or anchored there and of one pattern
  pub anchored : Anchored
  -- whether the search stops as soon as it has found a match
  pub earliest : Bool

-- A span may be set: it ends in the haystack, and begins at most one after its end, where it is done.
abbrev pub Allows : List ℕ → ℕ → ℕ → Type 0
Allows haystack start end = (start ≤ end + 1) × (end ≤ length haystack)

-- The span of an input is one that may be set.
abbrev pub IsAllowed : Input → Type 0
IsAllowed input = Allows input.haystack input.start input.end

-- What holds of every input.
pub record IsValidInput (input : Input) : Type 0 where
  -- its haystack consists of bytes
  pub bytes : IsHaystack input.haystack
  -- its span is one that may be set
  pub within : IsAllowed input
  -- its haystack has fewer than 2^63 bytes
  pub bound : length input.haystack < 2 ^ 63

-- The name of an anchored mode in the text of an error.
abbrev pub mode_text : Anchored → List ℕ
mode_text No = codes "unanchored searches"
mode_text Yes = codes "anchored searches"
mode_text (Pattern p) = codes "anchored searches for a specific pattern (" ++ decimal p ++ codes ")"
