-- Which of several patterns match in a haystack, and which matches at an offset.
use Rattle.std.specs.Prelude.{ℕ, ◌≡◌, ◌≤◌, Bool, true, false, ◌||◌, if◌then◌else◌, List, [], ◌∷◌, length}
use Rattle.std.specs.Prelude.{Option, None, is_some, option_map}
use Rattle.regex_hir.specs.Find as kit
use Rattle.regex_hir.specs.Re.{Re, Trace, accept, attempt}
use Rattle.regex_hir.specs.Text.{is_boundary}
use Rattle.automata_base.specs.Haystacks.Matches.{Match}
use Rattle.meaning.specs.Patterns.{any_of, find_any}

-- Whether a pattern has a match that begins at an offset or later: in text if `utf8` is true, otherwise in bytes.
abbrev pub is_found_from : (utf8 : Bool) → List ℕ → (start : ℕ) → Re → Bool
is_found_from utf8 hay start re = is_some (find_any utf8 (re ∷ []) hay start)

-- A set of patterns joined with the patterns below its capacity for which the test is true.
abbrev pub joined_with : (test : Re → Bool) → List Re → (set : List Bool) → List Bool
joined_with test [] set = set
joined_with test (re ∷ res) [] = []
joined_with test (re ∷ res) (was ∷ set) = (was || test re) ∷ joined_with test res set

-- How the patterns match at an offset, if they do: in text no match begins inside a character.
abbrev pub attempt_at : (utf8 : Bool) → List Re → List ℕ → (at : ℕ) → Option Trace
attempt_at true res hay at = if is_boundary hay at then attempt hay (any_of res) accept at else None
attempt_at false res hay at = attempt hay (any_of res) accept at

-- The match of these patterns that begins at an offset, if there is one: of the first pattern that matches there the
-- one that it prefers.
abbrev pub match_at : (utf8 : Bool) → List Re → List ℕ → (at : ℕ) → Option kit.Match
match_at utf8 res hay at =
    option_map (λ (trace : Trace). record { start = at; trace = trace }) (attempt_at utf8 res hay at)

-- The match begins at the offset, and ends in the haystack.
pub record IsAnchoredMatch (hay : List ℕ) (at : ℕ) (m : Match) : Type 0 where
  -- it begins at the offset
  pub start : m.start ≡ at
  -- it ends there or later
  pub ordered : at ≤ m.end
  -- it ends in the haystack
  pub inside : m.end ≤ length hay
