-- What several patterns mean: their alternation, the first preferred, and the pattern that a match belongs to.
use Rattle.std.specs.Prelude.{ℕ, suc, ◌≡◌, ◌+◌, ◌≤◌, Bool, false, cond, List, [], ◌∷◌, length, map}
use Rattle.std.specs.Prelude.{Option, None, Some, is_some}
use Rattle.regex_hir.specs.Re.{Re, accept, alt, attempt, byte_in}
use Rattle.regex_hir.specs.Matches.{Matches}
use Rattle.regex_hir.specs.Find as kit
use Rattle.automata_base.specs.Haystacks.Input.{Input}
use Rattle.automata_base.specs.Haystacks.Matches.{HalfMatch, Match}
use Rattle.automata_base.specs.declared.util.search.Anchored.TheVariants.{No}

-- The alternation of these patterns. An empty list has no match.
abbrev pub any_of : List Re → Re
any_of [] = byte_in []
any_of (re ∷ []) = re
any_of (re ∷ next ∷ res) = alt re (any_of (next ∷ res))

-- The number of the first pattern that matches at offset `i`.
abbrev pub first_at : List Re → List ℕ → ℕ → ℕ
first_at [] hay i = 0
first_at (re ∷ res) hay i = cond (is_some (attempt hay re accept i)) 0 (suc (first_at res hay i))

-- A match of the alternation, with the number of its pattern.
abbrev pub numbered_match : List Re → List ℕ → kit.Match → Match
numbered_match res hay m = record { pattern = first_at res hay m.start; start = m.start; end = m.trace.end }

-- The end of a match of the alternation, with the number of its pattern.
abbrev pub end_of : List Re → List ℕ → kit.Match → HalfMatch
end_of res hay m = record { pattern = first_at res hay m.start; offset = m.trace.end }

-- What the patterns find at or after an offset: in text if `utf8` is true, otherwise in bytes.
abbrev pub find_any : (utf8 : Bool) → List Re → List ℕ → ℕ → Option kit.Match
find_any utf8 res hay start = cond utf8 (kit.find_str (any_of res) hay start) (kit.find (any_of res) hay start)

-- Whether a pattern matches some part of a haystack, by itself: in text if `utf8` is true, otherwise in bytes.
abbrev pub is_found : (utf8 : Bool) → List ℕ → Re → Bool
is_found utf8 hay re = is_some (find_any utf8 (re ∷ []) hay 0)

-- What a search finds after a match that ended at `last`, skipping an empty match at `last`; the first match, if there
-- was none.
abbrev pub next_by : (search : ℕ → Option kit.Match) → (last : Option ℕ) → Option kit.Match
next_by search None = search 0
next_by search (Some end) = kit.find_after search end

-- The remaining matches after one that ended at `last`, one after another; all of them, if there was none.
abbrev pub left_by : (search : ℕ → Option kit.Match) → List Re → List ℕ → (last : Option ℕ) → List Match
left_by search res hay last =
    map (numbered_match res hay) (kit.matches_from search (length hay + 1) (next_by search last))

-- The remaining matches of these patterns, in text if `utf8` is true, otherwise in bytes.
abbrev pub left_any : (utf8 : Bool) → List Re → List ℕ → (last : Option ℕ) → List Match
left_any utf8 res hay last = left_by (find_any utf8 res hay) res hay last

-- It is the first of the remaining matches, or none remains. `left` says which remain, by where the last match ended.
abbrev pub IsFirstLeft : (left : Option ℕ → List Match) → (last : Option ℕ) → Option Match → Type 0
IsFirstLeft left last None = left last ≡ []
IsFirstLeft left last (Some m) = left last ≡ m ∷ left (Some m.end)

-- Some part of the haystack is a match of some pattern, in whatever way.
abbrev pub HasPart : List Re → List ℕ → Type 0
HasPart res hay = (i j : ℕ) × (i ≤ length hay) × Matches hay (any_of res) i j

-- The input of a search over the span from `s` to `e`, unanchored and not earliest.
abbrev pub span_input : List ℕ → (s e : ℕ) → Input
span_input hay s e = record { haystack = hay; start = s; end = e; anchored = No; earliest = false }
