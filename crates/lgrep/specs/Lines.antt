-- Which lines are taken, and their positions.
use Rattle.std.specs.Prelude.{ℕ, ◌≡◌, ◌==◌, ◌+◌, ◌-◌, ◌^◌, ◌↔◌, Bool, true, false, IsTrue, cond, List, [], ◌∷◌, ◌++◌}
use Rattle.std.specs.Prelude.{length, min, Option, None, Some, nat_le, take}
use Rattle.std.specs.List.{slice_split}
use Rattle.regex_hir.specs.Re.{Re}
use Rattle.regex_automata.specs.Promises.{Forward, Half, Input, IsAnswer, LeftmostFirst, Machine, No, engine}
use Rattle.regex_automata.specs.Promises.{match_kind_of}
use Rattle.patterns.specs.Patterns.{IsJoinedNfa, default_options}
use Rattle.patterns.specs.declared.compile.Options.{Options}
use Rattle.lgrep.specs.Usages.{capped_sum}
use Rattle.lgrep.specs.declared.lines.Line.{Line}
use Rattle.lgrep.specs.declared.lines.Marked.{Marked}
use Rattle.lgrep.specs.declared.position.Position.{Position}

-- the lines of a text: what is between the bytes that end lines
abbrev pub lines : (end : ℕ) → (text : List ℕ) → List (List ℕ)
lines end text = slice_split (λ byte. byte == end) text

-- one more; the count stops at the largest 64-bit number
abbrev pub one_more : (count : ℕ) → ℕ
one_more count = min (count + 1) (2 ^ 64 - 1)

-- the count after these elements
abbrev pub count_after : {A : Type 0} → (count : ℕ) → List A → ℕ
count_after count [] = count
count_after count (x ∷ xs) = count_after (one_more count) xs

-- the number of the line at a position, counted from 1
abbrev pub line_number : Position → ℕ
line_number at = one_more at.lines

-- the position after a line, and after the byte that ends it
abbrev pub position_after : Position → (line : List ℕ) → Position
position_after at line = record { lines = one_more at.lines; bytes = capped_sum at.bytes (one_more (length line)) }

-- the position after these lines
abbrev pub position_after_all : Position → (lines : List (List ℕ)) → Position
position_after_all at [] = at
position_after_all at (line ∷ lines) = position_after_all (position_after at line) lines

-- the lines with their positions, of which the first is this one
abbrev pub positioned : Position → (lines : List (List ℕ)) → List (Position × List ℕ)
positioned at [] = []
positioned at (line ∷ lines) = (at, line) ∷ positioned (position_after at line) lines

-- the first of these, if a limit of `max` leaves out the others, and `count` are already taken
abbrev pub first_lines : {A : Type 0} → (max : Option ℕ) → (count : ℕ) → List A → List A
first_lines None count xs = xs
first_lines (Some max) count xs = take (max - count) xs

-- a line with its position
abbrev pub found_line : Line → Position × List ℕ
found_line line = (line.position, line.bytes.now)

-- a line with its position, and whether it is taken
abbrev pub marked_line : Marked → (Position × List ℕ) × Bool
marked_line marked = (found_line marked.line, marked.is_taken)

-- a line by itself; the search may stop at the first match that it sees
abbrev pub whole_line : List ℕ → Input
whole_line line = record { haystack = line; start = 0; end = length line; anchored = No; earliest = true }

-- the ordered paths through a line have a match
pub record HasMatch (m : Machine) (line : List ℕ) : Type 0 where
  -- what the search of the line answers
  pub half : Half
  -- it is the answer of the ordered paths
  pub answer : IsAnswer Forward (engine m) (whole_line line) (Some half)

-- what a line that is taken has: a match or, if lines without one are taken, none
abbrev pub IsWanted : (invert : Bool) → (Has : Type 0) → Type 0
IsWanted false Has = Has
IsWanted true Has = Has → ⊥

-- these are exactly the lines that have it, in order
pub data AreMatching {A : Type 0} (Has : A → Type 0) : List A → List A → Type 0 where
  begins : AreMatching Has [] []
  takes : (lines found : List A) (line : A)
      → AreMatching Has lines found → Has line → AreMatching Has (lines ++ line ∷ []) (found ++ line ∷ [])
  leaves : (lines found : List A) (line : A)
      → AreMatching Has lines found → (Has line → ⊥) → AreMatching Has (lines ++ line ∷ []) found

-- whether no line is taken after this many, because of a limit
abbrev pub is_limit : (max : Option ℕ) → (count : ℕ) → Bool
is_limit None count = false
is_limit (Some max) count = nat_le max count

-- those of the lines that are taken
abbrev pub taken_lines : {A : Type 0} → List (A × Bool) → List A
taken_lines [] = []
taken_lines (line ∷ lines) = cond line.1 (line.0 ∷ taken_lines lines) (taken_lines lines)

-- these are the lines in order, each with whether it is taken: it is exactly if it has it, and the lines that are taken
-- before it, after `count` others, are not as many as the limit
pub data AreMarked {A : Type 0} (Has : A → Type 0) (max : Option ℕ) (count : ℕ)
    : List A → List (A × Bool) → Type 0 where
  starts : AreMarked Has max count [] []
  marks : (lines : List A) (marked : List (A × Bool)) (line : A) (taken : Bool)
      → AreMarked Has max count lines marked
      → (IsTrue taken ↔ ((is_limit max (count_after count (taken_lines marked)) ≡ false) × Has line))
      → AreMarked Has max count (lines ++ line ∷ []) (marked ++ (line, taken) ∷ [])

-- the options that patterns are read with: they match bytes, and not only UTF-8
abbrev pub bytewise : (case_insensitive : Bool) → Options
bytewise case_insensitive = record default_options { case_insensitive = case_insensitive; utf8 = false }

-- the DFA is for patterns with these meanings, and reports leftmost-first matches
abbrev pub IsSearcherFor : (case_insensitive : Bool) → List Re → Machine → Type 0
IsSearcherFor case_insensitive res m =
    IsJoinedNfa (bytewise case_insensitive) res m.nfa × (match_kind_of m.config ≡ LeftmostFirst)
