-- What is printed of the lines that are taken.
use Rattle.std.specs.Prelude.{ℕ, ◌==◌, ◌+◌, ◌&&◌, ◌||◌, Bool, true, false, cond, not, List, [], ◌∷◌, ◌++◌, Option, None}
use Rattle.std.specs.Prelude.{Some, map, slice_range, string_bytes}
use Rattle.std.specs.Fmt.{decimal}
use Rattle.regex_hir.specs.Re.{Re}
use Rattle.automata_base.specs.Haystacks.PatternSet.{members}
use Rattle.regex_automata.specs.Promises.{Match}
use Rattle.meaning.specs.Patterns.{is_found, left_any}
use Rattle.lgrep.specs.Lines.{line_number}
use Rattle.lgrep.specs.Replaced.{expansion, replaced_line}
use Rattle.lgrep.specs.Usages.{capped_sum}
use Rattle.lgrep.specs.declared.position.Position.{Position}
use Rattle.lgrep.specs.declared.show.Frame.{Frame}
use Rattle.lgrep.specs.declared.show.How.{How}
use Rattle.lgrep.specs.declared.show.How.TheVariants as how
use Rattle.lgrep.specs.declared.show.Show.{Show}
use Rattle.lgrep.specs.declared.template.Replacement.{Replacement}

-- the name of the file and this byte, or with `-Z` a NUL in its place
abbrev pub ended_name : Show → (byte : ℕ) → List ℕ
ended_name show byte = string_bytes show.name ++ cond show.flags.null 0 byte ∷ []

-- the byte after a name, a number and an offset: a colon, or `-` if the line is not taken
abbrev pub mark_of : (taken : Bool) → ℕ
mark_of taken = cond taken 58 45

-- the name of the file and that byte or a NUL, if names are asked for
abbrev pub name_of : Show → (taken : Bool) → List ℕ
name_of show taken = cond show.flags.named (ended_name show (mark_of taken)) []

-- the line's number and that byte, if numbers are asked for
abbrev pub number_shown : (numbers taken : Bool) → (number : ℕ) → List ℕ
number_shown false taken number = []
number_shown true taken number = decimal number ++ mark_of taken ∷ []

-- what precedes the offset and the bytes of a line
abbrev pub prefix_shown : Show → (taken : Bool) → (number : ℕ) → List ℕ
prefix_shown show taken number = name_of show taken ++ number_shown show.flags.numbers taken number

-- what surrounds the bytes of a line after this prefix: its offset if offsets are asked for, with `-T` a tab if
-- anything precedes the bytes, and the byte that ends the line
abbrev pub frame_of : Show → (taken : Bool) → Position → Frame
frame_of show taken at = record {
  offset = cond show.flags.offsets (Some at.bytes) None;
  mark = mark_of taken;
  tab = show.flags.tab && (show.flags.named || show.flags.numbers || show.flags.offsets);
  end = show.flags.end;
}

-- the offset of what begins at `start` in a line, and a byte after it, if the line's offset is given
abbrev pub offset_shown : (offset : Option ℕ) → (mark start : ℕ) → List ℕ
offset_shown None mark start = []
offset_shown (Some offset) mark start = decimal (capped_sum offset start) ++ mark ∷ []

-- a tab before bytes, if it is asked for
abbrev pub tab_shown : (tab : Bool) → (bytes : List ℕ) → List ℕ
tab_shown tab [] = []
tab_shown tab (byte ∷ bytes) = cond tab (9 ∷ []) []

-- bytes that begin at `start` in a line, after a prefix and in a frame
abbrev pub shown_after : (prefix : List ℕ) → Frame → (start : ℕ) → (bytes : List ℕ) → List ℕ
shown_after prefix frame start bytes =
    prefix ++ offset_shown frame.offset frame.mark start ++ tab_shown frame.tab bytes ++ bytes ++ frame.end ∷ []

-- a match in that way, or nothing if it is empty
abbrev pub part_shown : (prefix : List ℕ) → Frame → (start : ℕ) → (part : List ℕ) → List ℕ
part_shown prefix frame start [] = []
part_shown prefix frame start (byte ∷ bytes) = shown_after prefix frame start (byte ∷ bytes)

-- the matches of a line, one after another
abbrev pub parts_shown : (prefix : List ℕ) → Frame → (line : List ℕ) → List Match → List ℕ
parts_shown prefix frame line [] = []
parts_shown prefix frame line (m ∷ ms) =
    part_shown prefix frame m.start (slice_range line m.start m.end) ++ parts_shown prefix frame line ms

-- the number of a pattern, counted from 1, after a comma if it is not the first
abbrev pub number_after : (first : Bool) → (pattern : ℕ) → List ℕ
number_after true pattern = decimal (pattern + 1)
number_after false pattern = 44 ∷ decimal (pattern + 1)

-- the numbers of these patterns, with commas between them
abbrev pub numbers_listed : (first : Bool) → (patterns : List ℕ) → List ℕ
numbers_listed first [] = []
numbers_listed first (pattern ∷ patterns) = number_after first pattern ++ numbers_listed false patterns

-- a line after the numbers of the patterns that match it, by the flags of the patterns, and a colon
abbrev pub which_shown : (prefix : List ℕ) → Frame → (line : List ℕ) → (flags : List Bool) → List ℕ
which_shown prefix frame line flags = shown_after prefix frame 0 (numbers_listed true (members flags) ++ 58 ∷ line)

-- what each of these matches is replaced by, one after another
abbrev pub replacements_shown : (expand : Match → List ℕ) → (prefix : List ℕ) → Frame → List Match → List ℕ
replacements_shown expand prefix frame [] = []
replacements_shown expand prefix frame (m ∷ ms) =
    shown_after prefix frame m.start (expand m) ++ replacements_shown expand prefix frame ms

-- a line that is taken: the line, only its matches, the line after the numbers of the patterns that match it by
-- themselves, the line with each match replaced, or only what its matches are replaced by
abbrev pub line_shown :
    How → List Replacement → List Re → (prefix : List ℕ) → Frame → (line : List ℕ) → List ℕ
line_shown how.Whole replacements res prefix frame line = shown_after prefix frame 0 line
line_shown how.Matches replacements res prefix frame line =
    parts_shown prefix frame line (left_any false res line None)
line_shown how.Which replacements res prefix frame line =
    which_shown prefix frame line (map (is_found false line) res)
line_shown how.Replaced replacements res prefix frame line =
    shown_after prefix frame 0 (replaced_line replacements res line)
line_shown how.Replacements replacements res prefix frame line =
    replacements_shown (expansion replacements res line) prefix frame (left_any false res line None)

-- whether no line is shown, because only the count, names or nothing is asked for, or because the file is binary
abbrev pub is_silent : Show → Bool
is_silent show = show.flags.count || show.flags.names || show.flags.missing || show.flags.quiet || show.binary

-- what is shown of a line at a position that is taken, by the flags
abbrev pub found_shown : Show → List Re → Position × List ℕ → List ℕ
found_shown show res line =
    cond (is_silent show) []
    (line_shown show.flags.how show.replacements.items res (prefix_shown show true (line_number line.0))
    (frame_of show true line.0) line.1)

-- what is shown of lines that are taken, one after another, by the flags
abbrev pub lines_shown : Show → List Re → (found : List (Position × List ℕ)) → List ℕ
lines_shown show res [] = []
lines_shown show res (line ∷ found) = found_shown show res line ++ lines_shown show res found

-- nothing if only matches are shown
abbrev pub unless_matches : How → (shown : List ℕ) → List ℕ
unless_matches how.Whole shown = shown
unless_matches how.Matches shown = []
unless_matches how.Which shown = shown
unless_matches how.Replaced shown = shown
unless_matches how.Replacements shown = []

-- what is shown of a line at a position that is near a line that is taken, by the flags
abbrev pub near_shown : Show → Position × List ℕ → List ℕ
near_shown show line =
    unless_matches show.flags.how
    (shown_after (prefix_shown show false (line_number line.0)) (frame_of show false line.0) 0 line.1)

-- the name of the file and a line feed or a NUL, if it is wanted
abbrev pub file_shown : Show → (wanted : Bool) → List ℕ
file_shown show wanted = cond wanted (ended_name show 10) []

-- the count, if it is asked for
abbrev pub count_shown : Show → (count : ℕ) → List ℕ
count_shown show count = cond show.flags.count (name_of show true ++ decimal count ++ 10 ∷ []) []

-- what is shown at the end of a file: nothing, its name if a line was taken, or with `-L` if none was, or the count
abbrev pub end_shown : Show → (count : ℕ) → List ℕ
end_shown show count =
    cond show.flags.quiet []
    (cond show.flags.names (file_shown show (not (count == 0)))
    (cond show.flags.missing (file_shown show (count == 0)) (count_shown show count)))
