-- What is shown of lines and of the lines around them.
use Rattle.std.specs.Prelude.{ℕ, zero, suc, ◌-◌, ◌++◌, Bool, true, false, cond, List, [], ◌∷◌}
use Rattle.regex_hir.specs.Re.{Re}
use Rattle.lgrep.specs.Shown.{found_shown, near_shown}
use Rattle.lgrep.specs.declared.show.Around.{Around}
use Rattle.lgrep.specs.declared.around.Held.{Held}
use Rattle.lgrep.specs.declared.around.Last.{Last}
use Rattle.lgrep.specs.declared.around.Last.TheVariants as last
use Rattle.lgrep.specs.declared.position.Position.{Position}
use Rattle.lgrep.specs.declared.show.Show.{Show}

-- two hyphens and a line feed, after a gap between lines that are shown
abbrev pub separator : Last → List ℕ
separator last.Nothing = []
separator last.Line = []
separator last.Gap = 45 ∷ 45 ∷ 10 ∷ []

-- what precedes the next line that is shown, after a line that is not shown
abbrev pub after_gap : Last → Last
after_gap last.Nothing = last.Nothing
after_gap last.Line = last.Gap
after_gap last.Gap = last.Gap

-- a line that is held, with its position; it is not taken
abbrev pub held_line : Held → (Position × List ℕ) × Bool
held_line held = ((held.position, held.bytes.items), false)

-- what is shown of lines that are near one that is taken
abbrev pub near_lines : Show → List ((Position × List ℕ) × Bool) → List ℕ
near_lines show [] = []
near_lines show (line ∷ lines) = near_shown show line.0 ++ near_lines show lines

-- how many lines directly before these are shown, because the first of these that is taken is near
abbrev pub lead : (before : ℕ) → List ((Position × List ℕ) × Bool) → ℕ
lead before [] = 0
lead before (line ∷ lines) = cond line.1 before (lead before lines - 1)

-- whether a line that is not taken is near one that is: it is one of the lines that are shown after a line that is
-- taken, or before one
abbrev pub is_near : (left near : ℕ) → Bool
is_near zero zero = false
is_near zero (suc near) = true
is_near (suc left) near = true

-- what is shown of lines: each that is taken, and those near it, with a separator after each gap. `left` of the first
-- lines follow a line that is taken.
abbrev pub shown_around :
    Show → List Re → Around → (left : ℕ) → (previous : Last) → (lines : List ((Position × List ℕ) × Bool)) → List ℕ
shown_around show res around left previous [] = []
shown_around show res around left previous (line ∷ lines) =
    cond line.1
    (separator previous ++ found_shown show res line.0 ++ shown_around show res around around.after last.Line lines)
    (cond (is_near left (lead around.before lines))
    (separator previous ++ near_shown show line.0 ++ shown_around show res around (left - 1) last.Line lines)
    (shown_around show res around 0 (after_gap previous) lines))
