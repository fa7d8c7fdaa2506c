-- The kinds of look-behind bytes after which searches start alike.
use Rattle.std.specs.Prelude.{ℕ, eqb, if◌then◌else◌, Option, Some, None}
use Rattle.automata_base.specs.Haystacks.Looks.{is_word_byte}

-- The kind of what is before a start: 2 for nothing, 3 for `\n`, 4 for `\r`, 5 for a line terminator that is neither, 1
-- for any other word byte, 0 for any other byte.
abbrev pub behind_of : (terminator : ℕ) → Option ℕ → ℕ
behind_of t None = 2
behind_of t (Some u) =
    if eqb u 10 then 3 else (if eqb u 13 then 4 else (if eqb u t then 5 else (if is_word_byte u then 1 else 0)))
