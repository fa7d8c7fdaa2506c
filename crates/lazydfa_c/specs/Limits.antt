-- Limits on the texts of patterns, which are checked before anything is parsed.
use Rattle.std.specs.Prelude.{ℕ, Bool, false, ◌==◌, ◌||◌, ◌&&◌, ◌+◌, List, [], ◌∷◌, length, nat_le, if◌then◌else◌}
use Rattle.lazydfa_c.specs.declared.text.TextOptions.{TextOptions}

-- whether a backslash before this byte begins a class escape: before d, D, p, P, s, S, w or W
abbrev pub is_class_letter : ℕ → Bool
is_class_letter b =
    (b == 100) || (b == 68) || (b == 112) || (b == 80) || (b == 115) || (b == 83) || (b == 119) || (b == 87)

-- how many of these bytes are such a letter after a backslash; the flag says whether a backslash precedes the first
-- byte
abbrev pub escapes_behind : Bool → List ℕ → ℕ
escapes_behind is_behind [] = 0
escapes_behind is_behind (b ∷ bs) =
    (if is_behind && is_class_letter b then 1 else 0) + escapes_behind (b == 92) bs

-- the number of class letters after a backslash: at least as many as the text has class escapes
abbrev pub class_escapes : List ℕ → ℕ
class_escapes text = escapes_behind false text

-- whether concatenated texts are within the limits; a limit that is not set admits any text
abbrev pub admits : TextOptions → (texts : List ℕ) → Bool
admits options texts =
    ((options.has_text_limit == 0) || nat_le (length texts) options.text_limit)
    && ((options.has_class_limit == 0) || nat_le (class_escapes texts) options.class_limit)
