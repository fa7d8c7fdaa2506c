-- The eighteen looks, and where they hold, by the bytes before and after a place.
use Rattle.std.specs.Prelude.{ℕ, Bool, true, false, not, ◌&&◌, ◌||◌, leb, eqb, Option, Some, None}
pub use Rattle.automata_base.specs.declared.util.look.Look.{Look}
pub use Rattle.automata_base.specs.declared.util.look.Look.TheVariants.{Start, End, StartLF, EndLF, StartCRLF, EndCRLF}
pub use Rattle.automata_base.specs.declared.util.look.Look.TheVariants.{WordAscii, WordAsciiNegate, WordUnicode}
pub use Rattle.automata_base.specs.declared.util.look.Look.TheVariants.{WordUnicodeNegate, WordStartAscii, WordEndAscii}
pub use Rattle.automata_base.specs.declared.util.look.Look.TheVariants.{WordStartUnicode, WordEndUnicode}
pub use Rattle.automata_base.specs.declared.util.look.Look.TheVariants.{WordStartHalfAscii, WordEndHalfAscii}
pub use Rattle.automata_base.specs.declared.util.look.Look.TheVariants.{WordStartHalfUnicode, WordEndHalfUnicode}

-- Whether the byte is in the range from `lo` to `hi`, both included.
abbrev pub within : ℕ → ℕ → ℕ → Bool
within lo hi u = leb lo u && leb u hi

-- Whether the byte is an ASCII digit, letter or underscore.
abbrev pub is_word_byte : ℕ → Bool
is_word_byte u = within 48 57 u || within 65 90 u || eqb u 95 || within 97 122 u

-- Whether there is no byte on one side of a place, which is so only at an end of the haystack.
abbrev pub is_absent : Option ℕ → Bool
is_absent None = true
is_absent (Some u) = false

-- Whether there is a byte, and it is this one.
abbrev pub is_byte : ℕ → Option ℕ → Bool
is_byte b None = false
is_byte b (Some u) = eqb u b

-- Whether there is a byte, and it is a word byte.
abbrev pub is_word : Option ℕ → Bool
is_word None = false
is_word (Some u) = is_word_byte u

-- Whether exactly one of the two is true.
abbrev pub differ : Bool → Bool → Bool
differ true b = not b
differ false b = b

-- The byte of `\r\n` that is read first: under the reverse flag it is the line feed.
abbrev pub first_half : Bool → ℕ
first_half false = 13
first_half true = 10

-- The byte of `\r\n` that is read second.
abbrev pub second_half : Bool → ℕ
second_half false = 10
second_half true = 13

-- Whether a look holds at a place, by the byte before it and the byte after it.
abbrev pub holds : (terminator : ℕ) (reverse : Bool) → Look → (prev next : Option ℕ) → Bool
holds t r Start prev next = is_absent prev
holds t r End prev next = is_absent next
holds t r StartLF prev next = is_absent prev || is_byte t prev
holds t r EndLF prev next = is_absent next || is_byte t next
holds t r StartCRLF prev next =
    is_absent prev || is_byte (second_half r) prev
    || (is_byte (first_half r) prev && not (is_byte (second_half r) next))
holds t r EndCRLF prev next =
    is_absent next || is_byte (first_half r) next
    || (is_byte (second_half r) next && not (is_byte (first_half r) prev))
holds t r WordAscii prev next = differ (is_word prev) (is_word next)
holds t r WordAsciiNegate prev next = not (differ (is_word prev) (is_word next))
holds t r WordUnicode prev next = differ (is_word prev) (is_word next)
holds t r WordUnicodeNegate prev next = not (differ (is_word prev) (is_word next))
holds t r WordStartAscii prev next = not (is_word prev) && is_word next
holds t r WordEndAscii prev next = is_word prev && not (is_word next)
holds t r WordStartUnicode prev next = not (is_word prev) && is_word next
holds t r WordEndUnicode prev next = is_word prev && not (is_word next)
holds t r WordStartHalfAscii prev next = not (is_word prev)
holds t r WordEndHalfAscii prev next = not (is_word next)
holds t r WordStartHalfUnicode prev next = not (is_word prev)
holds t r WordEndHalfUnicode prev next = not (is_word next)

-- The number of a look, which is its bit in a set of looks.
abbrev pub look_index : Look → ℕ
look_index Start = 0
look_index End = 1
look_index StartLF = 2
look_index EndLF = 3
look_index StartCRLF = 4
look_index EndCRLF = 5
look_index WordAscii = 6
look_index WordAsciiNegate = 7
look_index WordUnicode = 8
look_index WordUnicodeNegate = 9
look_index WordStartAscii = 10
look_index WordEndAscii = 11
look_index WordStartUnicode = 12
look_index WordEndUnicode = 13
look_index WordStartHalfAscii = 14
look_index WordEndHalfAscii = 15
look_index WordStartHalfUnicode = 16
look_index WordEndHalfUnicode = 17
