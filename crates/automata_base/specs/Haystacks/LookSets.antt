-- Sets of looks: as numbers whose bit k is set if look k is in the set, and as functions that are true of its looks.
use Rattle.std.specs.Prelude.{ℕ, zero, suc, ◌+◌, ◌*◌, ◌^◌, ◌<◌, eqb, if◌then◌else◌, List, [], ◌∷◌}
use Rattle.std.specs.Int.{bit_at}
use Rattle.automata_base.specs.Haystacks.Looks.{Look, Start, End, StartLF, EndLF, StartCRLF, EndCRLF, WordAscii}
use Rattle.automata_base.specs.Haystacks.Looks.{WordAsciiNegate}
use Rattle.automata_base.specs.Haystacks.Looks.{WordUnicode, WordUnicodeNegate, WordStartAscii, WordEndAscii}
use Rattle.automata_base.specs.Haystacks.Looks.{WordStartUnicode}
use Rattle.automata_base.specs.Haystacks.Looks.{WordEndUnicode, WordStartHalfAscii, WordEndHalfAscii}
use Rattle.automata_base.specs.Haystacks.Looks.{WordStartHalfUnicode}
use Rattle.automata_base.specs.Haystacks.Looks.{WordEndHalfUnicode, look_index}
use Rattle.automata_base.specs.Nfas.Nfa.{Truth}

-- Which looks are in the set: those whose bit is 1.
abbrev pub truth_of : ℕ → Truth
truth_of bits look = eqb (bit_at bits (look_index look)) 1

-- The number is a set of the eighteen looks.
abbrev pub IsLookSet : ℕ → Type 0
IsLookSet bits = bits < 2 ^ 18

-- The looks in the order of their numbers.
abbrev pub all_looks : List Look
all_looks =
    Start ∷ End ∷ StartLF ∷ EndLF ∷ StartCRLF ∷ EndCRLF ∷ WordAscii ∷ WordAsciiNegate ∷ WordUnicode ∷ WordUnicodeNegate
    ∷ WordStartAscii ∷ WordEndAscii ∷ WordStartUnicode ∷ WordEndUnicode ∷ WordStartHalfAscii ∷ WordEndHalfAscii
    ∷ WordStartHalfUnicode ∷ WordEndHalfUnicode ∷ []

-- The number whose bits say which looks of the list are in a set, the first of them by bit 0.
abbrev pub bits_from : Truth → List Look → ℕ
bits_from A [] = 0
bits_from A (look ∷ looks) = (if A look then 1 else 0) + 2 * bits_from A looks

-- The set of these looks.
abbrev pub set_of : Truth → ℕ
set_of A = bits_from A all_looks

-- The look at an index of the list; past its end, the last of the eighteen.
abbrev pub nth_of : List Look → ℕ → Look
nth_of [] k = WordEndHalfUnicode
nth_of (x ∷ xs) zero = x
nth_of (x ∷ xs) (suc k) = nth_of xs k

-- The look with this number.
abbrev pub nth_look : ℕ → Look
nth_look k = nth_of all_looks k
