-- Which looks occur in an NFA, and which of them are about words or about CRLF.
use Rattle.std.specs.Prelude.{ℕ, ◌≡◌, Bool, true, false}
use Rattle.automata_base.specs.Haystacks.Looks.{Look, Start, End, StartLF, EndLF, StartCRLF, EndCRLF}
use Rattle.automata_base.specs.Nfas.Nfa.{Nfa, Assert, node}
use Rattle.automata_base.specs.Paths.Paths.{next}

-- The look is a state of the NFA.
abbrev pub Occurs : Nfa → Look → Type 0
Occurs n look = (q next : ℕ) × (node n q ≡ Assert look next)

-- Whether a look tests for word bytes.
abbrev pub is_word_look : Look → Bool
is_word_look Start = false
is_word_look End = false
is_word_look StartLF = false
is_word_look EndLF = false
is_word_look StartCRLF = false
is_word_look EndCRLF = false
is_word_look look = true

-- Whether a look tests for `\r` and `\n`.
abbrev pub is_crlf_look : Look → Bool
is_crlf_look StartCRLF = true
is_crlf_look EndCRLF = true
is_crlf_look look = false
