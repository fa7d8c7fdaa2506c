-- The sets of all word looks and of both CRLF looks.
use Rattle.std.proofs.Common.{◌≡◌, refl}
use Rattle.automata_base.specs.Haystacks.Looks as l
use Rattle.automata_base.specs.Powersets.Passes.{is_word_look, is_crlf_look}
use Rattle.automata_base.specs.Haystacks.LookSets.{truth_of}
use Rattle.automata_base.specs.Haystacks.Looks.{Look}

pub word_mask : (look : Look) → truth_of 262080 look ≡ is_word_look look
word_mask l.Start = refl
word_mask l.End = refl
word_mask l.StartLF = refl
word_mask l.EndLF = refl
word_mask l.StartCRLF = refl
word_mask l.EndCRLF = refl
word_mask l.WordAscii = refl
word_mask l.WordAsciiNegate = refl
word_mask l.WordUnicode = refl
word_mask l.WordUnicodeNegate = refl
word_mask l.WordStartAscii = refl
word_mask l.WordEndAscii = refl
word_mask l.WordStartUnicode = refl
word_mask l.WordEndUnicode = refl
word_mask l.WordStartHalfAscii = refl
word_mask l.WordEndHalfAscii = refl
word_mask l.WordStartHalfUnicode = refl
word_mask l.WordEndHalfUnicode = refl

pub crlf_mask : (look : Look) → truth_of 48 look ≡ is_crlf_look look
crlf_mask l.Start = refl
crlf_mask l.End = refl
crlf_mask l.StartLF = refl
crlf_mask l.EndLF = refl
crlf_mask l.StartCRLF = refl
crlf_mask l.EndCRLF = refl
crlf_mask l.WordAscii = refl
crlf_mask l.WordAsciiNegate = refl
crlf_mask l.WordUnicode = refl
crlf_mask l.WordUnicodeNegate = refl
crlf_mask l.WordStartAscii = refl
crlf_mask l.WordEndAscii = refl
crlf_mask l.WordStartUnicode = refl
crlf_mask l.WordEndUnicode = refl
crlf_mask l.WordStartHalfAscii = refl
crlf_mask l.WordEndHalfAscii = refl
crlf_mask l.WordStartHalfUnicode = refl
crlf_mask l.WordEndHalfUnicode = refl
