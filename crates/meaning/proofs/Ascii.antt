-- On a haystack of ASCII bytes every look holds where the same look of this library holds.
use Rattle.std.proofs.Common.{ℕ, zero, suc, ◌≤◌, All, length, get_or, arith, ⊎_elim, subst, ◌≡◌, ◌<◌, List, Option}
use Rattle.std.proofs.Common.{Some, None, true, false, not, ◌&&◌, refl, sym, ap, ap₂, ◌∙◌}
use Rattle.std.specs.Prelude.{slice_get}
use Rattle.std.proofs.lemmas.Bool.{cases_lt}
use Rattle.std.proofs.lemmas.Option.{slice_get-get_or, slice_get_past}
use Rattle.ucd_perl.proofs.PerlLemmas.{is_word_char-ascii}
use Rattle.regex_hir.specs.Text as text
use Rattle.regex_hir.specs.Looks as kit_looks
use Rattle.regex_hir.proofs.TextLemmas.{char_at_ascii, char_at_past, char_before_ascii, char_before-zero}
use Rattle.regex_hir.specs.Looks.{holds_between}
use Rattle.regex_hir.specs.declared.look.Look as kit_look
use Rattle.regex_hir.specs.declared.look.Look.TheVariants as is
use Rattle.regex_nfa.specs.declared.nfa.Nfa as kit_nfa
use Rattle.automata_base.specs.Haystacks.Looks as our
use Rattle.automata_base.specs.Haystacks.Tapes.{byte_before}
use Rattle.meaning.specs.Translated.{look_of}
use Rattle.meaning.specs.Agreeing.{HasSameLooks}
use Rattle.meaning.proofs.Looking.{holds_is, word_byte_is, differ_is, before_is}

-- a side is missing, or is an ASCII byte, which is its own character
abbrev pub IsAsciiSide : Option ℕ → Type 0
IsAsciiSide None = Unit {0}
IsAsciiSide (Some u) = u < 128

abbrev side : Option ℕ → kit_looks.Side
side a = record { byte = a; char = a }

word_is : (a : Option ℕ) → IsAsciiSide a → kit_looks.is_word (side a) ≡ our.is_word a
word_is None h = refl
word_is (Some u) h = is_word_char-ascii u h ∙ word_byte_is u

whole : (a : Option ℕ) → kit_looks.is_whole (side a) ≡ true
whole None = refl
whole (Some u) = refl

pub holds_ascii : (l : kit_look.Look) (a b : Option ℕ) → IsAsciiSide a → IsAsciiSide b →
    holds_between l (side a) (side b) ≡ our.holds 10 false (look_of l) a b
unfolding holds_between
holds_ascii is.Start a b x y = holds_is is.Start a b a b refl
holds_ascii is.End a b x y = holds_is is.End a b a b refl
holds_ascii is.StartLf a b x y = holds_is is.StartLf a b a b refl
holds_ascii is.EndLf a b x y = holds_is is.EndLf a b a b refl
holds_ascii is.StartCrlf a b x y = holds_is is.StartCrlf a b a b refl
holds_ascii is.EndCrlf a b x y = holds_is is.EndCrlf a b a b refl
holds_ascii is.WordAscii a b x y = holds_is is.WordAscii a b a b refl
holds_ascii is.WordAsciiNegate a b x y = holds_is is.WordAsciiNegate a b a b refl
holds_ascii is.WordUnicode a b x y = differ_is _ _ _ _ (word_is a x) (word_is b y)
holds_ascii is.WordUnicodeNegate a b x y =
    ap₂ (λ v w. v && w && not (kit_looks.differ (kit_looks.is_word (side a)) (kit_looks.is_word (side b)))) (whole a)
    (whole b)
    ∙ ap not (differ_is _ _ _ _ (word_is a x) (word_is b y))
holds_ascii is.WordStartAscii a b x y = holds_is is.WordStartAscii a b a b refl
holds_ascii is.WordEndAscii a b x y = holds_is is.WordEndAscii a b a b refl
holds_ascii is.WordStartUnicode a b x y = ap₂ (λ v w. not v && w) (word_is a x) (word_is b y)
holds_ascii is.WordEndUnicode a b x y = ap₂ (λ v w. v && not w) (word_is a x) (word_is b y)
holds_ascii is.WordStartHalfAscii a b x y = holds_is is.WordStartHalfAscii a b a b refl
holds_ascii is.WordEndHalfAscii a b x y = holds_is is.WordEndHalfAscii a b a b refl
holds_ascii is.WordStartHalfUnicode a b x y = ap₂ (λ v w. v && not w) (whole a) (word_is a x)
holds_ascii is.WordEndHalfUnicode a b x y = ap₂ (λ v w. v && not w) (whole b) (word_is b y)

module _ (hay : List ℕ) (ascii : All (λ b. b < 128) hay) where
  -- an offset inside has an ASCII byte, which is its own character
  inside : (i : ℕ) → i < length hay → (slice_get hay i ≡ Some (get_or hay i 0)) × (get_or hay i 0 < 128)
  inside i l = (slice_get-get_or hay i 0 l, ascii i 0 l)

  after : (i : ℕ) → (text.char_at hay i ≡ slice_get hay i) × IsAsciiSide (slice_get hay i)
  after i = ⊎_elim
      (λ (l : i < length hay). let w = inside i l in
      (char_at_ascii hay i (get_or hay i 0) w.0 w.1 ∙ sym w.0, subst IsAsciiSide (sym w.0) w.1))
      (λ (l : length hay ≤ i). let w = slice_get_past hay i l in
      (char_at_past hay i l ∙ sym w, subst IsAsciiSide (sym w) tt))
      (cases_lt i (length hay))

  before : (i : ℕ) → i ≤ length hay → (text.char_before hay i ≡ byte_before hay i) × IsAsciiSide (byte_before hay i)
  before zero l = (char_before-zero hay, tt)
  before (suc i) l =
      let small : i < length hay = omega (arith, l) in
      let w = inside i small in (
        char_before_ascii hay (suc i) (get_or hay i 0) (before_is hay (suc i) ∙ w.0) w.1
            ∙ sym w.0,
        subst IsAsciiSide (sym w.0) w.1,
      )

  looks_agree_ascii : (l : kit_look.Look) (i : ℕ) → i ≤ length hay →
      kit_looks.holds l hay i ≡ our.holds 10 false (look_of l) (byte_before hay i) (slice_get hay i)
  unfolding kit_looks.holds
  looks_agree_ascii l i h =
      let a = after i in
      let b = before i h in
      ap₂ (λ v w. holds_between l (record { byte = v; char = w })
      (record { byte = slice_get hay i; char = text.char_at hay i }))
      (before_is hay i) b.0
      ∙ ap (λ v. holds_between l (side (byte_before hay i)) (record { byte = slice_get hay i; char = v })) a.0
      ∙ holds_ascii l (byte_before hay i) (slice_get hay i) b.1 a.1

  -- so, with all 18 looks, what is proved about searches holds over ASCII text
  pub same_looks_ascii : (k : kit_nfa.Nfa) → HasSameLooks hay k
  same_looks_ascii k q r l is i h = looks_agree_ascii l i h
