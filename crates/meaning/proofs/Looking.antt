-- An assertion on bytes holds where the same look of this library holds.
use Rattle.std.proofs.Common.{ℕ, zero, suc, ◌≡◌, List, Option, Some, None, Bool, true, false, not, ◌||◌, ◌&&◌, refl, ap}
use Rattle.std.proofs.Common.{ap₂, ◌∙◌, ◌-◌, ◌==◌, true≢false, arith}
use Rattle.std.proofs.lemmas.Bool.{cond-false, ne_eqb}
use Rattle.std.specs.Prelude.{slice_get}
use Rattle.ucd_perl.specs.Perl as perl
use Rattle.regex_hir.specs.Text as text
use Rattle.regex_hir.specs.Looks as kit_looks
use Rattle.regex_hir.specs.Looks.{holds_between}
use Rattle.regex_hir.specs.declared.look.Look as kit_look
use Rattle.regex_hir.specs.declared.look.Look.TheVariants as is
use Rattle.regex_nfa.specs.Sides.{is_unicode_look}
use Rattle.regex_nfa.specs.declared.nfa.Nfa as kit_nfa
use Rattle.automata_base.specs.Haystacks.Looks as our
use Rattle.automata_base.specs.Haystacks.Tapes.{byte_before}
use Rattle.meaning.specs.Translated.{look_of}
use Rattle.meaning.specs.Agreeing.{HasNoUnicodeLook, HasSameLooks}

pub before_is : (hay : List ℕ) (i : ℕ) → text.byte_before hay i ≡ byte_before hay i
unfolding text.byte_before
before_is hay zero = refl
before_is hay (suc i) =
    cond-false (suc i == 0) None (slice_get hay (suc i - 1)) (ne_eqb (suc i) 0 (λ z. omega (arith, z)))
    ∙ ap (λ j. slice_get hay j) e
  where
    e : suc i - 1 ≡ i
    e = omega arith

swap : (x u l : Bool) → (x || l) || u ≡ (x || u) || l
swap true true true = refl
swap true true false = refl
swap true false true = refl
swap true false false = refl
swap false true true = refl
swap false true false = refl
swap false false true = refl
swap false false false = refl

pub word_byte_is : (u : ℕ) → perl.is_word_byte u ≡ our.is_word_byte u
word_byte_is u = swap (our.within 48 57 u || our.within 65 90 u) (u == 95) (our.within 97 122 u)

edge_is : (o c : Option ℕ) → kit_looks.is_edge (record { byte = o; char = c }) ≡ our.is_absent o
edge_is None c = refl
edge_is (Some u) c = refl

byte_is : (b : ℕ) (o : Option ℕ) → text.is_some_and o (λ x. x == b) ≡ our.is_byte b o
byte_is b None = refl
byte_is b (Some u) = refl

word_is : (o c : Option ℕ) → kit_looks.is_ascii_word (record { byte = o; char = c }) ≡ our.is_word o
word_is None c = refl
word_is (Some u) c = word_byte_is u

differ_same : (a b : Bool) → kit_looks.differ a b ≡ our.differ a b
differ_same true b = refl
differ_same false b = refl

pub differ_is : (a b c d : Bool) → a ≡ c → b ≡ d → kit_looks.differ a b ≡ our.differ c d
differ_is a b c d e f = differ_same a b ∙ ap₂ our.differ e f

-- a look holds by the bytes on both sides
pub holds_is : (l : kit_look.Look) (a b c d : Option ℕ) → is_unicode_look l ≡ false →
    holds_between l (record { byte = a; char = c }) (record { byte = b; char = d }) ≡ our.holds 10 false (look_of l) a b
unfolding holds_between
holds_is is.Start a b c d h = edge_is a c
holds_is is.End a b c d h = edge_is b d
holds_is is.StartLf a b c d h = ap₂ ◌||◌ (edge_is a c) (byte_is 10 a)
holds_is is.EndLf a b c d h = ap₂ ◌||◌ (edge_is b d) (byte_is 10 b)
holds_is is.StartCrlf a b c d h =
    ap₂ ◌||◌ (ap₂ ◌||◌ (edge_is a c) (byte_is 10 a)) (ap₂ (λ x y. x && not y) (byte_is 13 a) (byte_is 10 b))
holds_is is.EndCrlf a b c d h =
    ap₂ ◌||◌ (ap₂ ◌||◌ (edge_is b d) (byte_is 13 b)) (ap₂ (λ x y. x && not y) (byte_is 10 b) (byte_is 13 a))
holds_is is.WordAscii a b c d h = differ_is _ _ _ _ (word_is a c) (word_is b d)
holds_is is.WordAsciiNegate a b c d h = ap not (differ_is _ _ _ _ (word_is a c) (word_is b d))
holds_is is.WordUnicode a b c d h = absurd (true≢false h)
holds_is is.WordUnicodeNegate a b c d h = absurd (true≢false h)
holds_is is.WordStartAscii a b c d h = ap₂ (λ x y. not x && y) (word_is a c) (word_is b d)
holds_is is.WordEndAscii a b c d h = ap₂ (λ x y. x && not y) (word_is a c) (word_is b d)
holds_is is.WordStartUnicode a b c d h = absurd (true≢false h)
holds_is is.WordEndUnicode a b c d h = absurd (true≢false h)
holds_is is.WordStartHalfAscii a b c d h = ap not (word_is a c)
holds_is is.WordEndHalfAscii a b c d h = ap not (word_is b d)
holds_is is.WordStartHalfUnicode a b c d h = absurd (true≢false h)
holds_is is.WordEndHalfUnicode a b c d h = absurd (true≢false h)

-- a look holds at an offset of a haystack
pub looks_agree : (l : kit_look.Look) (hay : List ℕ) (i : ℕ) → is_unicode_look l ≡ false →
    kit_looks.holds l hay i ≡ our.holds 10 false (look_of l) (byte_before hay i) (slice_get hay i)
unfolding kit_looks.holds
looks_agree l hay i h =
    holds_is l (text.byte_before hay i) (slice_get hay i) (text.char_before hay i) (text.char_at hay i) h
    ∙ ap (λ b. our.holds 10 false (look_of l) b (slice_get hay i)) (before_is hay i)

pub same_looks : (k : kit_nfa.Nfa) (hay : List ℕ) → HasNoUnicodeLook k → HasSameLooks hay k
same_looks k hay none q r l is i inside = looks_agree l hay i (none q r l is)
