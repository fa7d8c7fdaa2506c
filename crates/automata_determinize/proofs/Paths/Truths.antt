-- A powerset state and the next unit decide each look as it holds.
use Rattle.std.proofs.Common.{ℕ, ◌≡◌, Bool, true, false, not, ◌&&◌, ◌||◌, List, [], ◌⊎◌, Option, inl, inr, refl, sym}
use Rattle.std.proofs.Common.{ap, ◌∙◌, subst, ⊎_elim, true≢false}
use Rattle.automata_base.specs.Lists.{In}
use Rattle.automata_base.specs.declared.util.look.Look.{Look}
use Rattle.automata_base.specs.declared.util.look.Look.TheVariants.{Start, End, StartLF, EndLF, StartCRLF, EndCRLF}
use Rattle.automata_base.specs.declared.util.look.Look.TheVariants.{WordAscii}
use Rattle.automata_base.specs.declared.util.look.Look.TheVariants.{WordAsciiNegate, WordUnicode, WordUnicodeNegate}
use Rattle.automata_base.specs.declared.util.look.Look.TheVariants.{WordStartAscii}
use Rattle.automata_base.specs.declared.util.look.Look.TheVariants.{WordEndAscii, WordStartUnicode, WordEndUnicode}
use Rattle.automata_base.specs.declared.util.look.Look.TheVariants.{WordStartHalfAscii}
use Rattle.automata_base.specs.declared.util.look.Look.TheVariants.{WordEndHalfAscii, WordStartHalfUnicode}
use Rattle.automata_base.specs.declared.util.look.Look.TheVariants.{WordEndHalfUnicode}
use Rattle.automata_base.specs.Haystacks.Looks.{holds}
use Rattle.automata_base.specs.Haystacks.Looks.{is_absent, is_byte, is_word, differ, first_half, second_half}
use Rattle.automata_base.specs.Nfas.Nfa.{Nfa}
use Rattle.automata_determinize.specs.Powersets.Passes.{IsUnit, IsNeeded, IsMake, decided}
use Rattle.automata_base.specs.Powersets.Passes.{Occurs, is_word_look, is_crlf_look}
use Rattle.automata_determinize.specs.Powersets.Passes.{true_looks}
use Rattle.automata_base.specs.Powersets.Powerset.{Powerset}
use Rattle.automata_base.specs.Haystacks.LookSets.{truth_of}
use Rattle.std.proofs.lemmas.Bool.{or_cases}
use Rattle.automata_base.proofs.Paths.Truths.{bool_iff, or_left, or_right}

-- A test that was known or is decided now.
known_or :
    (k x h : Bool) → (k ≡ true → h ≡ true) → (x ≡ true → h ≡ true) → (h ≡ true → (k ≡ true) ⊎ (x ≡ true)) → k || x ≡ h
known_or k x h f g b =
    bool_iff (k || x) h (λ e. ⊎_elim f g (or_cases k x e))
    (λ e. ⊎_elim (λ (w : k ≡ true). or_left k x w) (λ (w : x ≡ true). or_right k x w) (b e))

abbrev pub Shows : Nfa → Powerset → Option ℕ → Option ℕ → Look → Type 0
Shows n Q prev u look = true_looks n Q u look ≡ holds n.terminator n.reverse look prev u

-- If a look is needed, the looks that occur are decided as they hold.
pub truths :
    (n : Nfa) (patterns C : List ℕ) (prev : Option ℕ) (Q : Powerset) (u : Option ℕ) (look : Look)
    → IsMake n patterns C prev Q → (other : Look) × IsNeeded n Q.nfa other → Occurs n look → IsUnit u
    → Shows n Q prev u look
truths n patterns C prev Q u look make need occurs unit = go look occurs
  where
    t : ℕ
    t = n.terminator

    r : Bool
    r = n.reverse

    not_empty : (q : ℕ) (xs : List ℕ) → In q xs → xs ≡ [] → ⊥
    not_empty q xs i e = subst (λ v. In q v) e i

    full : Q.nfa ≡ [] → ⊥
    full = not_empty need.1.0 Q.nfa need.1.2

    word_is : (look : Look) × Occurs n look × (is_word_look look ≡ true) → Q.word ≡ is_word prev
    word_is h = bool_iff Q.word (is_word prev) (λ e. (make.word.0 e).2) (λ e. make.word.1 (full, h, e))

    half_is : (look : Look) × Occurs n look × (is_crlf_look look ≡ true) → Q.half ≡ is_byte (first_half r) prev
    half_is h = bool_iff Q.half (is_byte (first_half r) prev) (λ e. (make.half.0 e).2) (λ e. make.half.1 (full, h, e))

    known : (look : Look) → truth_of Q.known look ≡ true → holds t r look prev u ≡ true
    known look e = ((make.known look).0 e).1.1 u unit

    knows :
        (look : Look) → Occurs n look → ((next : Option ℕ) → holds t r look prev next ≡ true)
        → truth_of Q.known look ≡ true
    knows look o f = (make.known look).1 (need, (o, λ next i. f next))

    exact : (look : Look) → decided t r Q.word Q.half look u ≡ holds t r look prev u → Shows n Q prev u look
    exact look e =
        known_or (truth_of Q.known look) (decided t r Q.word Q.half look u) (holds t r look prev u) (known look)
        (λ x. sym e ∙ x) (λ h. inr (e ∙ h))

    only_before :
        (look : Look) → decided t r Q.word Q.half look u ≡ false
        → (holds t r look prev u ≡ true → truth_of Q.known look ≡ true) → Shows n Q prev u look
    only_before look e f =
        known_or (truth_of Q.known look) (decided t r Q.word Q.half look u) (holds t r look prev u) (known look)
        (λ x. absurd (true≢false (sym x ∙ e))) (λ h. inl (f h))

    go : (look : Look) → Occurs n look → Shows n Q prev u look
    go Start o = only_before Start refl (λ h. knows Start o (λ next. h))
    go End o = exact End refl
    go StartLF o = only_before StartLF refl (λ h. knows StartLF o (λ next. h))
    go EndLF o = exact EndLF refl
    go StartCRLF o =
        known_or (truth_of Q.known StartCRLF) (Q.half && not (is_byte (second_half r) u)) (holds t r StartCRLF prev u)
        (known StartCRLF)
        (λ x. or_right (is_absent prev || is_byte (second_half r) prev)
        (is_byte (first_half r) prev && not (is_byte (second_half r) u))
        (sym halves ∙ x))
        (λ h. ⊎_elim
        (λ (b : is_absent prev || is_byte (second_half r) prev ≡ true).
        inl (knows StartCRLF o
        (λ next. or_left (is_absent prev || is_byte (second_half r) prev)
        (is_byte (first_half r) prev && not (is_byte (second_half r) next)) b)))
        (λ (b : is_byte (first_half r) prev && not (is_byte (second_half r) u) ≡ true). inr (halves ∙ b))
        (or_cases (is_absent prev || is_byte (second_half r) prev)
        (is_byte (first_half r) prev && not (is_byte (second_half r) u)) h))
      where
        halves :
            Q.half && not (is_byte (second_half r) u) ≡ is_byte (first_half r) prev && not (is_byte (second_half r) u)
        halves = ap (λ v. v && not (is_byte (second_half r) u)) (half_is (StartCRLF, o, refl))
    go EndCRLF o =
        exact EndCRLF
        (ap (λ v. is_absent u || is_byte (first_half r) u || (is_byte (second_half r) u && not v))
        (half_is (EndCRLF, o, refl)))
    go WordAscii o = exact WordAscii (ap (λ v. differ v (is_word u)) (word_is (WordAscii, o, refl)))
    go WordAsciiNegate o =
        exact WordAsciiNegate (ap (λ v. not (differ v (is_word u))) (word_is (WordAsciiNegate, o, refl)))
    go WordUnicode o = exact WordUnicode (ap (λ v. differ v (is_word u)) (word_is (WordUnicode, o, refl)))
    go WordUnicodeNegate o =
        exact WordUnicodeNegate (ap (λ v. not (differ v (is_word u))) (word_is (WordUnicodeNegate, o, refl)))
    go WordStartAscii o = exact WordStartAscii (ap (λ v. not v && is_word u) (word_is (WordStartAscii, o, refl)))
    go WordEndAscii o = exact WordEndAscii (ap (λ v. v && not (is_word u)) (word_is (WordEndAscii, o, refl)))
    go WordStartUnicode o = exact WordStartUnicode (ap (λ v. not v && is_word u) (word_is (WordStartUnicode, o, refl)))
    go WordEndUnicode o = exact WordEndUnicode (ap (λ v. v && not (is_word u)) (word_is (WordEndUnicode, o, refl)))
    go WordStartHalfAscii o = exact WordStartHalfAscii (ap (λ v. not v) (word_is (WordStartHalfAscii, o, refl)))
    go WordEndHalfAscii o = exact WordEndHalfAscii refl
    go WordStartHalfUnicode o = exact WordStartHalfUnicode (ap (λ v. not v) (word_is (WordStartHalfUnicode, o, refl)))
    go WordEndHalfUnicode o = exact WordEndHalfUnicode refl
