-- Where no needle occurs, no match begins, by what the patterns mean and by paths.
use Rattle.std.proofs.Common.{ℕ, zero, suc, ◌≡◌, ◌+◌, ◌<◌, ◌≤◌, List, [], ◌∷◌, Option, Some, None, Bool}
use Rattle.std.proofs.Common.{length, option_map, refl, sym, ap, ap₂, ◌∙◌, subst, arith, All}
use Rattle.std.specs.Option.{option_or}
use Rattle.regex_hir.specs.Re.{Re, Trace, accept, attempt}
use Rattle.regex_hir.proofs.AttemptLemmas.{attempt_none}
use Rattle.regex_nfa.specs.declared.nfa.Nfa as kit_nfa
use Rattle.automata_base.specs.Haystacks.Matches.{HalfMatch}
use Rattle.automata_base.specs.Haystacks.Tapes.{IsHaystack, forward_tape}
use Rattle.automata_base.proofs.Answers.Alike.{path_alike, forward_alike}
use Rattle.automata_base.proofs.Answers.Backs.{end_inside}
use Rattle.meaning.specs.Agreeing.{Each, HasSameLooks, ImplementAll, IsLeastEnd}
use Rattle.meaning.specs.Patterns.{any_of}
use Rattle.meaning.specs.Translated.{joined_engine, joined_nfa, size_of}
use Rattle.meaning.proofs.Means.{either}
use Rattle.meaning.proofs.Options.{half_of}
use Rattle.meaning.proofs.Unions.{found_of, union_finds}
use Rattle.automata_base.specs.Nfas.Engines.{Engine}
use Rattle.regex_hir.specs.Matches.{Matches}
use Rattle.prefilters.specs.Needles.{HasNeedleNear, NearNeedles, NoneIsNear}
use Rattle.prefilters.specs.Skipping.{NoneBeginsAt}

all_bytes : (hay : List ℕ) → IsHaystack hay → All (λ b. b < 256) hay
all_bytes [] bytes i d l = absurd (omega (arith, l))
all_bytes (x ∷ xs) bytes zero d l = bytes 0 x refl
all_bytes (x ∷ xs) bytes (suc i) d l = all_bytes xs (λ o u e. bytes (suc o) u e) i d (omega (arith, l))

pub needles_none :
    (re : Re) (near : NearNeedles) (hay : List ℕ) (s p : ℕ) → HasNeedleNear re near → IsHaystack hay
    → NoneIsNear hay near s p → (o j : ℕ) → s ≤ o → o < p → Matches hay re o j → ⊥
needles_none re near hay s p has bytes nowhere o j l k m =
    let w = has hay (all_bytes hay bytes) o j m in
    nowhere o w.1 l k w.2.low w.3 (w.0, w.2.numbered, w.2.occurs)

-- a path over a shorter span is one over a longer one
pub none_shorter :
    (d : Engine) (h : List ℕ) (e e' o : ℕ) → o ≤ e → e ≤ e' → e' ≤ length h → NoneBeginsAt d h e' o
    → NoneBeginsAt d h e o
none_shorter d h e e' o l k w none i pattern path a =
    let n = end_inside d h o e d.anchored i pattern path l (omega (arith, k, w)) a in
    none i pattern path (
      a.0,
      path_alike d.nfa (forward_tape h o e) (forward_tape h o e') o o i
          (forward_alike h o e o e' i n (omega (arith, n, k)) (omega (arith, k, w)) w)
          0 0 [] d.anchored path i i a.0 refl refl (omega arith) a.1,
      a.2,
    )

-- the patterns find nothing where the alternation does not match
none_of : (o : Option Trace) (r : Option HalfMatch) (p : ℕ) → o ≡ None → option_or (option_map (half_of p) o) r ≡ r
none_of o r p e = ap (λ v. option_or (option_map (half_of p) v) r) e

or_none : {A : Type 0} (a b : Option A) → option_or a b ≡ None → (a ≡ None) × (b ≡ None)
or_none None b e = (refl, e)
or_none (Some x) b e = absurd (cc)

found_none :
    (ks : List kit_nfa.Nfa) (res : List Re) (hay : List ℕ) (i p : ℕ) → ImplementAll ks res
    → attempt hay (any_of res) accept i ≡ None → found_of hay (length hay) i p ks ≡ None
found_none [] [] hay i p is e = refl
found_none [] (re ∷ res) hay i p is e = absurd is
found_none (k ∷ ks) [] hay i p is e = absurd is
found_none (k ∷ ks) (re ∷ res) hay i p is e =
    let b = or_none (attempt hay re accept i) (attempt hay (any_of res) accept i) (sym (either re res hay i) ∙ e) in
    ap₂ option_or (ap (option_map (half_of p)) (is.0.0 hay i ∙ b.0)) (found_none ks res hay i (suc p) is.1 b.1)

pub meaning_none :
    (ks : List kit_nfa.Nfa) (res : List Re) (utf8 : Bool) (hay : List ℕ) (e o : ℕ)
    → ImplementAll ks res → Each (HasSameLooks hay) ks → o ≤ e → e ≤ length hay
    → ((j : ℕ) → Matches hay (any_of res) o j → ⊥) → NoneBeginsAt (joined_engine utf8 ks) hay e o
meaning_none ks res utf8 hay e o is same l w none =
    none_shorter (joined_engine utf8 ks) hay e (length hay) o l w (omega arith) whole
  where
    attempts : attempt hay (any_of res) accept o ≡ None
    attempts = attempt_none hay (any_of res) accept o (λ j m. absurd (none j m))

    at_first : o + 0 ≡ o
    at_first = omega arith

    least : IsLeastEnd (joined_nfa ks) (forward_tape hay o (length hay)) o 0 [] (size_of ks) None
    least =
        subst (λ v. IsLeastEnd (joined_nfa ks) (forward_tape hay o (length hay)) o 0 [] (size_of ks) v)
        (ap (λ v. found_of hay (length hay) v 0 ks) at_first ∙ found_none ks res hay o 0 is attempts)
        (union_finds ks hay (length hay) (omega arith) same o 0 (omega (arith, l, w)))

    whole : NoneBeginsAt (joined_engine utf8 ks) hay (length hay) o
    whole i pattern path a = least path i a.0 pattern a.1 a.2
