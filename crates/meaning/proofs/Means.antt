-- A search over the joined NFA finds what the alternation of the patterns means.
use Rattle.std.proofs.Common.{ℕ, suc, ◌≡◌, ◌+◌, ◌≤◌, List, [], ◌∷◌, Option, Some, None, Bool, true, false, IsUtf8}
use Rattle.std.proofs.Common.{length, option_map, refl, sym, ap, ap₂, ◌∙◌, subst, arith}
use Rattle.std.specs.Prelude.{cond, is_some, slice_get, if◌then◌else◌}
use Rattle.std.specs.Option.{option_or}
use Rattle.regex_class.specs.Ranges.{in_ranges}
use Rattle.regex_hir.specs.Re.{Re, Trace, accept, attempt, byte_in}
use Rattle.regex_hir.specs.Find.{find, find_str}
use Rattle.regex_hir.specs.Text.{is_some_and}
use Rattle.regex_hir.proofs.OptionLemmas.{option_or-None}
use Rattle.regex_nfa.specs.declared.nfa.Nfa as kit_nfa
use Rattle.automata_base.specs.Answers.Spans.{IsSpan}
use Rattle.automata_base.specs.Haystacks.Matches.{HalfMatch}
use Rattle.automata_base.specs.Haystacks.Tapes.{IsHaystack, forward_tape}
use Rattle.automata_base.specs.declared.util.search.Direction.TheVariants.{Forward}
use Rattle.automata_base.specs.Answers.TruePairs.{KeepsUtf8}
use Rattle.automata_base.specs.Paths.Paths.{IsPathFrom}
use Rattle.automata_base.proofs.Answers.Bytes.{forward_length}
use Rattle.automata_base.proofs.Paths.Searches.{path_inside}
use Rattle.meaning.specs.Translated.{joined_engine, joined_nfa, size_of, starts_of}
use Rattle.meaning.specs.Agreeing.{Each, HasSameLooks, ImplementAll, IsLeastEnd}
use Rattle.meaning.specs.Patterns.{any_of, find_any, first_at, numbered_match, span_input}
use Rattle.meaning.proofs.Options.{half_of}
use Rattle.meaning.proofs.Unions.{found_of, union_finds, union_is}
use Rattle.meaning.proofs.Loops.{loops_lazily}
use Rattle.meaning.proofs.Spanning.{bytes_span, text_span}
use Rattle.meaning.proofs.Texts.{empty_start, whole_match}

-- no byte is in an empty list of ranges
nowhere : (hay : List ℕ) (i : ℕ) (o : Option ℕ) → (if is_some_and o (in_ranges []) then accept (i + 1) else None) ≡ None
unfolding in_ranges
nowhere hay i None = refl
nowhere hay i (Some u) = refl

pub nothing : (hay : List ℕ) (i : ℕ) → attempt hay (byte_in []) accept i ≡ None
unfolding attempt
nothing hay i = nowhere hay i (slice_get hay i)

-- an alternation matches as its first pattern does, or else as the others do
pub either : (re : Re) (res : List Re) (hay : List ℕ) (i : ℕ) →
    attempt hay (any_of (re ∷ res)) accept i ≡ option_or (attempt hay re accept i) (attempt hay (any_of res) accept i)
unfolding attempt
either re [] hay i =
    sym (ap (option_or (attempt hay re accept i)) (nothing hay i) ∙ option_or-None (attempt hay re accept i))
either re (next ∷ res) hay i = refl

-- the number of the pattern that matches
numbers : (a b : Option Trace) (p later : ℕ) →
    option_or (option_map (half_of p) a) (option_map (half_of (suc p + later)) b)
    ≡ option_map (half_of (p + cond (is_some a) 0 (suc later))) (option_or a b)
numbers None b p later = ap (λ v. option_map (half_of v) b) (omega arith)
numbers (Some trace) b p later = ap (λ v. Some (half_of v trace)) (omega arith)

found_is : (ks : List kit_nfa.Nfa) (res : List Re) (hay : List ℕ) (i p : ℕ) → ImplementAll ks res →
    found_of hay (length hay) i p ks ≡ option_map (half_of (p + first_at res hay i)) (attempt hay (any_of res) accept i)
found_is [] [] hay i p is = sym (ap (option_map (half_of (p + 0))) (nothing hay i))
found_is [] (re ∷ res) hay i p is = absurd is
found_is (k ∷ ks) [] hay i p is = absurd is
found_is (k ∷ ks) (re ∷ res) hay i p is =
    ap₂ option_or (ap (option_map (half_of p)) (is.0.0 hay i)) (found_is ks res hay i (suc p) is.1)
    ∙ numbers (attempt hay re accept i) (attempt hay (any_of res) accept i) p (first_at res hay i)
    ∙ ap (option_map (half_of (p + first_at (re ∷ res) hay i))) (sym (either re res hay i))

module _ (ks : List kit_nfa.Nfa) (res : List Re) (is : ImplementAll ks res) (hay : List ℕ)
    (same : Each (HasSameLooks hay) ks) where
  finds : (s place : ℕ) → s + place ≤ length hay →
      IsLeastEnd (joined_nfa ks) (forward_tape hay s (length hay)) s place [] (size_of ks)
      (option_map (half_of (first_at res hay (s + place))) (attempt hay (any_of res) accept (s + place)))
  finds s place inside =
      subst (λ o. IsLeastEnd (joined_nfa ks) (forward_tape hay s (length hay)) s place [] (size_of ks) o)
      (found_is ks res hay (s + place) 0 is
      ∙ ap (λ v. option_map (half_of v) (attempt hay (any_of res) accept (s + place))) (omega arith))
      (union_finds ks hay (length hay) (omega arith) same s place inside)

  -- the span over bytes
  pub bytes_mean : IsHaystack hay → (s : ℕ) →
      IsSpan (joined_engine false ks) (span_input hay s (length hay))
      (option_map (numbered_match res hay) (find (any_of res) hay s))
  unfolding find
  bytes_mean bytes s =
      bytes_span (joined_nfa ks) (size_of ks) (size_of ks + 1) (size_of ks + 2) (starts_of 0 ks) false (loops_lazily ks)
      hay (length hay)
      (omega arith) bytes (attempt hay (any_of res) accept) (first_at res hay) finds s refl

  -- the start of a match, by the least path there
  here : (i : ℕ) (trace : Trace) → i ≤ length hay → attempt hay (any_of res) accept i ≡ Some trace →
      IsLeastEnd (joined_nfa ks) (forward_tape hay i (length hay)) i 0 [] (size_of ks)
      (Some (half_of (first_at res hay i) trace))
  here i trace inside e =
      subst (λ o. IsLeastEnd (joined_nfa ks) (forward_tape hay i (length hay)) i 0 [] (size_of ks)
      (option_map (half_of (first_at res hay i)) o)) e
      (subst (λ v. IsLeastEnd (joined_nfa ks) (forward_tape hay i (length hay)) i 0 [] (size_of ks)
      (option_map (half_of (first_at res hay v)) (attempt hay (any_of res) accept v))) at_first
      (finds i 0 (omega (arith, inside))))
    where
      at_first : i + 0 ≡ i
      at_first = omega arith

  ends_inside : (i : ℕ) (half : HalfMatch) → i ≤ length hay →
      IsLeastEnd (joined_nfa ks) (forward_tape hay i (length hay)) i 0 [] (size_of ks) (Some half)
      → half.offset ≤ length hay
  ends_inside i half inside own =
      let l =
      path_inside (joined_nfa ks) (forward_tape hay i (length hay)) 0 [] (size_of ks) own.path own.place own.state
      (omega arith) own.is_path in
      let count = forward_length hay i (length hay) inside (omega arith) in
      let e = own.ends in
      omega (arith, l, count, e, inside)

  -- the span over text, under the UTF-8 promise
  text_means : IsHaystack hay → IsUtf8 hay → KeepsUtf8 Forward (joined_engine true ks) → (s : ℕ) →
      IsSpan (joined_engine true ks) (span_input hay s (length hay))
      (option_map (numbered_match res hay) (find_str (any_of res) hay s))
  unfolding find_str
  text_means bytes text keeps s =
      text_span (joined_nfa ks) (size_of ks) (size_of ks + 1) (size_of ks + 2) (starts_of 0 ks) true (loops_lazily ks)
      hay (length hay)
      (omega arith) bytes (attempt hay (any_of res) accept) (first_at res hay) finds
      (λ i trace inside e.
      let own = here i trace inside e in
      whole_match (joined_engine true ks) keeps refl hay bytes text i (half_of (first_at res hay i) trace) inside own
      (ends_inside i _ inside own))
      (λ i trace inside e empty.
      let own = here i trace inside e in
      let still : own.place ≡ 0 = let f = own.ends in omega (arith, f, empty) in (
        refl,
        empty_start (joined_nfa ks) (forward_tape hay i (length hay)) 0 (size_of ks) (starts_of 0 ks) (union_is ks)
            own.path own.state
            (first_at res hay i)
            (subst (λ v. IsPathFrom (joined_nfa ks) (forward_tape hay i (length hay)) 0 [] (size_of ks) own.path v
            own.state) still own.is_path) own.accepted,
      ))
      s

  -- The span of a search over the rest of a haystack is the leftmost match that the alternation means.
  pub any_means :
      (utf8 : Bool) → IsHaystack hay → (utf8 ≡ true → IsUtf8 hay) → KeepsUtf8 Forward (joined_engine utf8 ks) → (s : ℕ)
      →
      IsSpan (joined_engine utf8 ks) (span_input hay s (length hay))
      (option_map (numbered_match res hay) (find_any utf8 res hay s))
  any_means true bytes text keeps s = text_means bytes (text refl) keeps s
  any_means false bytes text keeps s = bytes_mean bytes s
