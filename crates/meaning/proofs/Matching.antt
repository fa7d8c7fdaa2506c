-- Whether there is a match, in an earliest search too, and by the textbook relation.
use Rattle.std.proofs.Common.{ℕ, ◌≡◌, ◌+◌, ◌≤◌, ◌⊎◌, List, Option, Some, None, Bool, false, is_some, length, refl, sym}
use Rattle.std.proofs.Common.{◌∙◌, subst, inl, inr, arith, true≢false}
use Rattle.std.specs.Prelude.{IsTrue, ◌↔◌}
use Rattle.regex_hir.specs.Re.{Re}
use Rattle.regex_hir.specs.Find as kit_find
use Rattle.regex_hir.specs.Find.{find}
use Rattle.regex_hir.proofs.FindLemmas.{IsFirst-of_first_between, find_complete, find_sound}
use Rattle.regex_hir.proofs.OptionLemmas.{option_cases}
use Rattle.regex_nfa.specs.declared.nfa.Nfa as kit_nfa
use Rattle.automata_base.specs.Answers.Answers.{Half, IsAnswer, SpanIsDone, SpanReportsNone, StopsAtSplit}
use Rattle.automata_base.specs.Answers.Spans.{IsSpan}
use Rattle.automata_base.specs.Haystacks.Input.{Input}
use Rattle.automata_base.specs.Haystacks.Matches.{Match}
use Rattle.automata_base.specs.Haystacks.Tapes.{IsHaystack, forward_tape}
use Rattle.automata_base.specs.declared.util.search.Direction.TheVariants.{Forward}
use Rattle.automata_base.specs.Nfas.Engines.{Engine, IsSkipping}
use Rattle.automata_base.specs.Paths.Selections.{Accepts}
use Rattle.automata_base.proofs.Answers.Tried.{ComesTo}
use Rattle.automata_base.proofs.Answers.Tried.{tries_once}
use Rattle.meaning.specs.Agreeing.{Each, HasSameLooks, ImplementAll}
use Rattle.meaning.specs.Patterns.{any_of, HasPart, numbered_match, span_input}
use Rattle.meaning.specs.Translated.{joined_engine}
use Rattle.meaning.proofs.Means.{bytes_mean}
use Rattle.meaning.proofs.Options.{some_map}

module _ (d : Engine) (all : IsSkipping d → ⊥) (hay : List ℕ) (s stop : ℕ) (inside : s ≤ stop) where
  -- the same span, for a search that may stop at its first match
  abbrev pub over : Bool → Input
  over e = record (span_input hay s stop) { earliest = e }

  once : (e : Bool) (k : ℕ) → ComesTo Forward d (over e) k → s + k ≡ s
  once e k tries =
      let first : k ≡ 0 = tries_once (IsSkipping d) (over e) k (λ skips free. all skips) tries.comes in
      omega (arith, first)

  accepts_none : (e : Bool) → IsAnswer Forward d (over e) None → (i pattern : ℕ) (path : List ℕ) →
      Accepts d.nfa (forward_tape hay s stop) d.unanchored i pattern path → ⊥
  accepts_none e (k, tries, SpanIsDone l) i pattern path h = let z = once e k tries in omega (arith, l, z, inside)
  accepts_none e (k, tries, SpanReportsNone w) i pattern path h =
      w i pattern path
      (subst (λ v. Accepts d.nfa (forward_tape hay v stop) d.unanchored i pattern path) (sym (once e k tries)) h)
  accepts_none e (k, tries, StopsAtSplit skips anchored w) i pattern path h = all skips

  accepts_some : (e : Bool) (half : Half) → IsAnswer Forward d (over e) (Some half) →
      (i pattern : ℕ) × (path : List ℕ) × Accepts d.nfa (forward_tape hay s stop) d.unanchored i pattern path
  accepts_some e half a = (
    a.2.pair.place,
    a.2.pair.pattern,
    a.2.reported.0,
    subst (λ v. Accepts d.nfa (forward_tape hay v stop) d.unanchored a.2.pair.place a.2.pair.pattern a.2.reported.0)
        (once e a.0 a.1) a.2.reported.1,
  )

  -- earliest or not, all searches agree on whether there is a match
  same_truth :
      (e f : Bool) (o p : Option Half) → IsAnswer Forward d (over e) o → IsAnswer Forward d (over f) p
      → is_some o ≡ is_some p
  same_truth e f None None a b = refl
  same_truth e f None (Some half) a b = let w = accepts_some f half b in absurd (accepts_none e a w.0 w.1 w.2 w.3)
  same_truth e f (Some half) None a b = let w = accepts_some e half a in absurd (accepts_none f b w.0 w.1 w.2 w.3)
  same_truth e f (Some half) (Some other) a b = refl

  -- so an answer decides whether there is a span
  pub answer_tells : (e : Bool) (o : Option Half) → IsAnswer Forward d (over e) o → (m : Option Match) →
      IsSpan d (span_input hay s stop) m → is_some o ≡ is_some m
  answer_tells e o a None h = same_truth e false o None a h
  answer_tells e o a (Some m) h = same_truth e false o (Some h.half) a h.answer

begins : (re : Re) (hay : List ℕ) (start : ℕ) (m : kit_find.Match) → find re hay start ≡ Some m → m.start ≤ length hay
unfolding find
begins re hay start m e = (IsFirst-of_first_between _ start (length hay) m e).to

-- a match is found exactly if some part of the haystack is a match
pub part_is :
    (res : List Re) (hay : List ℕ) (truth : Bool) → truth ≡ is_some (find (any_of res) hay 0)
    → IsTrue truth ↔ HasPart res hay
part_is res hay truth e = (
  λ t. there (option_cases (find (any_of res) hay 0)) t,
  λ h. e ∙ find_complete (any_of res) hay 0 h.0 h.1 (omega arith) h.2 h.3,
) where
  there :
      (find (any_of res) hay 0 ≡ None) ⊎ ((m : kit_find.Match) × (find (any_of res) hay 0 ≡ Some m)) → IsTrue truth
      → HasPart res hay
  there (inl none) t = absurd (cc)
  there (inr (m, found)) t =
      let w = find_sound (any_of res) hay 0 m found in
      (m.start, m.trace.end, begins (any_of res) hay 0 m found, w.1)

-- So a search over bytes, earliest or not, decides whether some part of the haystack is a match.
pub part_of_answer :
    (ks : List kit_nfa.Nfa) (res : List Re) → ImplementAll ks res → (hay : List ℕ) → Each (HasSameLooks hay) ks →
    IsHaystack hay → (e : Bool) (o : Option Half) →
    IsAnswer Forward (joined_engine false ks) (record (span_input hay 0 (length hay)) { earliest = e }) o →
    (truth : Bool) → truth ≡ is_some o → IsTrue truth ↔ HasPart res hay
part_of_answer ks res is hay same bytes e o a truth t =
    part_is res hay truth
    (t
    ∙ answer_tells (joined_engine false ks) (λ h. true≢false (sym h.0)) hay 0 (length hay) (omega arith) e o a _
    (bytes_mean ks res is hay same bytes 0)
    ∙ some_map (numbered_match res hay) (find (any_of res) hay 0))
