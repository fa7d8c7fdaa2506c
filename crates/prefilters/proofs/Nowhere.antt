-- Spans in which no match begins.
use Rattle.std.proofs.Common.{ℕ, suc, ◌≡◌, ◌≤◌, ◌+◌, ◌-◌, List, [], None, false, length}
use Rattle.std.proofs.Common.{refl, sym, subst, arith}
use Rattle.automata_base.proofs.Paths.Places.{path_grows}
use Rattle.automata_base.specs.Paths.Selections.{Accepts}
use Rattle.automata_base.specs.Haystacks.Tapes.{forward_tape}
use Rattle.automata_base.specs.Haystacks.Input.{Input}
use Rattle.automata_base.specs.declared.util.search.Direction.TheVariants.{Forward}
use Rattle.automata_base.specs.declared.util.search.Anchored.TheVariants.{No, Yes}
use Rattle.automata_base.specs.Nfas.Engines.{Engine, IsSkipping, first_state}
use Rattle.automata_base.specs.Answers.Answers.{IsAnswer, IsFirstSpan, SelectsFrom}
use Rattle.automata_base.specs.Answers.Answers.{SpanIsDone, SpanReportsNone, StopsAtSplit}
use Rattle.automata_base.specs.Answers.Spans.{IsSpan}
use Rattle.automata_base.proofs.Answers.Tried.{tries_once}
use Rattle.automata_base.proofs.Answers.Backs.{end_inside}
use Rattle.automata_base.proofs.Answers.Chosen.{StartsAt, starts_at}
use Rattle.prefilters.specs.Skipping.{IsLazy, MaySkipAll, NoneBegins, NoneBeginsAt}
use Rattle.prefilters.proofs.Moving.{path_over}

pub yes_no : Yes ≡ No → ⊥
yes_no e = absurd (cc)

-- no unanchored path accepts
none_accepts :
    (d : Engine) (h : List ℕ) (s s' e : ℕ) → IsLazy d → e ≤ length h → s ≤ e → s' ≡ s → NoneBegins d h e s (suc e)
    → (i pattern : ℕ) (path : List ℕ) → Accepts d.nfa (forward_tape h s' e) d.unanchored i pattern path → ⊥
none_accepts d h s s' e loops w l same none i pattern path c =
    go (starts_at d loops.0 (forward_tape h s' e) i pattern path loops.1 c)
  where
    inside : s' + i ≤ e
    inside = end_inside d h s' e d.unanchored i pattern path (omega (arith, l, same)) w c

    go : (k : ℕ) × (rest : List ℕ) × StartsAt d (forward_tape h s' e) k i pattern path rest → ⊥
    go (k, rest, st) =
        let grows = path_grows d.nfa (forward_tape h s' e) k [] d.anchored rest i st.1.0 st.1.1 in
        none (s + k) (omega arith) (omega (arith, grows, inside, same)) (i - k) pattern rest (
          st.1.0,
          path_over d h s' (s + k) e k i 0 (i - k) d.anchored st.1.0 rest w (omega (arith, same))
              (omega (arith, grows, same)) inside st.1.1,
          st.1.2,
        )

pub none_found : (d : Engine) (input : Input) → MaySkipAll d input → IsSpan d input None
none_found d input m = (
  0,
  record { comes = IsFirstSpan refl; before = λ j k. absurd (omega (arith, k)) },
  SpanReportsNone (subst (λ w. SelectsFrom d input.earliest (forward_tape input.haystack (input.start + 0) input.end)
      (first_state d w) None) (sym m.free)
      (none_accepts d input.haystack input.start (input.start + 0) input.end m.loops m.of_bytes.1 m.undone same
      m.none)),
)
  where
    same : input.start + 0 ≡ input.start
    same = omega arith

-- the anchored search at an offset answers nothing exactly if no match begins there
pub anchored_none :
    (d : Engine) (h : List ℕ) (e o : ℕ) → (IsSkipping d → ⊥) → o ≤ e
    → IsAnswer Forward d (record { haystack = h; start = o; end = e; anchored = Yes; earliest = false }) None
    → NoneBeginsAt d h e o
anchored_none d h e o plain l (k, t, SpanIsDone c) =
    let z = tries_once (IsSkipping d) _ k (λ s free. yes_no free) t.comes in
    absurd (omega (arith, l, c, z))
anchored_none d h e o plain l (k, t, SpanReportsNone r) =
    let z = tries_once (IsSkipping d) _ k (λ s free. yes_no free) t.comes in
    subst (λ v. NoneBeginsAt d h e v) (same k z) r
  where
    same : (k : ℕ) → k ≡ 0 → o + k ≡ o
    same k z = omega (arith, z)
anchored_none d h e o plain l (k, t, StopsAtSplit s f b) = absurd (plain s)

pub anchored_answers :
    (d : Engine) (h : List ℕ) (e o : ℕ) → NoneBeginsAt d h e o
    → IsAnswer Forward d (record { haystack = h; start = o; end = e; anchored = Yes; earliest = false }) None
anchored_answers d h e o none = (
  0,
  record { comes = IsFirstSpan refl; before = λ j b. absurd (omega (arith, b)) },
  SpanReportsNone (subst (λ v. NoneBeginsAt d h e v) zero_is none),
)
  where
    zero_is : o ≡ o + 0
    zero_is = omega arith
