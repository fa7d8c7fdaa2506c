-- The answer of an anchored search, by what the paths of its one span select.
use Rattle.std.proofs.Common.{ℕ, ◌≡◌, ◌+◌, ◌≤◌, ◌⊎◌, List, Option, Some, None, true, false, length, inl, inr, ap, ◌∙◌}
use Rattle.std.proofs.Common.{subst, arith}
use Rattle.automata_base.specs.Answers.Answers.{Half, IsAnswer, IsFirstSpan, MayTry, SkipsToIt, SpanIsDone}
use Rattle.automata_base.specs.Answers.Answers.{SpanReportsNone, StopsAtSplit}
use Rattle.automata_base.specs.Haystacks.Input.{Input}
use Rattle.automata_base.specs.Haystacks.Tapes.{forward_tape, is_split}
use Rattle.automata_base.specs.Nfas.Engines.{Engine, IsSkipping}
use Rattle.automata_base.specs.Paths.Selections.{Pair, Selects}
use Rattle.automata_base.specs.declared.util.search.Anchored.TheVariants.{Yes}
use Rattle.automata_base.specs.declared.util.search.Direction.TheVariants.{Forward}

module _ (d : Engine) (hay : List ℕ) (offset : ℕ) (fits : offset ≤ length hay) where
  abbrev input : Input
  input = record { haystack = hay; start = offset; end = length hay; anchored = Yes; earliest = false }

  -- what the paths from the anchored start select
  abbrev pub Selected : Option Pair → Type 0
  Selected o = Selects d.kind false d.nfa (forward_tape hay offset (length hay)) d.anchored o

  -- what they select is inside a character, and skipped
  abbrev pub SelectsSplit : Type 0
  SelectsSplit =
      IsSkipping d × ((pair : Pair) × Selected (Some pair) × (is_split hay (offset + pair.place) ≡ true))

  first_span : (k : ℕ) → MayTry (IsSkipping d) input k → offset + k ≡ offset
  first_span k (IsFirstSpan e) = omega (arith, e)
  first_span k (SkipsToIt skips free) = absurd (cc)

  at_first : (s : ℕ) (o : Option Pair) → s ≡ offset →
      Selects d.kind false d.nfa (forward_tape hay s (length hay)) d.anchored o → Selected o
  at_first s o e h = subst (λ v. Selects d.kind false d.nfa (forward_tape hay v (length hay)) d.anchored o) e h

  pub answer_none : IsAnswer Forward d input None → Selected None ⊎ SelectsSplit
  answer_none (k, tries, SpanIsDone l) = absurd (omega (arith, l, fits, first_span k tries.comes))
  answer_none (k, tries, SpanReportsNone h) = inl (at_first (offset + k) None (first_span k tries.comes) h)
  answer_none (k, tries, StopsAtSplit skips mode split) =
      let e = first_span k tries.comes in
      inr (
        skips,
        (
          split.0,
          at_first (offset + k) (Some split.0) e split.1,
          subst (λ v. is_split hay (v + split.0.place) ≡ true) e split.2,
        ),
      )

  pub answer_some :
      (half : Half) → IsAnswer Forward d input (Some half)
      → (pair : Pair) × Selected (Some pair) × (half.pattern ≡ pair.pattern) × (half.offset ≡ offset + pair.place)
  answer_some half (k, tries, has) =
      let e = first_span k tries.comes in (
        has.pair,
        at_first (offset + k) (Some has.pair) e has.reported,
        has.pattern,
        has.offset ∙ ap (λ v. v + has.pair.place) e,
      )
