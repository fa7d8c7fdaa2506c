-- Spans that are tried one after another.
use Rattle.std.proofs.Common.{ℕ, suc, ◌≡◌, ◌<◌, ◌≤◌, ◌+◌, ◌⊎◌, inl, inr, Bool, true, Option, Some, None, false, refl}
use Rattle.std.proofs.Common.{sym, ap, ap₂, ◌∙◌, subst, arith}
use Rattle.automata_hybrid.proofs.Words.{Direction, Finds, Half, half_of, HalfMatch, Input, is_split, IsFound, later}
use Rattle.automata_hybrid.proofs.Words.{Machine, match_kind_of, No, offset_in, Pair, Skips, Tries, with_base}
use Rattle.automata_base.specs.Answers.Answers.{IsSplit, SpanIsDone, SpanReportsNone}
use Rattle.automata_base.specs.Answers.Answers.{StopsAtSplit}
use Rattle.automata_base.specs.Answers.Answers.{SkipsToIt}
use Rattle.automata_determinize.specs.Answers.OfPasses.{ReportsOver, IsReported}
use Rattle.automata_determinize.proofs.Answers.Turning.{turn_answers}
use Rattle.automata_hybrid.specs.Searches.PassState.{found_over}
use Rattle.automata_hybrid.specs.Searches.Passes.{MeetsNoQuit, report_in}
use Rattle.automata_hybrid.proofs.Machines.Powersets.{report_of_nfa}
use Rattle.automata_hybrid.proofs.Searches.PassState.{false_true}
use Rattle.automata_hybrid.proofs.Searches.Traces.{half_of_none}
use Rattle.automata_base.proofs.Answers.Answered.{haystack_later}
use Rattle.automata_base.proofs.Paths.Orders.{some_inj, some_none}
use Rattle.automata_base.proofs.Answers.Tried.{tries_on as tried_on}

-- offsets inside a character are skipped, or they are not
pub skips_or_not : {A : Type 0} (b : Bool) → (b ≡ true → A) → (b ≡ false → A → ⊥) → A ⊎ (A → ⊥)
skips_or_not true does not = inl (does refl)
skips_or_not false does not = inr (not refl)

-- the pair that a half match represents
pub record Stands (way : Direction) (input : Input) (o : Option Pair) (half : HalfMatch) : Type 0 where
  pub pair : Pair
  pub reported : o ≡ Some pair
  pub pattern : half.pattern ≡ pair.pattern
  pub offset : half.offset ≡ offset_in way input pair.place

half_stands :
    (way : Direction) (input : Input) (o : Option Pair) (half : HalfMatch) → Some half ≡ half_of way input o
    → Stands way input o half
half_stands way input None half e = absurd (cc)
half_stands way input (Some pair) half e =
    let h : half ≡ record { pattern = pair.pattern; offset = offset_in way input pair.place } = cc in
    record {
      pair = pair;
      reported = refl;
      pattern = ap (λ (v : HalfMatch). v.pattern) h;
      offset = ap
          (λ (v : HalfMatch). v.offset) h;
    }

module _ (T : Input → Option Pair → Type 0) (S : Type 0) (way : Direction) (input : Input) where
  tries_more :
      (k : ℕ) → Tries T S way input k → S → input.anchored ≡ No → input.start + k ≤ input.end
      → IsSplit T way (later way k input) → Tries T S way input (suc k)
  tries_more k tries s free l split = record { comes = SkipsToIt s free; before = before } where
    before : (j : ℕ) → j < suc k → (input.start + j ≤ input.end) × IsSplit T way (later way j input)
    before j less = go (eq_or_less j k less) where
      eq_or_less : (j k : ℕ) → j < suc k → (j ≡ k) ⊎ (j < k)
      eq_or_less j k h = grind (arith, h)

      go : (j ≡ k) ⊎ (j < k) → (input.start + j ≤ input.end) × IsSplit T way (later way j input)
      go (inl e) = (omega (arith, l, e), subst (λ i. IsSplit T way (later way i input)) (sym e) split)
      go (inr h) = tries.before j h

-- a pass over the span that begins `k` places later was made
module _ (way : Direction) (m : Machine) (input now : Input) (k : ℕ) (same : now ≡ later way k input)
    (tries : Tries (Finds way m) (Skips m) way input k) (within : input.start + k ≤ input.end) where
  there : (o : Option HalfMatch) → o ≡ found_over way m now → o ≡ found_over way m (later way k input)
  there o e = e ∙ ap (found_over way m) same

  clear : MeetsNoQuit way m now → MeetsNoQuit way m (later way k input)
  clear c = subst (MeetsNoQuit way m) same c

  -- it found nothing
  pub finds_none : None ≡ found_over way m now → MeetsNoQuit way m now → IsFound way m input None
  finds_none e c =
      let none : report_in way m (later way k input) ≡ None =
      half_of_none way (later way k input) _ (sym (there None e)) in
      (k, tries, SpanReportsNone (sym none, clear c))

  stands :
      (half : HalfMatch) → Some half ≡ found_over way m now
      → Stands way (later way k input) (report_in way m (later way k input)) half
  stands half e =
      half_stands way (later way k input) (report_in way m (later way k input)) half
      (there (Some half) e)

  split_at :
      (half : HalfMatch)
      (s : Stands way (later way k input) (report_in way m (later way k input)) half)
      → is_split now.haystack half.offset ≡ is_split input.haystack (offset_in way (later way k input) s.pair.place)
  split_at half s =
      ap₂ is_split (ap (λ (i : Input). i.haystack) same ∙ haystack_later way k input) s.offset

  -- it found a match that is not skipped
  pub finds_some :
      (half : HalfMatch) → Some half ≡ found_over way m now → MeetsNoQuit way m now
      → (Skips m → is_split now.haystack half.offset ≡ false) → IsFound way m input (Some (with_base half now.start))
  finds_some half e c keeps =
      let s : Stands way (later way k input) (report_in way m (later way k input))
      half = stands half e in (
        k,
        tries,
        record {
          pair = s.pair;
          within = within;
          reported = (sym s.reported, clear c);
          whole = λ skips. sym (split_at half s) ∙ keeps skips;
          pattern = s.pattern;
          offset = s.offset;
          base = ap (λ (i : Input). i.start) same;
        },
      )

  split_there :
      (half : HalfMatch) → Some half ≡ found_over way m now → MeetsNoQuit way m now
      → is_split now.haystack half.offset ≡ true → IsSplit (Finds way m) way (later way k input)
  split_there half e c split =
      let s : Stands way (later way k input) (report_in way m (later way k input))
      half = stands half e in (
        s.pair,
        (sym s.reported, clear c),
        ap (λ h. is_split h (offset_in way (later way k input) s.pair.place)) (haystack_later way k input)
            ∙ (sym (split_at half s) ∙ split),
      )

  -- it found a match that is skipped, and the search is anchored and ends
  pub finds_split :
      (half : HalfMatch) → Some half ≡ found_over way m now → MeetsNoQuit way m now → Skips m
      → is_split now.haystack half.offset ≡ true → (input.anchored ≡ No → ⊥) → IsFound way m input None
  finds_split half e c skips split anchored = (k, tries, StopsAtSplit skips anchored (split_there half e c split))

  -- it found a match that is skipped, and the search tries the next span
  pub tries_on :
      (half : HalfMatch) → Some half ≡ found_over way m now → MeetsNoQuit way m now → Skips m
      → is_split now.haystack half.offset ≡ true → input.anchored ≡ No → Tries (Finds way m) (Skips m) way input (suc k)
  tries_on half e c skips split free =
      tries_more (Finds way m) (Skips m) way input k tries skips free within (split_there half e c split)

  -- if it found nothing, no later span is tried
  pub none_stops : None ≡ found_over way m now → (j : ℕ) → k < j → Tries (Finds way m) (Skips m) way input j → ⊥
  none_stops e j less tried =
      let split : IsSplit (Finds way m) way (later way k input) = (tried.before k less).1 in
      let none : report_in way m (later way k input) ≡ None =
      half_of_none way (later way k input) _ (sym (there None e)) in
      some_none (split.1.0 ∙ none)

  -- if it found a match that is not skipped, no later span is tried
  pub some_stops :
      (half : HalfMatch) → Some half ≡ found_over way m now → (Skips m → is_split now.haystack half.offset ≡ false)
      → (j : ℕ) → k < j → Tries (Finds way m) (Skips m) way input j → ⊥
  some_stops half e keeps j less tried = go (tried_on (Skips m) input k j less tried.comes) where
    go : Skips m × (input.anchored ≡ No) → ⊥
    go skips =
        let split : IsSplit (Finds way m) way (later way k input) = (tried.before k less).1 in
        let s : Stands way (later way k input) (report_in way m (later way k input))
        half = stands half e in
        let same : split.0 ≡ s.pair = some_inj (split.1.0 ∙ s.reported) in
        let place : is_split (later way k input).haystack (offset_in way (later way k input) s.pair.place) ≡ true =
        subst (λ (p : Pair). is_split (later way k input).haystack (offset_in way (later way k input) p.place) ≡ true)
        same split.2 in
        false_true
        (sym (keeps skips.0)
        ∙ (split_at half s
        ∙ (ap (λ h. is_split h (offset_in way (later way k input) s.pair.place)) (sym (haystack_later way k input))
        ∙ place)))

  -- if the search is anchored, no later span is tried
  pub anchored_stops : (input.anchored ≡ No → ⊥) → (j : ℕ) → k < j → Tries (Finds way m) (Skips m) way input j → ⊥
  anchored_stops anchored j less tried = anchored (tried_on (Skips m) input k j less tried.comes).1

-- no span is left
pub finds_no_more :
    (way : Direction) (m : Machine) (input : Input) (k : ℕ)
    → Tries (Finds way m) (Skips m) way input k → input.end < input.start + k → IsFound way m input None
finds_no_more way m input k tries past = (k, tries, SpanIsDone past)

-- what a search finds is what its passes report
pub found_reported :
    (way : Direction) (m : Machine) (input : Input) (o : Option Half)
    → IsFound way m input o → IsReported way m.nfa (match_kind_of m.config) input o
found_reported way m input o found =
    turn_answers (Finds way m) (ReportsOver way m.nfa (match_kind_of m.config)) (Skips m) way input
    (λ k reported l f. f.0 ∙ report_of_nfa way m (later way k input)) o found
