-- Reported patterns are patterns of the automaton, and answers lie in their span.
use Rattle.std.proofs.Common.{ℕ, zero, suc, ◌≡◌, ◌∙◌, ◌<◌, ◌≤◌, ◌⊎◌, inl, inr, Bool, true, false, List, [], ◌∷◌, length}
use Rattle.std.proofs.Common.{Option, Some, None, refl, sym, ap, subst, arith}
use Rattle.std.proofs.Common.{eq-or-lt_of_le}
use Rattle.automata_base.specs.Answers.Answers.{Half, KeepsSplit, SkipsSplit, WalksNoSpan, WalksSpan, later, offset_in}
use Rattle.automata_base.specs.Answers.Answers.{with_offsets}
use Rattle.automata_base.specs.Retraced.Computed.{is_in}
use Rattle.automata_determinize.specs.Retraced.Computed.{once_past}
use Rattle.automata_determinize.specs.Retraced.Passes.{earlier_or, pair_at, first_among}
use Rattle.automata_base.specs.declared.util.search.MatchKind.{MatchKind}
use Rattle.automata_base.specs.Nfas.Accepted.{IsChecked}
use Rattle.automata_base.specs.declared.util.search.Anchored.{Anchored}
use Rattle.automata_base.specs.Haystacks.Input.{Input}
use Rattle.automata_base.specs.Lists.{In, pick, cons_some}
use Rattle.automata_base.specs.Nfas.Nfa.{accepts}
use Rattle.automata_base.specs.Nfas.Nodes.{Automaton, nfa_of}
use Rattle.automata_base.specs.Paths.Paths.{Tape, next}
use Rattle.automata_base.specs.Powersets.Powerset.{Powerset}
use Rattle.automata_base.specs.Paths.Selections.{Pair}
use Rattle.automata_base.specs.Paths.Starts.{mode_start}
use Rattle.automata_determinize.specs.Retraced.Steps.{start_or_dead, start_state_of, successor}
use Rattle.automata_base.specs.declared.util.search.Direction.{Direction}
use Rattle.automata_base.specs.declared.util.search.Direction.TheVariants.{Forward, Backward}
use Rattle.automata_base.specs.Haystacks.Tapes.{tape_of}
use Rattle.automata_determinize.specs.Retraced.Passes.{first_reported, last_reported, state_after, reported_at}
use Rattle.automata_determinize.specs.Retraced.Passes.{reported_upto}
use Rattle.automata_determinize.specs.Answers.OfPasses.{IsReported, reported_over}
use Rattle.automata_determinize.specs.Laws.Walks.{InPairs, SpanReports}
use Rattle.automata_determinize.specs.Answers.Within.{IsInSpan, IsPatternOf, StatesReportOwn, ReportsOwn}
use Rattle.automata_determinize.specs.Answers.Within.{ReportedLiesWithin}
use Rattle.automata_determinize.specs.Answers.Within.{WalkLiesWithin}
use Rattle.automata_determinize.proofs.Powersets.ReportedPairs.{in_offsets, in_reported, in_unsplit}
use Rattle.automata_base.proofs.Answers.Bytes.{forward_length, tape_length}
use Rattle.automata_base.proofs.Paths.Orders.{none_some, some_inj}

-- Each picked element is a value of `g`.
picked : (g : ℕ → Option ℕ) (xs : List ℕ) (y : ℕ) → In y (pick g xs) → (x : ℕ) × (g x ≡ Some y)
picked g [] y h = absurd h
picked g (x ∷ xs) y h = go (g x) refl (λ i. picked g xs y i) h where
  go :
      (o : Option ℕ) → g x ≡ o → (In y (pick g xs) → (z : ℕ) × (g z ≡ Some y)) → In y (cons_some o (pick g xs))
      → (z : ℕ) × (g z ≡ Some y)
  go None e more i = more i
  go (Some z) e more (inl same) = (x, e ∙ ap Some (sym same))
  go (Some z) e more (inr i) = more i

once_in : (seen xs : List ℕ) (y : ℕ) → In y (once_past seen xs) → In y xs
once_in seen [] y h = h
once_in seen (x ∷ xs) y h = go (is_in x seen) (λ i. once_in seen xs y i) (λ i. once_in (x ∷ seen) xs y i) h where
  go :
      (b : Bool) → (In y (once_past seen xs) → In y xs) → (In y (once_past (x ∷ seen) xs) → In y xs)
      → In y (elim b [ true ↦ once_past seen xs | false ↦ x ∷ once_past (x ∷ seen) xs ]) → In y (x ∷ xs)
  go true old new i = inr (old i)
  go false old new (inl same) = inl same
  go false old new (inr i) = inr (new i)

-- A step reports only patterns of the automaton.
pub step_own :
    (a : Automaton) → IsChecked a → (kind : MatchKind) (q : Powerset) (unit : Option ℕ)
    → ReportsOwn a (successor a kind q unit)
unfolding successor
step_own a d kind q unit p h =
    let s = picked (accepts (nfa_of a)) _ p (once_in [] _ p h) in d.patterns s.0 p s.1

-- A start state reports no patterns.
pub start_own : (a : Automaton) (mode : Anchored) (prev : Option ℕ) → ReportsOwn a (start_state_of a mode prev)
unfolding start_state_of
start_own a mode prev p h = go (mode_start a mode) h where
  go : (o : Option ℕ) → In p (start_or_dead (nfa_of a) o prev).patterns → IsPatternOf a p
  go None i = absurd i
  go (Some start) i = absurd i

pub states_own : (a : Automaton) → IsChecked a → StatesReportOwn a
states_own a d = (start_own a, step_own a d)

reported_own :
    (a : Automaton) → IsChecked a → (kind : MatchKind) (mode : Anchored) (t : Tape) (i p : ℕ)
    → In p (reported_at a kind mode t i) → IsPatternOf a p
unfolding state_after
reported_own a d kind mode t i p h = step_own a d kind (state_after a kind mode t i) (next t i) p h

-- The pair reports one of the patterns at position `i`.
record IsReportedAt (patterns : List ℕ) (i : ℕ) (pair : Pair) : Type 0 where
  place : pair.place ≡ i
  pattern : In pair.pattern patterns

pair_reported :
    (patterns : List ℕ) (i : ℕ) (o : Option Pair) (pair : Pair) → pair_at patterns i o ≡ Some pair → (o ≡ Some pair)
    ⊎ IsReportedAt patterns i pair
pair_reported [] i o pair e = inl e
pair_reported (p ∷ ps) i o pair e =
    let at : Pair = record { pattern = p; place = i } in
    let same : pair ≡ at = sym (some_inj e) in
    inr (record { place = ap (λ (v : Pair). v.place) same; pattern = inl (ap (λ (v : Pair). v.pattern) same) })

earlier_reported :
    (o other : Option Pair) (pair : Pair) → earlier_or o other ≡ Some pair → (o ≡ Some pair)
    ⊎ ((o ≡ None) × (other ≡ Some pair))
earlier_reported None other pair e = inr (refl, e)
earlier_reported (Some first) other pair e = inl e

-- The pair is reported at one of the first `k` positions.
module _ (kind : MatchKind) (a : Automaton) (mode : Anchored) (t : Tape) (pair : Pair) where
  abbrev pub ReportedBelow : ℕ → Type 0
  ReportedBelow k = (pair.place < k) × In pair.pattern (reported_at a kind mode t pair.place)

  below_more : (k : ℕ) → ReportedBelow k → ReportedBelow (suc k)
  below_more k b = (omega (arith, b.0), b.1)

  here : (k : ℕ) → IsReportedAt (reported_at a kind mode t k) k pair → ReportedBelow (suc k)
  here k s =
      (omega (arith, s.place), subst (λ i. In pair.pattern (reported_at a kind mode t i)) (sym s.place) s.pattern)

  last_below : (k : ℕ) → last_reported a kind mode t k ≡ Some pair → ReportedBelow k
  unfolding last_reported
  last_below zero e = absurd (none_some e)
  last_below (suc k) e =
      go (λ before. last_below k before)
      (pair_reported (reported_at a kind mode t k) k (last_reported a kind mode t k) pair e) where
        go :
            (last_reported a kind mode t k ≡ Some pair → ReportedBelow k) → (last_reported a kind mode t k ≡ Some pair)
            ⊎ IsReportedAt (reported_at a kind mode t k) k pair → ReportedBelow (suc k)
        go sooner (inl before) = below_more k (sooner before)
        go sooner (inr s) = here k s

  pub first_below : (k : ℕ) → first_reported a kind mode t k ≡ Some pair → ReportedBelow k
  unfolding first_reported
  first_below zero e = absurd (none_some e)
  first_below (suc k) e =
      go (λ before. first_below k before)
      (earlier_reported (first_reported a kind mode t k) (pair_at (reported_at a kind mode t k) k None) pair e) where
        next :
            (◌≡◌ {A = Option Pair} None (Some pair)) ⊎ IsReportedAt (reported_at a kind mode t k) k pair
            → ReportedBelow (suc k)
        next (inl n) = absurd (none_some n)
        next (inr s) = here k s

        go : (first_reported a kind mode t k ≡ Some pair → ReportedBelow k)
            → (first_reported a kind mode t k ≡ Some pair)
            ⊎ ((first_reported a kind mode t k ≡ None) × (pair_at (reported_at a kind mode t k) k None ≡ Some pair))
            → ReportedBelow (suc k)
        go sooner (inl before) = below_more k (sooner before)
        go sooner (inr now) = next (pair_reported (reported_at a kind mode t k) k None pair now.1)

  pub reported_below : (earliest : Bool) (k : ℕ) → reported_upto kind earliest a mode t k ≡ Some pair → ReportedBelow k
  reported_below true k e = first_below k e
  reported_below false k e = last_below k e

-- The first reported pair stays the first when more units are read.
pub first_stays :
    (reported : ℕ → List ℕ) (pair : Pair) (k n : ℕ) → k ≤ n → first_among reported k ≡ Some pair
    → first_among reported n ≡ Some pair
first_stays reported pair k zero l e =
    let z : k ≡ 0 = omega (arith, l) in subst (λ i. first_among reported i ≡ Some pair) z e
first_stays reported pair k (suc n) l e = go (λ more. first_stays reported pair k n more e) (eq-or-lt_of_le l) where
  go :
      (k ≤ n → first_among reported n ≡ Some pair) → (k ≡ suc n) ⊎ (k < suc n)
      → first_among reported (suc n) ≡ Some pair
  go before (inl same) = subst (λ i. first_among reported i ≡ Some pair) same e
  go before (inr less) = ap (λ o. earlier_or o (pair_at (reported n) n None)) (before (omega (arith, less)))

-- A position on the tape of a span is an offset in the span.
place_in :
    (way : Direction) (input : Input) (place : ℕ) → input.start ≤ input.end → input.end ≤ length input.haystack
    → place < suc (length (tape_of way input.haystack input.start input.end).bytes)
    → IsInSpan input (offset_in way input place)
place_in Forward input place s few l =
    let n = forward_length input.haystack input.start input.end s few in (omega arith, omega (arith, n, l, s))
place_in Backward input place s few l =
    let n = tape_length input.haystack input.start input.end s few in (omega (arith, n, l, s), omega arith)

-- What the pass over the span of an input reports is reported at a position of its tape.
pub over_below :
    (way : Direction) (a : Automaton) (kind : MatchKind) (input : Input) (pair : Pair)
    → reported_over way a kind input ≡ Some pair
    → ReportedBelow kind a input.anchored (tape_of way input.haystack input.start input.end) pair
    (suc (length (tape_of way input.haystack input.start input.end).bytes))
over_below way a kind input pair reported =
    reported_below kind a input.anchored (tape_of way input.haystack input.start input.end) pair input.earliest
    (suc (length (tape_of way input.haystack input.start input.end).bytes)) reported

-- An answer lies in the span, at or after the start of the span that gave it.
pub reported_within :
    (way : Direction) (a : Automaton) (kind : MatchKind) (input : Input) (half : Half)
    → input.end ≤ length input.haystack → IsReported way a kind input (Some half)
    → IsInSpan input half.offset × (input.start ≤ half.base) × (half.base ≤ half.offset)
reported_within Forward a kind input half few f =
    let b = over_below Forward a kind (later Forward f.0 input) f.2.pair (sym f.2.reported) in
    let w = place_in Forward (later Forward f.0 input) f.2.pair.place f.2.within few b.0 in (
      (omega (arith, w.0, f.2.offset), omega (arith, w.1, f.2.offset)),
      omega (arith, f.2.base),
      omega
          (arith, w.0, f.2.offset, f.2.base),
    )
reported_within Backward a kind input half few f =
    let b = over_below Backward a kind (later Backward f.0 input) f.2.pair (sym f.2.reported) in
    let w =
    place_in Backward (later Backward f.0 input) f.2.pair.place (omega (arith, f.2.within)) (omega (arith, few))
    b.0 in (
      (omega (arith, w.0, f.2.offset), omega (arith, w.1, f.2.offset)),
      omega (arith, f.2.base),
      omega
          (arith, w.0, f.2.offset, f.2.base),
    )

-- The pattern of an answer is a pattern of the automaton.
pattern_reported :
    (way : Direction) (a : Automaton) (kind : MatchKind) (input : Input) (half : Half)
    → IsChecked a → IsReported way a kind input (Some half) → IsPatternOf a half.pattern
pattern_reported way a kind input half d f =
    let i = later way f.0 input in
    let b = over_below way a kind i f.2.pair (sym f.2.reported) in
    subst (IsPatternOf a) (sym f.2.pattern)
    (reported_own a d kind i.anchored (tape_of way i.haystack i.start i.end) f.2.pair.place f.2.pair.pattern b.1)

pub reported_lies : (a : Automaton) → IsChecked a → ReportedLiesWithin a
reported_lies a d way kind input half few f =
    let w = reported_within way a kind input half few f in (pattern_reported way a kind input half d f, w.0, w.1, w.2)

-- The pairs of a walk have patterns of the automaton and lie in the span.
offset_lies :
    (a : Automaton) → IsChecked a
    → (way : Direction) (kind : MatchKind) (input : Input) (pairs : List Pair) (pair : Pair)
    → input.start ≤ input.end → input.end ≤ length input.haystack → SpanReports way a kind input pairs
    → InPairs pair (with_offsets way input pairs) → IsPatternOf a pair.pattern × IsInSpan input pair.place
offset_lies a d way kind input pairs pair ahead few reported i =
    let t : Tape = tape_of way input.haystack input.start input.end in
    let r = in_offsets way input pair pairs i in
    let s =
    in_reported a kind input.anchored t (suc (length t.bytes)) r.raw (subst (InPairs r.raw) reported r.inside) in (
      subst (IsPatternOf a) (sym r.pattern) (reported_own a d kind input.anchored t r.raw.place r.raw.pattern s.1),
      subst (IsInSpan input) (sym r.place) (place_in way input r.raw.place ahead few s.0),
    )

pub walk_lies : (a : Automaton) → IsChecked a → WalkLiesWithin a
walk_lies a d way kind input found pair few (WalksNoSpan done e) i = absurd (subst (InPairs pair) e i)
walk_lies a d way kind input found pair few (WalksSpan ahead pairs reported (SkipsSplit skips e)) i =
    offset_lies a d way kind input pairs pair ahead few reported
    (in_unsplit input.haystack pair (with_offsets way input pairs) (subst (InPairs pair) e i)).0
walk_lies a d way kind input found pair few (WalksSpan ahead pairs reported (KeepsSplit whole e)) i =
    offset_lies a d way kind input pairs pair ahead few reported (subst (InPairs pair) e i)
