-- The ends of the matches of an iteration increase.
use Rattle.std.proofs.Common.{ℕ, suc, ◌≡◌, ◌<◌, ◌≤◌, ◌+◌, ◌-◌, List, [], ◌∷◌, ◌⊎◌, length, Option, Some}
use Rattle.std.proofs.Common.{None, inl, inr, refl, ap, ◌∙◌, subst, arith, eq-or-lt_of_le}
use Rattle.automata_base.proofs.Paths.Searches.{accepting_inside}
use Rattle.automata_base.specs.Haystacks.Tapes.{IsHaystack, reverse_tape}
use Rattle.automata_base.specs.declared.util.search.Direction.TheVariants.{Forward, Backward}
use Rattle.automata_base.specs.Nfas.Engines.{Engine, IsSkipping}
use Rattle.automata_base.specs.Answers.Answers.{Half, IsAnswer, SelectsOver}
use Rattle.automata_base.specs.Haystacks.Input.{Input}
use Rattle.automata_base.specs.Answers.TruePairs.{IsTruePair, KeepsUtf8}
use Rattle.automata_base.specs.Answers.Spans.{IsSpan, FindsStart, Outcome, Found, IsTrySearch}
use Rattle.automata_base.specs.Answers.Spans.{from, IsNextItem, AreFirst, AreMatches, AreSpans, TryFinds}
use Rattle.automata_base.specs.Answers.Spans.{AreFound, FindsHere, FindsLater, Rise, StartIsBase, StartIsFound}
use Rattle.automata_base.specs.Haystacks.Matches.{Match}
use Rattle.automata_base.proofs.Answers.Backs.{end_inside}
use Rattle.automata_base.proofs.Answers.Bytes.{tape_length}
use Rattle.automata_base.proofs.Answers.Starts.{Answered, answered}
use Rattle.automata_determinize.proofs.Answers.Starts.{anchored_back, only_once}
use Rattle.automata_determinize.proofs.Answers.Right.{span_right}
use Rattle.automata_base.proofs.Answers.Rising.{StaysInside, spans_inside, matches_right}

-- The answer of a reverse search lies in its span.
back_inside :
    (r : Engine) (h : List ℕ) (b e : ℕ) (found : Half) → e ≤ length h
    → IsAnswer Backward r (anchored_back h b e) (Some found)
    → (b ≤ found.offset) × (found.offset ≤ e)
back_inside r h b e found w a =
    let z = only_once (SelectsOver Backward r) (IsSkipping r) h b e a.0 a.1 in
    let g =
    accepting_inside r.nfa (reverse_tape h b (e - a.0)) r.anchored a.2.pair.place a.2.pair.pattern a.2.reported.0
    a.2.reported.1 in
    let n = tape_length h b (e - a.0) (omega (arith, z, a.2.within)) (omega (arith, w)) in
    (omega (arith, a.2.offset, z, g, n, a.2.within), omega (arith, a.2.offset))

-- A search over any two DFAs finds only matches that lie in the span.
pub try_inside :
    (f r : Engine) (input : Input) (m : Match) → input.end ≤ length input.haystack
    → IsTrySearch f r input (Found (Some m))
    → (input.start ≤ m.start) × (m.start ≤ m.end) × (m.end ≤ input.end)
try_inside f r input m w s = go s.start
  where
    half : Half
    half = s.half

    a : (q i : ℕ) × (path : List ℕ) × Answered f input half q i path
    a = answered f input half s.front

    low : input.start ≤ half.base
    low = a.3.3

    mid : half.base ≤ half.offset
    mid = let e = a.3.1 in omega (arith, e)

    high : half.offset ≤ input.end
    high =
        let g = end_inside f input.haystack half.base input.end a.0 a.1 half.pattern a.2 a.3.4 w a.3.2.0 in
        let e = a.3.1 in
        omega (arith, g, e)

    go : FindsStart f r input half (Some m.start) → (input.start ≤ m.start) × (m.start ≤ m.end) × (m.end ≤ input.end)
    go (StartIsBase short h) = (omega (arith, low, h), omega (arith, mid, h, s.end), omega (arith, high, s.end))
    go (StartIsFound long found backs h) =
        let g = back_inside r input.haystack half.base half.offset found (omega (arith, high, w)) backs in
        (omega (arith, low, h, g.0), omega (arith, g.1, h, s.end), omega (arith, high, s.end))

pub tries_inside : (f r : Engine) → StaysInside (TryFinds f r)
tries_inside f r input m w s = try_inside f r input m w s

-- The next match lies in the span. If the search for it starts at the end of the last match, it ends after that.
pub next_inside :
    (Finds : Input → Option Match → Type 0) (input : Input) (start : ℕ) (last : Option ℕ) (m : Match)
    → StaysInside Finds → input.end ≤ length input.haystack → IsNextItem Finds input start last (Some m)
    → (start ≤ m.start) × (m.start ≤ m.end) × (m.end ≤ input.end) × (last ≡ Some start → start < m.end)
next_inside Finds input start last m stays w (FindsHere s apart) =
    let f = stays (from start input) m w s in
    (f.0, f.1, f.2, λ e. past e (eq-or-lt_of_le (both f.0 f.1)))
  where
    both : start ≤ m.start → m.start ≤ m.end → start ≤ m.end
    both a b = omega (arith, a, b)

    past : last ≡ Some start → (start ≡ m.end) ⊎ (start < m.end) → start < m.end
    past e (inr l) = l
    past e (inl c) =
        let f = stays (from start input) m w s in
        absurd (apart (omega (arith, f.0, f.1, c), e ∙ ap (λ v. Some v) c))
next_inside Finds input start last m stays w (FindsLater empty here at_last s) =
    let f = stays (from (suc start) input) m w s in
    (omega (arith, f.0), f.1, f.2, λ e. omega (arith, f.0, f.1))

-- The list of all matches is also a list of first matches.
pub all_first :
    (Finds : Input → Option Match → Type 0) (input : Input) (start : ℕ) (last : Option ℕ) (ms : List Match)
    → AreMatches Finds input start last ms → AreFirst Finds input start last ms
all_first Finds input start last [] s = tt
all_first Finds input start last (m ∷ ms) s = (s.0, all_first Finds input m.end (Some m.end) ms s.1)

module _ (Finds : Input → Option Match → Type 0) (input : Input) (stays : StaysInside Finds)
    (w : input.end ≤ length input.haystack) where
  rise_from :
      (start : ℕ) (ms : List Match) → AreFirst Finds input start (Some start) ms → Rise input.end (Some start) ms
  rise_from start [] s = tt
  rise_from start (m ∷ ms) s =
      let f = next_inside Finds input start (Some start) m stays w s.0 in
      (record { from = f.0; ordered = f.1; past = f.3 refl; within = f.2 }, rise_from m.end ms s.1)

  pub first_rise : (ms : List Match) → AreFirst Finds input input.start None ms → Rise input.end None ms
  first_rise [] s = tt
  first_rise (m ∷ ms) s =
      let f = next_inside Finds input input.start None m stays w s.0 in (f.1, f.2, rise_from m.end ms s.1)

  count_from : (end start : ℕ) (ms : List Match) → start ≤ end → Rise end (Some start) ms → start + length ms ≤ end
  count_from end start [] l r = omega (arith, l)
  count_from end start (m ∷ ms) l r = let g = count_from end m.end ms r.0.within r.1 in omega (arith, g, r.0.past)

  -- An iteration has at most one match more than the span has bytes.
  pub first_few :
      (ms : List Match) → AreFirst Finds input input.start None ms → length ms ≤ suc (input.end - input.start)
  first_few [] s = omega arith
  first_few (m ∷ ms) s =
      let f = next_inside Finds input input.start None m stays w s.0 in
      let g = count_from input.end m.end ms f.2 (rise_from m.end ms s.1) in
      omega (arith, g, f.0, f.1)

  matches_rise :
      (ms : List Match) → AreMatches Finds input input.start None ms → Rise input.end None ms
      × (length ms ≤ suc (input.end - input.start))
  matches_rise ms s = let f = all_first Finds input input.start None ms s in (first_rise ms f, first_few ms f)

pub spans_rise :
    (d : Engine) (input : Input) (ms : List Match)
    → input.end ≤ length input.haystack → AreSpans d input ms
    → Rise input.end None ms × (length ms ≤ suc (input.end - input.start))
spans_rise d input ms w s = matches_rise (IsSpan d) input (spans_inside d) w ms s

-- The same bounds hold for two DFAs that do not belong together.
pub found_rise :
    (f r : Engine) (input : Input) (ms : List Match)
    → input.end ≤ length input.haystack → AreFound f r input ms
    → Rise input.end None ms × (length ms ≤ suc (input.end - input.start))
found_rise f r input ms w s = matches_rise (TryFinds f r) input (tries_inside f r) w ms s

-- For a true pair that keeps the UTF-8 promise, the matches found are the spans of the paths.
pub spans_right :
    (f r : Engine) (input : Input) (ms : List Match)
    → IsTruePair f r → KeepsUtf8 Forward f → IsHaystack input.haystack → input.end ≤ length input.haystack
    → AreFound f r input ms → AreSpans f input ms
spans_right f r input ms pair keeps bytes w s = matches_right (TryFinds f r) (IsSpan f) input span input.start None ms s
  where
    same_found : {a b : Option Match} → ◌≡◌ {A = Outcome} (Found a) (Found b) → b ≡ a
    same_found e = cc

    span : (start : ℕ) (o : Option Match) → TryFinds f r (from start input) o → IsSpan f (from start input) o
    span start o s =
        let g = span_right f r (from start input) (Found o) pair keeps bytes w s in
        subst (λ v. IsSpan f (from start input) v) (same_found g.1) g.2
