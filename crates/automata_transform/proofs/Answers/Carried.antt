-- If the accepting paths of two engines correspond and keep their order, both engines give the same answers.
use Rattle.std.proofs.Common.{ℕ, zero, suc, ◌≡◌, ◌<◌, ◌≤◌, ◌+◌, ◌-◌, Bool, List, [], ◌∷◌, ◌↔◌, Option, Some, None}
use Rattle.std.proofs.Common.{sym, ap, ◌∙◌, subst}
use Rattle.std.proofs.Common.{take, drop, refl}
use Rattle.std.specs.Prelude.{option_map}
use Rattle.automata_base.specs.Answers.Answers.{Answers, ArePatternsFound, AreUnsplit, Half, IsAnswer, IsOverlapping}
use Rattle.automata_base.specs.Answers.Answers.{IsOverlappingFrom, IsSplit}
use Rattle.automata_base.specs.Answers.Answers.{HasNoAnswerAt, KeepsSplit, OverlapsOver, SelectsFrom, SelectsOver}
use Rattle.automata_base.specs.Answers.Answers.{SkipsSplit, SpanIsDone}
use Rattle.automata_base.specs.Answers.Answers.{SpanReportsNone, StopsAtSplit, Tries, WalksNoSpan, WalksSpan, later}
use Rattle.automata_base.specs.Answers.Answers.{MayTry, IsFirstSpan, SkipsToIt}
use Rattle.automata_base.specs.Answers.OfPasses.{EndsFrom, EndsOver, IsFarthestAnswer, IsNearestAnswer}
use Rattle.automata_base.specs.Answers.Spans.{AreMatches, AreSpans, Chooses, FindsHere, FindsLater, IsMatch, IsNextItem}
use Rattle.automata_base.specs.Answers.Spans.{IsPathStart, IsSpan}
use Rattle.automata_base.specs.Answers.Spans.{from, in_full}
use Rattle.automata_base.specs.Haystacks.Input.{Input}
use Rattle.automata_base.specs.Haystacks.Matches.{Match}
use Rattle.automata_base.specs.Haystacks.Tapes.{IsHaystack, between, tape_of}
use Rattle.automata_base.specs.declared.util.search.Direction.{Direction}
use Rattle.automata_base.specs.declared.util.search.Direction.TheVariants.{Forward, Backward}
use Rattle.automata_base.specs.Haystacks.Tapes.{forward_tape}
use Rattle.automata_base.specs.Nfas.Engines.{Engine, IsSkipping, first_state}
use Rattle.automata_base.specs.declared.util.search.Anchored.{Anchored}
use Rattle.automata_base.specs.Nfas.Nfa.{Nfa}
use Rattle.automata_base.specs.Paths.Order.{Before}
use Rattle.automata_base.specs.Paths.Paths.{Tape}
use Rattle.automata_base.specs.Paths.Selections.{Accepts, IsChosen, IsFarthest, IsNearest, IsOverlappingOn, Pair}
use Rattle.automata_base.specs.Paths.Selections.{Selects}
use Rattle.automata_base.proofs.Answers.Answered.{haystack_later}
use Rattle.automata_base.proofs.Answers.Bytes.{nth_drop}
use Rattle.automata_base.proofs.Answers.Total.{reverse_bytes}
use Rattle.automata_transform.specs.Answers.Alike.{AnswerAlike}
use Rattle.automata_transform.proofs.Paths.Carried.{chosen_carried, selects_carried, overlapping_carried}
use Rattle.automata_base.proofs.Paths.Orders.{none_some}

taken_bytes : (k : ℕ) (h : List ℕ) → IsHaystack h → IsHaystack (take k h)
taken_bytes zero h bytes o u e = absurd (none_some e)
taken_bytes (suc k) [] bytes o u e = absurd (none_some e)
taken_bytes (suc k) (x ∷ h) bytes zero u e = bytes 0 u e
taken_bytes (suc k) (x ∷ h) bytes (suc o) u e = taken_bytes k h (λ o u e. bytes (suc o) u e) o u e

between_bytes : (h : List ℕ) (s e : ℕ) → IsHaystack h → IsHaystack (between h s e)
between_bytes h s e bytes =
    taken_bytes (e - s) (drop s h) (λ o u f. bytes (s + o) u (sym (nth_drop s h o) ∙ f))

-- The tapes of a haystack contain only bytes.
pub tape_bytes : (way : Direction) (h : List ℕ) (s e : ℕ) → IsHaystack h → IsHaystack (tape_of way h s e).bytes
tape_bytes Forward h s e bytes = between_bytes h s e bytes
tape_bytes Backward h s e bytes = reverse_bytes (between h s e) (between_bytes h s e bytes)

later_bytes :
    (way : Direction) (k : ℕ) (input : Input) → IsHaystack input.haystack → IsHaystack (later way k input).haystack
later_bytes way k input bytes = subst (λ v. IsHaystack v) (sym (haystack_later way k input)) bytes

-- Replaces what is reported over each span (`T` by `U`) and the condition for skipping offsets inside a character (`S`
-- by `V`).
module _ (T U : Input → Option Pair → Type 0) (S V : Type 0) (way : Direction) (skips : S ↔ V)
    (turn : (input : Input) (o : Option Pair) → IsHaystack input.haystack → T input o → U input o) where
  split_turned : (input : Input) → IsHaystack input.haystack → IsSplit T way input → IsSplit U way input
  split_turned input bytes h = (h.0, turn input (Some h.0) bytes h.1, h.2)

  tries_turned :
      (input : Input) (k : ℕ) → IsHaystack input.haystack → Tries T S way input k → Tries U V way input k
  tries_turned input k bytes h = record { comes = first h.comes; before = before }
    where
      first : MayTry S input k → MayTry V input k
      first (IsFirstSpan z) = IsFirstSpan z
      first (SkipsToIt s free) = SkipsToIt (skips.0 s) free

      before : (j : ℕ) → j < k → (input.start + j ≤ input.end) × IsSplit U way (later way j input)
      before j l = let b = h.before j l in (b.0, split_turned (later way j input) (later_bytes way j input bytes) b.1)

  answers_turned :
      (input : Input) (answer : Option Half) → IsHaystack input.haystack → Answers T S way input answer
      → Answers U V way input answer
  answers_turned input None bytes (k, t, h) = (k, tries_turned input k bytes t, end h)
    where
      end : HasNoAnswerAt T S way input k → HasNoAnswerAt U V way input k
      end (SpanIsDone l) = SpanIsDone l
      end (SpanReportsNone h) = SpanReportsNone (turn (later way k input) None (later_bytes way k input bytes) h)
      end (StopsAtSplit s f h) =
          StopsAtSplit (skips.0 s) f (split_turned (later way k input) (later_bytes way k input bytes) h)
  answers_turned input (Some half) bytes (k, t, a) = (
    k,
    tries_turned input k bytes t,
    record {
      pair = a.pair;
      within = a.within;
      reported = turn (later way k input) (Some a.pair) (later_bytes way k input bytes) a.reported;
      whole = λ s. a.whole (skips.1 s);
      pattern = a.pattern;
      offset = a.offset;
      base = a.base;
    },
  )

-- What makes the second engine answer as the first does. In a mode, the second one begins at the state that `to` gives
-- for the state where the first one begins, and `R` relates the corresponding paths on a tape from the two.
pub record IsCarried (d e : Engine) (to : Anchored → ℕ → ℕ) (R : Anchored → Tape → ℕ → List ℕ → List ℕ → Type 0) :
    Type 0 where
  pub kinds : d.kind ≡ e.kind
  pub starts : (mode : Anchored) → option_map (to mode) (first_state d mode) ≡ first_state e mode
  pub there :
      (t : Tape) (mode : Anchored) (q : ℕ) → IsHaystack t.bytes → first_state d mode ≡ Some q
      → (i p : ℕ) (a : List ℕ) → Accepts d.nfa t q i p a
      → (b : List ℕ) × R mode t q a b × Accepts e.nfa t (to mode q) i p b
  pub back :
      (t : Tape) (mode : Anchored) (q : ℕ) → IsHaystack t.bytes → first_state d mode ≡ Some q
      → (i p : ℕ) (b : List ℕ) → Accepts e.nfa t (to mode q) i p b
      → (a : List ℕ) × R mode t q a b × Accepts d.nfa t q i p a
  pub same :
      (t : Tape) (mode : Anchored) (q : ℕ) (a b c f : List ℕ) → R mode t q a b → R mode t q c f → a ≡ c → b ≡ f
  pub order :
      (t : Tape) (mode : Anchored) (q : ℕ) (a b c f : List ℕ) → R mode t q a b → R mode t q c f → Before a c
      → Before b f
  pub begins :
      (t : Tape) (mode : Anchored) (q place : ℕ) (a b : List ℕ) → IsHaystack t.bytes → first_state d mode ≡ Some q
      → R mode t q a b → IsPathStart d mode t a place → IsPathStart e mode t b place
  pub skips : IsSkipping d ↔ IsSkipping e

module _ (d e : Engine) (to : Anchored → ℕ → ℕ) (R : Anchored → Tape → ℕ → List ℕ → List ℕ → Type 0)
    (c : IsCarried d e to R) where
  selects_from :
      (earliest : Bool) (t : Tape) (mode : Anchored) (o : Option ℕ) (answer : Option Pair) → IsHaystack t.bytes
      → first_state d mode ≡ o → SelectsFrom d earliest t o answer
      → SelectsFrom e earliest t (option_map (to mode) o) answer
  selects_from earliest t mode None answer bytes is h = h
  selects_from earliest t mode (Some q) answer bytes is h =
      subst (λ k. Selects k earliest e.nfa t (to mode q) answer) c.kinds
      (selects_carried d.nfa e.nfa t q (to mode q) (R mode t q) (c.there t mode q bytes is) (c.back t mode q bytes is)
      (c.same t mode q) (c.order t mode q) d.kind earliest answer h)

  selects_over :
      (way : Direction) (input : Input) (answer : Option Pair) → IsHaystack input.haystack
      → SelectsOver way d input answer
      → SelectsOver way e input answer
  selects_over way input answer bytes h =
      let t = tape_of way input.haystack input.start input.end in
      subst (λ o. SelectsFrom e input.earliest t o answer) (c.starts input.anchored)
      (selects_from input.earliest t input.anchored (first_state d input.anchored) answer
      (tape_bytes way input.haystack input.start input.end bytes) refl h)

  pub answer_carried :
      (way : Direction) (input : Input) (answer : Option Half) → IsHaystack input.haystack → IsAnswer way d input answer
      → IsAnswer way e input answer
  answer_carried way input answer bytes h =
      answers_turned (SelectsOver way d) (SelectsOver way e) (IsSkipping d) (IsSkipping e) way c.skips
      (selects_over way) input
      answer bytes h

  nearest_carried :
      (t : Tape) (mode : Anchored) (q : ℕ) (answer : Option Pair) → IsHaystack t.bytes → first_state d mode ≡ Some q
      → IsNearest d.nfa t q answer → IsNearest e.nfa t (to mode q) answer
  nearest_carried t mode q None bytes is h =
      λ i p b acc. let f = c.back t mode q bytes is i p b acc in h i p f.0 f.2
  nearest_carried t mode q (Some pair) bytes is h =
      let f = c.there t mode q bytes is pair.place pair.pattern h.0.0 h.0.1 in
      ((f.0, f.2), λ j p b l acc. let g = c.back t mode q bytes is j p b acc in h.1 j p g.0 l g.2)

  farthest_carried :
      (t : Tape) (mode : Anchored) (q : ℕ) (answer : Option Pair) → IsHaystack t.bytes → first_state d mode ≡ Some q
      → IsFarthest d.nfa t q answer → IsFarthest e.nfa t (to mode q) answer
  farthest_carried t mode q None bytes is h =
      λ i p b acc. let f = c.back t mode q bytes is i p b acc in h i p f.0 f.2
  farthest_carried t mode q (Some pair) bytes is h =
      let f = c.there t mode q bytes is pair.place pair.pattern h.0.0 h.0.1 in
      ((f.0, f.2), λ j p b l acc. let g = c.back t mode q bytes is j p b acc in h.1 j p g.0 l g.2)

  -- A rule about match ends carries over to the second engine, over each span.
  ends_over :
      (Rule : Nfa → Tape → ℕ → Option Pair → Type 0)
      → ((t : Tape) (mode : Anchored) (q : ℕ) (answer : Option Pair) → IsHaystack t.bytes → first_state d mode ≡ Some q
      → Rule d.nfa t q answer → Rule e.nfa t (to mode q) answer)
      → (way : Direction) (input : Input) (answer : Option Pair) → IsHaystack input.haystack
      → EndsOver Rule way d input answer
      → EndsOver Rule way e input answer
  ends_over Rule turn way input answer bytes h =
      subst (λ o. EndsFrom Rule e t o answer) (c.starts input.anchored) (go (first_state d input.anchored) refl h)
    where
      t : Tape
      t = tape_of way input.haystack input.start input.end

      go :
          (o : Option ℕ) → first_state d input.anchored ≡ o → EndsFrom Rule d t o answer
          → EndsFrom Rule e t (option_map (to input.anchored) o) answer
      go None is h = h
      go (Some q) is h =
          turn t input.anchored q answer (tape_bytes way input.haystack input.start input.end bytes) is h

  pub near_carried :
      (way : Direction) (input : Input) (answer : Option Half) → IsHaystack input.haystack
      → IsNearestAnswer way d input answer
      → IsNearestAnswer way e input answer
  near_carried way input answer bytes h =
      answers_turned (EndsOver IsNearest way d) (EndsOver IsNearest way e) (IsSkipping d) (IsSkipping e) way c.skips
      (ends_over IsNearest nearest_carried way) input answer bytes h

  pub far_carried :
      (way : Direction) (input : Input) (answer : Option Half) → IsHaystack input.haystack
      → IsFarthestAnswer way d input answer
      → IsFarthestAnswer way e input answer
  far_carried way input answer bytes h =
      answers_turned (EndsOver IsFarthest way d) (EndsOver IsFarthest way e) (IsSkipping d) (IsSkipping e) way c.skips
      (ends_over IsFarthest farthest_carried way) input answer bytes h

  pub match_carried :
      (input : Input) (truth : Bool) → IsHaystack input.haystack → IsMatch d input truth → IsMatch e input truth
  match_carried input truth bytes h = (h.0, answer_carried Forward (in_full input) h.0 bytes h.1, h.2)

  overlaps_from :
      (t : Tape) (mode : Anchored) (o : Option ℕ) (pairs : List Pair) → IsHaystack t.bytes
      → first_state d mode ≡ o → IsOverlappingFrom d t o pairs → IsOverlappingFrom e t (option_map (to mode) o) pairs
  overlaps_from t mode None pairs bytes is h = h
  overlaps_from t mode (Some q) pairs bytes is h =
      subst (λ k. IsOverlappingOn k e.nfa t (to mode q) pairs) c.kinds
      (overlapping_carried d.nfa e.nfa t q (to mode q) (R mode t q) (c.there t mode q bytes is)
      (c.back t mode q bytes is) (c.same t mode q) (c.order t mode q) d.kind pairs h)

  overlaps_over :
      (way : Direction) (input : Input) (pairs : List Pair) → IsHaystack input.haystack → OverlapsOver way d input pairs
      → OverlapsOver way e input pairs
  overlaps_over way input pairs bytes h =
      let t = tape_of way input.haystack input.start input.end in
      subst (λ o. IsOverlappingFrom e t o pairs) (c.starts input.anchored)
      (overlaps_from t input.anchored (first_state d input.anchored) pairs
      (tape_bytes way input.haystack input.start input.end bytes) refl h)

  unsplit_carried :
      (way : Direction) (input : Input) (pairs found : List Pair) → AreUnsplit (IsSkipping d) way input pairs found
      → AreUnsplit (IsSkipping e) way input pairs found
  unsplit_carried way input pairs found (SkipsSplit s e) = SkipsSplit (c.skips.0 s) e
  unsplit_carried way input pairs found (KeepsSplit f e) = KeepsSplit (λ s. f (c.skips.1 s)) e

  pub walk_carried :
      (way : Direction) (input : Input) (found : List Pair) → IsHaystack input.haystack
      → IsOverlapping way d input found
      → IsOverlapping way e input found
  walk_carried way input found bytes (WalksNoSpan l e) = WalksNoSpan l e
  walk_carried way input found bytes (WalksSpan l pairs o unsplit) =
      WalksSpan l pairs (overlaps_over way input pairs bytes o) (unsplit_carried way input pairs found unsplit)

  pub set_carried :
      (input : Input) (capacity : ℕ) (given found : List ℕ) → IsHaystack input.haystack
      → ArePatternsFound d input capacity given found → ArePatternsFound e input capacity given found
  set_carried input capacity given found bytes h = record {
    pairs = h.pairs;
    reports = walk_carried Forward input h.pairs bytes h.reports;
    members = h.members;
  }

  pub span_carried :
      (input : Input) (answer : Option Match) → IsHaystack input.haystack → IsSpan d input answer
      → IsSpan e input answer
  span_carried input None bytes h = answer_carried Forward input None bytes h
  span_carried input (Some m) bytes s =
      let t = forward_tape input.haystack s.half.base input.end in
      let b = tape_bytes Forward input.haystack s.half.base input.end bytes in
      let there = c.there t input.anchored s.first b s.is_first in
      let back = c.back t input.anchored s.first b s.is_first in
      let f = there s.length s.half.pattern s.path s.chosen.0 in
      let chosen : Chooses e input.earliest t (to input.anchored s.first) s.length s.half.pattern f.0 = (
        f.2,
        λ j r other acc.
            let g = back j r other acc in
            subst (λ k. IsChosen k input.earliest s.length f.0 j other) c.kinds
            (chosen_carried d.nfa e.nfa t s.first (to input.anchored s.first) (R input.anchored t s.first) there back
            (c.same t input.anchored s.first) (c.order t input.anchored s.first) d.kind input.earliest
            s.length j s.path f.0 g.0 other f.1 g.1 (s.chosen.1 j r g.0 g.2)),
      ) in record {
        half = s.half;
        answer = answer_carried Forward input (Some s.half) bytes s.answer;
        first = to input.anchored s.first;
        is_first = sym (c.starts input.anchored) ∙ ap (option_map (to input.anchored)) s.is_first;
        length = s.length;
        ends = s.ends;
        path = f.0;
        chosen = chosen;
        before = s.before;
        begins = c.begins t input.anchored s.first s.before s.path f.0 b s.is_first f.1 s.begins;
        pattern = s.pattern;
        start = s.start;
        end = s.end;
      }

  next_carried :
      (input : Input) (start : ℕ) (last : Option ℕ) (found : Option Match) → IsHaystack input.haystack
      → IsNextItem (IsSpan d) input start last found → IsNextItem (IsSpan e) input start last found
  next_carried input start last found bytes (FindsHere h apart) =
      FindsHere (span_carried (from start input) found bytes h) apart
  next_carried input start last found bytes (FindsLater m h empty later) =
      FindsLater m (span_carried (from start input) (Some m) bytes h) empty
      (span_carried (from (suc start) input) found bytes later)

  matches_carried :
      (input : Input) (start : ℕ) (last : Option ℕ) (ms : List Match) → IsHaystack input.haystack
      → AreMatches (IsSpan d) input start last ms → AreMatches (IsSpan e) input start last ms
  matches_carried input start last [] bytes h = next_carried input start last None bytes h
  matches_carried input start last (m ∷ ms) bytes h =
      (next_carried input start last (Some m) bytes h.0, matches_carried input m.end (Some m.end) ms bytes h.1)

  pub spans_carried :
      (input : Input) (ms : List Match) → IsHaystack input.haystack → AreSpans d input ms → AreSpans e input ms
  spans_carried input ms bytes h = matches_carried input input.start None ms bytes h

-- Engines each of which answers as the other does.
pub both_alike :
    (d e : Engine) (to from : Anchored → ℕ → ℕ) (R S : Anchored → Tape → ℕ → List ℕ → List ℕ → Type 0)
    → IsCarried d e to R → IsCarried e d from S → AnswerAlike d e
both_alike d e to from R S c k = record {
  searches = record {
    answer =
        λ way input o bytes.
        (answer_carried d e to R c way input o bytes, answer_carried e d from S k way input o bytes);
    truth =
        λ input o bytes. (match_carried d e to R c input o bytes, match_carried e d from S k input o bytes);
    nearest =
        λ way input o bytes. (near_carried d e to R c way input o bytes, near_carried e d from S k way input o bytes);
    farthest =
        λ way input o bytes. (far_carried d e to R c way input o bytes, far_carried e d from S k way input o bytes);
  };
  matches = record {
    span = λ input o bytes. (span_carried d e to R c input o bytes, span_carried e d from S k input o bytes);
    list = λ input ms bytes. (spans_carried d e to R c input ms bytes, spans_carried e d from S k input ms bytes);
    overlapping =
        λ way input found bytes.
        (walk_carried d e to R c way input found bytes, walk_carried e d from S k way input found bytes);
    patterns =
        λ input capacity given found bytes. (
          set_carried d e to R c input capacity given found bytes,
          set_carried e d from S k input capacity given found bytes,
        );
  };
  skipping = c.skips;
}

-- An engine answers as itself.
pub alike_self : (d : Engine) → AnswerAlike d d
alike_self d = record {
  searches = record {
    answer = λ way input o bytes. ((λ h. h), (λ h. h));
    truth = λ input o bytes. ((λ h. h), (λ h. h));
    nearest = λ way input o bytes. ((λ h. h), (λ h. h));
    farthest = λ way input o bytes. ((λ h. h), (λ h. h));
  };
  matches = record {
    span = λ input o bytes. ((λ h. h), (λ h. h));
    list = λ input ms bytes. ((λ h. h), (λ h. h));
    overlapping = λ way input found bytes. ((λ h. h), (λ h. h));
    patterns = λ input capacity given found bytes. ((λ h. h), (λ h. h));
  };
  skipping = ((λ h. h), (λ h. h));
}
