-- The reverse search finds the start of the chosen path, so a search returns the right span.
use Rattle.std.proofs.Common.{ℕ, ◌≡◌, ◌≤◌, ◌+◌, ◌-◌, false, List, [], ◌⊎◌, length, Option, Some, None, inl, inr, refl}
use Rattle.std.proofs.Common.{sym, ap, ◌∙◌, subst, arith}
use Rattle.automata_base.specs.Paths.Paths.{Tape}
use Rattle.automata_base.proofs.Paths.Searches.{accepting_inside}
use Rattle.automata_base.proofs.Paths.Places.{path_grows}
use Rattle.automata_base.specs.Haystacks.Tapes.{IsHaystack, forward_tape, reverse_tape, is_split}
use Rattle.automata_base.specs.declared.util.search.Direction.TheVariants.{Forward, Backward}
use Rattle.automata_base.specs.Paths.Selections.{IsFarthest, Selects}
use Rattle.automata_base.specs.declared.util.search.MatchKind.TheVariants.{All}
use Rattle.automata_base.specs.Nfas.Engines.{Engine, BeginsAnchored, IsSkipping}
use Rattle.automata_base.specs.declared.util.search.Anchored.{Anchored}
use Rattle.automata_base.specs.declared.util.search.Anchored.TheVariants.{No, Yes, Pattern}
use Rattle.automata_base.specs.Nfas.Engines.{LoopsLazily, BeginsLazily, LazyLoop, SharedStart}
use Rattle.automata_base.specs.Answers.Answers.{Half, IsAnswer, SelectsOver}
use Rattle.automata_base.specs.Haystacks.Input.{Input}
use Rattle.automata_base.specs.Answers.TruePairs.{IsTruePair, KeepsUtf8}
use Rattle.automata_base.specs.Answers.Spans.{IsPathStart, Chooses, IsSpan, IsShort, back, FindsStartBy, Outcome, Found}
use Rattle.automata_base.specs.Answers.Spans.{NotAPair, IsTrySearch, IsFarSearch, FindsSpan, StartIsBase, StartIsFound}
use Rattle.automata_base.specs.Answers.OfPasses.{EndsOver, IsFarthestAnswer}
use Rattle.automata_base.proofs.Answers.Chosen.{StartsAt, starts_at, lazy_start}
use Rattle.automata_determinize.proofs.Answers.Chosen.{all_farthest, same_start}
use Rattle.automata_base.proofs.Answers.Backs.{end_inside, forward_bytes}
use Rattle.automata_determinize.proofs.Answers.Starts.{mode_cases, unanchored, back_answer, goes_to_start}
use Rattle.automata_base.proofs.Answers.Starts.{Answered, answered}
use Rattle.automata_determinize.proofs.Answers.Starts.{start_unsplit, anchored_back}
use Rattle.automata_determinize.proofs.Answers.Turning.{turn_answers, turn_outcome}
use Rattle.automata_base.proofs.Paths.Orders.{none_some}

-- The match of an anchored path starts at position 0.
pub anchored_start : (d : Engine) (m : Anchored) (t : Tape) (path : List ℕ) → (m ≡ No → ⊥) → IsPathStart d m t path 0
anchored_start d No t path f = absurd (f refl)
anchored_start d Yes t path f = refl
anchored_start d (Pattern k) t path f = refl

-- The chosen path of an unanchored search over a lazy loop, with its start.
abbrev pub Looped : Engine → Input → Half → (i : ℕ) → List ℕ → Type 0
Looped d input half i path =
    (k : ℕ) × (rest : List ℕ) × StartsAt d (forward_tape input.haystack half.base input.end) k i half.pattern path rest
    × (k ≤ i) × IsPathStart d input.anchored (forward_tape input.haystack half.base input.end) path k

looped :
    (d : Engine) (x : ℕ) (input : Input) (half : Half) (q i : ℕ) (path : List ℕ)
    → LoopsLazily d.nfa d.anchored d.unanchored x → IsHaystack input.haystack → input.end ≤ length input.haystack
    → input.anchored ≡ No
    → Answered d input half q i path → Looped d input half i path
looped d x input half q i path loop bytes w m a = (
  s.0,
  s.1,
  s.2,
  path_grows d.nfa t s.0 [] d.anchored s.1 i s.2.1.0 s.2.1.1,
  subst (λ v. IsPathStart d v t path s.0) (sym m)
      (lazy_start d x t s.0 i half.pattern path s.1 loop
      (forward_bytes input.haystack half.base input.end bytes a.4 w)
      (accepting_inside d.nfa t d.unanchored i half.pattern path c.0) s.2),
)
  where
    t : Tape
    t = forward_tape input.haystack half.base input.end

    c : Chooses d input.earliest t d.unanchored i half.pattern path
    c = unanchored d input half q i path m a

    s : (k : ℕ) × (rest : List ℕ) × StartsAt d t k i half.pattern path rest
    s = starts_at d x t i half.pattern path loop c.0

-- If no reverse search is made, the chosen path starts at the base.
pub short_start :
    (d : Engine) (input : Input) (half : Half) (q i : ℕ) (path : List ℕ)
    → BeginsLazily d.nfa d.anchored d.unanchored → IsHaystack input.haystack → input.end ≤ length input.haystack
    → Answered d input half q i path → IsShort d input half
    → IsPathStart d input.anchored (forward_tape input.haystack half.base input.end) path 0
short_start d input half q i path lazy bytes w a short = go (mode_cases input.anchored) lazy short
  where
    t : Tape
    t = forward_tape input.haystack half.base input.end

    same : input.anchored ≡ No → BeginsAnchored d → IsPathStart d input.anchored t path 0
    same m e = subst (λ v. IsPathStart d v t path 0) (sym m) (same_start d t path e)

    go :
        (input.anchored ≡ No) ⊎ (input.anchored ≡ No → ⊥) → BeginsLazily d.nfa d.anchored d.unanchored
        → IsShort d input half → IsPathStart d input.anchored t path 0
    go (inr f) lazy short = anchored_start d input.anchored t path f
    go (inl m) (SharedStart e) short = same m e
    go (inl m) (LazyLoop x loop) (inr (inl f)) = absurd (f m)
    go (inl m) (LazyLoop x loop) (inr (inr e)) = same m e
    go (inl m) (LazyLoop x loop) (inl e) =
        let c = looped d x input half q i path loop bytes w m a in
        subst (λ v. IsPathStart d input.anchored t path v) (omega (arith, c.3, e, a.1)) c.4

-- The chosen path has a start, and the reverse search finds it.
abbrev pub StartFound : Engine → Engine → Input → Half → List ℕ → Type 0
StartFound f r input half path =
    (place : ℕ) × IsPathStart f input.anchored (forward_tape input.haystack half.base input.end) path place
    × (half.base + place ≤ half.offset)
    × ((answer : Option Half) → IsFarthestAnswer Backward r (back input half) answer
    → (found : Half) × (answer ≡ Some found) × (found.offset ≡ half.base + place))

pub start_found :
    (f r : Engine) (input : Input) (half : Half) (q i : ℕ) (path : List ℕ)
    → IsTruePair f r → KeepsUtf8 Forward f → IsHaystack input.haystack → input.end ≤ length input.haystack
    → Answered f input half q i path → (IsShort f input half → ⊥) → StartFound f r input half path
start_found f r input half q i path pair keeps bytes w a long = go (mode_cases input.anchored) pair.begins
  where
    h : List ℕ
    h = input.haystack

    go :
        (input.anchored ≡ No) ⊎ (input.anchored ≡ No → ⊥) → BeginsLazily f.nfa f.anchored f.unanchored
        → StartFound f r input half path
    go (inr g) lazy = absurd (long (inr (inl g)))
    go (inl m) (SharedStart e) = absurd (long (inr (inr e)))
    go (inl m) (LazyLoop x loop) = (c.0, c.4, omega (arith, c.3, a.1), finds)
      where
        c : Looped f input half i path
        c = looped f x input half q i path loop bytes w m a

        chosen : Chooses f input.earliest (forward_tape h half.base input.end) f.unanchored i half.pattern path
        chosen = unanchored f input half q i path m a

        inside : half.base + i ≤ input.end
        inside = end_inside f h half.base input.end f.unanchored i half.pattern path a.4 w chosen.0

        finds :
            (answer : Option Half) → IsFarthestAnswer Backward r (back input half) answer
            → (found : Half) × (answer ≡ Some found) × (found.offset ≡ half.base + c.0)
        finds answer b =
            let g =
            goes_to_start f r x h half.base input.end input.earliest i c.0 half.pattern path c.1 pair bytes a.4 w
            loop chosen c.2 in
            let u =
            start_unsplit f r h half.base input.end i c.0 half.pattern c.2.1.0 c.1 pair keeps bytes inside w c.3
            c.2.1.1 c.2.1.2 (λ s. ap (λ v. is_split h v) (sym a.1) ∙ a.5 s) in
            let o =
            back_answer r h half.base (half.base + i) (i - c.0) answer (omega arith) g.1
            (λ s. ap (λ v. is_split h v) (omega (arith, c.3)) ∙ u s)
            (subst (λ v. IsFarthestAnswer Backward r (anchored_back h half.base v) answer) a.1 b) in
            (o.0, o.1, o.2 ∙ omega (arith, c.3))

-- For a true pair that keeps the UTF-8 promise, a search returns the span of the chosen path, and never the error that
-- the DFAs do not belong together. It is enough that the reverse search finds the farthest position.
pub far_right :
    (f r : Engine) (input : Input) (outcome : Outcome)
    → IsTruePair f r → KeepsUtf8 Forward f → IsHaystack input.haystack → input.end ≤ length input.haystack
    → IsFarSearch f r input outcome → FindsSpan f input outcome
far_right f r input (Found None) pair keeps bytes w s = (None, refl, s)
far_right f r input NotAPair pair keeps bytes w s =
    let a = answered f input s.0 s.1 in
    let b = start_found f r input s.0 a.0 a.1 a.2 pair keeps bytes w a.3 s.2.0 in
    absurd (none_found (b.3 None s.2.1))
  where
    none_found : {P : Half → Type 0} → (found : Half) × (◌≡◌ {A = Option Half} None (Some found)) × P found → ⊥
    none_found h = none_some h.1
far_right f r input (Found (Some m)) pair keeps bytes w s = (Some m, refl, go s.start)
  where
    half : Half
    half = s.half

    a : (q i : ℕ) × (path : List ℕ) × Answered f input half q i path
    a = answered f input half s.front

    span :
        (before : ℕ) → IsPathStart f input.anchored (forward_tape input.haystack half.base input.end) a.2 before
        → m.start ≡ half.base + before → IsSpan f input (Some m)
    span before begins start = record {
      half = half;
      answer = s.front;
      first = a.0;
      is_first = a.3.0;
      length = a.1;
      ends = a.3.1;
      path = a.2;
      chosen = a.3.2;
      before = before;
      begins = begins;
      pattern = s.pattern;
      start = start;
      end = s.end;
    }

    go : FindsStartBy (IsFarthestAnswer Backward r) f input half (Some m.start) → IsSpan f input (Some m)
    go (StartIsBase short e) =
        span 0 (short_start f input half a.0 a.1 a.2 pair.begins bytes w a.3 short) (omega (arith, e))
    go (StartIsFound long found backs e) =
        let b = start_found f r input half a.0 a.1 a.2 pair keeps bytes w a.3 long in
        let o = b.3 (Some found) backs in
        span b.0 b.1 (e ∙ (ap (λ v. offset_of v) o.1 ∙ o.2))
      where
        offset_of : Option Half → ℕ
        offset_of None = 0
        offset_of (Some v) = v.offset

-- Under `MatchKind::All`, a reverse search that answers by the ordered paths finds the farthest position.
back_far :
    (r : Engine) (input : Input) (half : Half) (o : Option Half) → r.kind ≡ All
    → IsAnswer Backward r (back input half) o
    → IsFarthestAnswer Backward r (back input half) o
back_far r input half o all a =
    turn_answers (SelectsOver Backward r) (EndsOver IsFarthest Backward r) (IsSkipping r) Backward (back input half)
    (λ k reported inside s.
    all_farthest r.nfa (reverse_tape input.haystack half.base (half.offset - k)) r.anchored reported
    (subst (λ v. Selects v false r.nfa (reverse_tape input.haystack half.base (half.offset - k)) r.anchored reported)
    all s))
    o a

pub span_right :
    (f r : Engine) (input : Input) (outcome : Outcome)
    → IsTruePair f r → KeepsUtf8 Forward f → IsHaystack input.haystack → input.end ≤ length input.haystack
    → IsTrySearch f r input outcome → FindsSpan f input outcome
span_right f r input outcome pair keeps bytes w s =
    far_right f r input outcome pair keeps bytes w
    (turn_outcome (IsAnswer Forward f) (IsAnswer Forward f) (IsAnswer Backward r) (IsFarthestAnswer Backward r) f input
    (λ o a. a) (λ half o a b. back_far r input half o pair.all b) outcome s)
