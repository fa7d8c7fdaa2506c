-- One anchored pass at the first offset where a match begins finds that match.
use Rattle.std.proofs.Common.{ℕ, zero, suc, ◌≡◌, ◌+◌, Bool, false, List, ◌∷◌, Some}
use Rattle.std.proofs.Common.{inl, inr, refl, sym, ap, subst, arith}
use Rattle.automata_base.specs.Paths.Order.{Upto, TakesSame}
use Rattle.automata_base.specs.Paths.Paths.{Tape}
use Rattle.automata_base.specs.Paths.Selections.{Accepts, IsChosen, Selects}
use Rattle.automata_base.specs.Haystacks.Tapes.{forward_tape, is_split}
use Rattle.automata_base.specs.Haystacks.Input.{Input}
use Rattle.automata_base.specs.declared.util.search.Direction.TheVariants.{Forward}
use Rattle.automata_base.specs.declared.util.search.MatchKind.{MatchKind}
use Rattle.automata_base.specs.declared.util.search.MatchKind.TheVariants.{LeftmostFirst}
use Rattle.automata_base.specs.Nfas.Engines.{Engine, IsSkipping, first_state}
use Rattle.automata_base.specs.Answers.Answers.{HasAnswerAt, Half, IsAnswer, IsFirstSpan, SelectsFrom, SelectsOver}
use Rattle.automata_base.specs.Answers.Spans.{Chooses, IsPathStart, IsSpan, from}
use Rattle.automata_base.proofs.Answers.Backs.{end_inside, forward_bytes}
use Rattle.automata_base.proofs.Answers.Chosen.{StartsAt, lazy_start, starts_at}
use Rattle.automata_base.proofs.Answers.Loops.{sooner_less}
use Rattle.automata_base.proofs.Answers.Tried.{tries_once}
use Rattle.automata_base.proofs.Paths.Searches.{accepting_inside}
use Rattle.prefilters.specs.Skipping.{MaySkipTo, NoneBegins, anchored_from}
use Rattle.prefilters.proofs.Answering.{span_moves}
use Rattle.prefilters.proofs.Moving.{accepts_from}
use Rattle.prefilters.proofs.Nowhere.{yes_no}

upto_of :
    (kind : MatchKind) (earliest : Bool) (i j : ℕ) (path other : List ℕ) → kind ≡ LeftmostFirst → earliest ≡ false
    → IsChosen kind earliest i path j other → Upto path other
upto_of kind earliest i j path other k e c =
    subst (λ v. IsChosen LeftmostFirst v i path j other) e (subst (λ v. IsChosen v earliest i path j other) k c)

of_upto :
    (kind : MatchKind) (earliest : Bool) (i j : ℕ) (path other : List ℕ) → kind ≡ LeftmostFirst → earliest ≡ false
    → Upto path other → IsChosen kind earliest i path j other
of_upto kind earliest i j path other k e u =
    subst (λ v. IsChosen v earliest i path j other) (sym k)
    (subst (λ v. IsChosen LeftmostFirst v i path j other) (sym e) u)

upto_cons : (e : ℕ) (a b : List ℕ) → Upto a b → Upto (e ∷ a) (e ∷ b)
upto_cons e a b (inl s) = inl (ap (λ v. e ∷ v) s)
upto_cons e a b (inr l) = inr (TakesSame refl l)

module _ (d : Engine) (input : Input) (p : ℕ) (half : Half) (kind : d.kind ≡ LeftmostFirst)
    (full : input.earliest ≡ false) (m : MaySkipTo d input p) where
  abbrev t : Tape
  t = forward_tape input.haystack p input.end

  none_here : NoneBegins d input.haystack input.end p p
  none_here o l k = absurd (omega (arith, l, k))

  -- the anchored path, before which any byte might have been skipped
  here :
      (i pattern : ℕ) (path : List ℕ) → Accepts d.nfa t d.anchored i pattern path
      → StartsAt d t 0 i pattern (0 ∷ path) path
  here i pattern path a = (refl, (a.0, a.1, a.2))

  chosen :
      (i pattern : ℕ) (path : List ℕ) → Accepts d.nfa t d.anchored i pattern path
      → ((j q : ℕ) (other : List ℕ) → Accepts d.nfa t d.anchored j q other
      → IsChosen d.kind input.earliest i path j other)
      → Chooses d input.earliest t d.unanchored i pattern (0 ∷ path)
  chosen i pattern path a least = (
    accepts_from d m.loops.0 input.haystack p p input.end 0 m.loops.1 m.of_bytes.0 (omega arith) m.upto m.of_bytes.1
        none_here p 0 i pattern (0 ∷ path) path
        (end_inside d input.haystack p input.end d.anchored i pattern path m.upto m.of_bytes.1 a)
        (here i pattern path a),
    λ j q other c. of_upto d.kind input.earliest i j (0 ∷ path) other kind full
        (first (starts_at d m.loops.0 t j q other m.loops.1 c)),
  )
    where
      first :
          {j q : ℕ} {other : List ℕ} → (k : ℕ) × (rest : List ℕ) × StartsAt d t k j q other rest
          → Upto (0 ∷ path) other
      first {j} {q} {other} (zero, rest, s) =
          subst (λ v. Upto (0 ∷ path) v) (sym s.0)
          (upto_cons 0 path rest (upto_of d.kind input.earliest i j path rest kind full
          (least j q rest (s.1.0, s.1.1, s.1.2))))
      first {j} {q} {other} (suc k, rest, s) =
          subst (λ v. Upto (0 ∷ path) v) (sym s.0) (inr (sooner_less 0 (suc k) path rest (omega arith)))

  abbrev Found : Type 0
  Found = IsSpan d (from p input) (Some (record { pattern = half.pattern; start = p; end = half.offset }))

  found :
      (k : ℕ) → k ≡ 0
      → HasAnswerAt (SelectsOver Forward d) (IsSkipping d) Forward (anchored_from p input) k half → Found
  found k z a = record {
    half = record { pattern = half.pattern; offset = half.offset; base = p };
    answer = (
      0,
      record { comes = IsFirstSpan refl; before = λ j l. absurd (omega (arith, l)) },
      record {
        pair = a.pair;
        within = let u = m.upto in omega (arith, u);
        reported = subst (λ w. SelectsFrom d input.earliest (forward_tape input.haystack (p + 0) input.end)
            (first_state d w) (Some a.pair)) (sym m.free)
            (subst (λ v. Selects d.kind input.earliest d.nfa (forward_tape input.haystack v input.end) d.unanchored
            (Some a.pair)) (sym none) (0 ∷ s.0, c.0, c.1));
        whole = λ x. subst (λ v. is_split input.haystack (p + v + a.pair.place) ≡ false) z (a.whole x);
        pattern = a.pattern;
        offset = subst (λ v. half.offset ≡ p + v + a.pair.place) z a.offset;
        base = sym none;
      },
    );
    first = d.unanchored;
    is_first = ap (λ w. first_state d w) m.free;
    length = a.pair.place;
    ends = subst (λ v. half.offset ≡ v + a.pair.place) same a.offset;
    path = 0 ∷ s.0;
    chosen = subst (λ w. Chooses d input.earliest t d.unanchored a.pair.place w (0 ∷ s.0)) (sym a.pattern) c;
    before = 0;
    begins = subst (λ w. IsPathStart d w t (0 ∷ s.0) 0) (sym m.free)
        (lazy_start d m.loops.0 t 0 a.pair.place a.pair.pattern (0 ∷ s.0) s.0 m.loops.1
        (forward_bytes input.haystack p input.end m.of_bytes.0 m.upto m.of_bytes.1)
        (accepting_inside d.nfa t d.unanchored a.pair.place a.pair.pattern (0 ∷ s.0) c.0)
        (here a.pair.place a.pair.pattern s.0 s.1));
    pattern = refl;
    start = sym none;
    end = refl;
  }
    where
      none : p + 0 ≡ p
      none = omega arith

      same : p + k ≡ p
      same = omega (arith, z)

      s : Selects d.kind input.earliest d.nfa t d.anchored (Some a.pair)
      s =
          subst (λ v. Selects d.kind input.earliest d.nfa (forward_tape input.haystack v input.end) d.anchored
          (Some a.pair)) same a.reported

      c : Chooses d input.earliest t d.unanchored a.pair.place a.pair.pattern (0 ∷ s.0)
      c = chosen a.pair.place a.pair.pattern s.0 s.1 s.2

  pub anchored_span :
      IsAnswer Forward d (anchored_from p input) (Some half)
      → IsSpan d input (Some (record { pattern = half.pattern; start = p; end = half.offset }))
  anchored_span a =
      span_moves d input p m (Some (record { pattern = half.pattern; start = p; end = half.offset }))
      (found a.0 (tries_once (IsSkipping d) (anchored_from p input) a.0 (λ s free. yes_no free) a.1.comes) a.2)
