-- A search over the whole span selects, answers and finds what one does that begins later.
use Rattle.std.proofs.Common.{ℕ, zero, suc, ◌≡◌, ◌<◌, ◌≤◌, ◌+◌, ◌-◌, Bool, true, false, List, ◌⊎◌}
use Rattle.std.proofs.Common.{Option, Some, None, is_some}
use Rattle.std.proofs.Common.{inl, inr, refl, sym, ap, ◌∙◌, subst, arith, ⊎_elim}
use Rattle.std.proofs.lemmas.Bool.{cases_lt}
use Rattle.automata_base.specs.Paths.Selections.{Pair, Selects}
use Rattle.automata_base.specs.Haystacks.Tapes.{forward_tape, is_split}
use Rattle.automata_base.specs.Haystacks.Input.{Input}
use Rattle.automata_base.specs.Haystacks.Matches.{Match}
use Rattle.automata_base.specs.declared.util.search.Direction.TheVariants.{Forward}
use Rattle.automata_base.specs.declared.util.search.Anchored.TheVariants.{No}
use Rattle.automata_base.specs.Nfas.Engines.{Engine, IsSkipping, first_state}
use Rattle.automata_base.specs.Answers.Answers.{Half, HasAnswerAt, HasNoAnswerAt, IsAnswer, IsFirstSpan, IsSplit}
use Rattle.automata_base.specs.Answers.Answers.{SelectsFrom, SelectsOver, SkipsToIt, SpanIsDone, SpanReportsNone}
use Rattle.automata_base.specs.Answers.Answers.{StopsAtSplit, Tries}
use Rattle.automata_base.specs.Answers.Spans.{Chooses, IsMatch, IsPathStart, IsSpan, from, in_full}
use Rattle.automata_base.proofs.Answers.Tried.{tries_on}
use Rattle.automata_base.proofs.Answers.Backs.{forward_bytes, end_inside}
use Rattle.automata_base.proofs.Answers.Chosen.{StartsAt, starts_at, lazy_start}
use Rattle.automata_base.proofs.Answers.Once.{start_once}
use Rattle.automata_base.proofs.Answers.Loops.{skips}
use Rattle.automata_base.proofs.Paths.Searches.{accepting_inside}
use Rattle.automata_base.proofs.Paths.Orders.{some_inj}
use Rattle.prefilters.specs.Skipping.{MaySkipTo, IsRebased, MovesAnswer, shifted_pair}
use Rattle.prefilters.proofs.Moving.{move_selected, move_chosen, move_start}

module _ (d : Engine) (input : Input) (p : ℕ) (m : MaySkipTo d input p) where
  abbrev Over : Input → Option Pair → Type 0
  Over = SelectsOver Forward d

  forth :
      (v : ℕ) (o : Option Pair) → Over (from v input) o
      → Selects d.kind input.earliest d.nfa (forward_tape input.haystack v input.end) d.unanchored o
  forth v o s =
      subst (λ w. SelectsFrom d input.earliest (forward_tape input.haystack v input.end) (first_state d w) o) m.free s

  back_to :
      (v : ℕ) (o : Option Pair)
      → Selects d.kind input.earliest d.nfa (forward_tape input.haystack v input.end) d.unanchored o
      → Over (from v input) o
  back_to v o s =
      subst (λ w. SelectsFrom d input.earliest (forward_tape input.haystack v input.end) (first_state d w) o)
      (sym m.free) s

  move_at :
      (a g : ℕ) (o : Option Pair) → a + g ≡ p → input.start ≤ a → Over (from p input) o
      → Over (from a input) (shifted_pair g o)
  move_at a g o same l s =
      back_to a (shifted_pair g o)
      (move_selected d m.loops.0 input.haystack a p input.end g m.loops.1 m.of_bytes.0 same m.upto m.of_bytes.1
      (λ v k k'. m.none v (omega (arith, l, k)) k') input.earliest o (forth p o s))

  pub selection_moves :
      (o : Option Pair) → Over (from p input) o → Over input (shifted_pair (p - input.start) o)
  selection_moves o s = move_at input.start (p - input.start) o (let k = m.from in omega (arith, k)) (omega arith) s

  split_moves :
      (a g : ℕ) → a + g ≡ p → input.start ≤ a → IsSplit Over Forward (from p input)
      → IsSplit Over Forward (from a input)
  split_moves a g same l s = (
    record { pattern = s.0.pattern; place = g + s.0.place },
    move_at a g (Some s.0) same l s.1,
    subst (λ v. is_split input.haystack v ≡ true) e s.2,
  )
    where
      e : p + s.0.place ≡ a + (g + s.0.place)
      e = omega (arith, same)

  -- how far it is
  g : ℕ
  g = p - input.start

  far : input.start + g ≡ p
  unfolding g
  far = let k = m.from in omega (arith, k)

  same_later : (k : ℕ) → p + k ≡ input.start + (g + k)
  same_later k = let f = far in omega (arith, f)

  first_tries : Tries Over (IsSkipping d) Forward input 0
  first_tries = record { comes = IsFirstSpan refl; before = λ j l. absurd (omega (arith, l)) }

  tries_move :
      (k : ℕ) → 0 < k → Tries Over (IsSkipping d) Forward (from p input) k
      → Tries Over (IsSkipping d) Forward input (g + k)
  tries_move k l t = record {
    comes = let c = tries_on (IsSkipping d) (from p input) 0 k l t.comes in SkipsToIt c.0 c.1;
    before = before;
  }
    where
      before :
          (j : ℕ) → j < g + k → (input.start + j ≤ input.end) × IsSplit Over Forward (from (input.start + j) input)
      before j less = ⊎_elim
          (λ (b : g < j).
          let e : p + (j - g) ≡ input.start + j = (let f = far in omega (arith, f, b)) in
          let t' = t.before (j - g) (omega (arith, less, b)) in
          let u = t'.0 in
          (omega (arith, u, e), subst (λ v. IsSplit Over Forward (from v input)) e t'.1))
          (λ (b : j ≤ g).
          let z : p + 0 ≡ p = omega arith in
          let f = far in
          let u = m.upto in (
            omega (arith, f, b, u),
            split_moves (input.start + j) (g - j) (omega (arith, f, b)) (omega arith)
                (subst (λ v. IsSplit Over Forward (from v input)) z (t.before 0 l).1),
          ))
          (cases_lt g j)

  none_moves :
      (k : ℕ) → HasNoAnswerAt Over (IsSkipping d) Forward (from p input) k
      → HasNoAnswerAt Over (IsSkipping d) Forward input (g + k)
  none_moves k (SpanIsDone l) = SpanIsDone (let f = far in omega (arith, l, f))
  none_moves k (SpanReportsNone r) = SpanReportsNone (subst (λ v. Over (from v input) None) (same_later k) r)
  none_moves k (StopsAtSplit s f b) = absurd (f m.free)

  abbrev Moves : Half → Type 0
  Moves half = (other : Half) × IsAnswer Forward d input (Some other) × IsRebased input.start p half other

  some_moves :
      (k : ℕ) (half : Half) → 0 < k → Tries Over (IsSkipping d) Forward (from p input) k
      → HasAnswerAt Over (IsSkipping d) Forward (from p input) k half → Moves half
  some_moves k half l t a = (
    half,
    (
      g + k,
      tries_move k l t,
      record {
        pair = a.pair;
        within = let w = a.within in let e = same_later k in omega (arith, w, e);
        reported = subst (λ v. Over (from v input) (Some a.pair)) (same_later k) a.reported;
        whole = λ s. subst (λ v. is_split input.haystack (v + a.pair.place) ≡ false) (same_later k) (a.whole s);
        pattern = a.pattern;
        offset = subst (λ v. half.offset ≡ v + a.pair.place) (same_later k) a.offset;
        base = a.base ∙ same_later k;
      },
    ),
    record { pattern = refl; offset = refl; base = inl refl },
  )

  first_moves :
      (half : Half) → HasAnswerAt Over (IsSkipping d) Forward (from p input) 0 half → Moves half
  first_moves half a = (
    record { pattern = half.pattern; offset = half.offset; base = input.start },
    (
      0,
      first_tries,
      record {
        pair = record { pattern = a.pair.pattern; place = g + a.pair.place };
        within = let f = far in let u = m.upto in omega (arith, f, u);
        reported = move_at (input.start + 0) g (Some a.pair) (let f = far in omega (arith, f)) (omega arith)
            (subst (λ v. Over (from v input) (Some a.pair)) z a.reported);
        whole = λ s. subst (λ v. is_split input.haystack v ≡ false) e (a.whole s);
        pattern = a.pattern;
        offset = a.offset ∙ e;
        base = omega arith;
      },
    ),
    record { pattern = refl; offset = refl; base = inr (a.base ∙ z, refl) },
  )
    where
      z : p + 0 ≡ p
      z = omega arith

      e : p + 0 + a.pair.place ≡ input.start + 0 + (g + a.pair.place)
      e = let f = far in omega (arith, f)

  pub answer_moves : (o : Option Half) → IsAnswer Forward d (from p input) o → MovesAnswer d input p o
  answer_moves None (zero, t, SpanIsDone l) = let u = m.upto in absurd (omega (arith, l, u))
  answer_moves None (zero, t, SpanReportsNone r) = (
    0,
    first_tries,
    SpanReportsNone (move_at (input.start + 0) g None (let f = far in omega (arith, f)) (omega arith)
        (subst (λ v. Over (from v input) None) z r)),
  )
    where
      z : p + 0 ≡ p
      z = omega arith
  answer_moves None (zero, t, StopsAtSplit s f b) = absurd (f m.free)
  answer_moves None (suc k, t, n) = (g + suc k, tries_move (suc k) (omega arith) t, none_moves (suc k) n)
  answer_moves (Some half) (zero, t, a) = first_moves half a
  answer_moves (Some half) (suc k, t, a) = some_moves (suc k) half (omega arith) t a

  pub span_moves : (o : Option Match) → IsSpan d (from p input) o → IsSpan d input o
  span_moves None s = answer_moves None s
  span_moves (Some v) s = go moves.2.base
    where
      moves : Moves s.half
      moves = answer_moves (Some s.half) s.answer

      other : Half
      other = moves.0

      h : List ℕ
      h = input.haystack

      first_is : s.first ≡ d.unanchored
      first_is = some_inj (sym s.is_first ∙ ap (λ w. first_state d w) m.free)

      -- the path of the later search, by where its span begins
      chosen : (b : ℕ) → s.half.base ≡ b → Chooses d input.earliest (forward_tape h b input.end) d.unanchored s.length
          s.half.pattern s.path
      chosen b e =
          subst (λ w. Chooses d input.earliest (forward_tape h b input.end) w s.length s.half.pattern s.path) first_is
          (subst (λ w. Chooses d input.earliest (forward_tape h w input.end) s.first s.length s.half.pattern s.path) e
          s.chosen)

      go :
          (other.base ≡ s.half.base) ⊎ ((s.half.base ≡ p) × (other.base ≡ input.start)) → IsSpan d input (Some v)
      go (inl e) = record {
        half = other;
        answer = moves.1;
        first = s.first;
        is_first = s.is_first;
        length = s.length;
        ends = moves.2.offset ∙ (s.ends ∙ ap (λ w. w + s.length) (sym e));
        path = s.path;
        chosen = subst (λ w. Chooses d input.earliest (forward_tape h other.base input.end) s.first s.length w s.path)
            (sym moves.2.pattern)
            (subst (λ w. Chooses d input.earliest (forward_tape h w input.end) s.first s.length s.half.pattern s.path)
            (sym e) s.chosen);
        before = s.before;
        begins = subst (λ w. IsPathStart d input.anchored (forward_tape h w input.end) s.path s.before) (sym e)
            s.begins;
        pattern = s.pattern ∙ sym moves.2.pattern;
        start = s.start ∙ ap (λ w. w + s.before) (sym e);
        end = s.end ∙ sym moves.2.offset;
      }
      go (inr (e, e')) = record {
        half = other;
        answer = moves.1;
        first = d.unanchored;
        is_first = ap (λ w. first_state d w) m.free;
        length = g + s.length;
        ends = moves.2.offset ∙ (s.ends ∙ (let f = far in omega (arith, f, e, e')));
        path = skips g s.path;
        chosen = subst (λ w. Chooses d input.earliest (forward_tape h other.base input.end) d.unanchored (g + s.length)
            w (skips g s.path)) (sym moves.2.pattern)
            (subst (λ w. Chooses d input.earliest (forward_tape h w input.end) d.unanchored (g + s.length)
            s.half.pattern (skips g s.path)) (sym e') at_start);
        before = g + k;
        begins = subst (λ w. IsPathStart d w (forward_tape h other.base input.end) (skips g s.path) (g + k))
            (sym m.free)
            (subst (λ w. IsPathStart d No (forward_tape h w input.end) (skips g s.path) (g + k)) (sym e') begins);
        pattern = s.pattern ∙ sym moves.2.pattern;
        start = s.start ∙ (let f = far in omega (arith, f, e, e', before_is));
        end = s.end ∙ sym moves.2.offset;
      }
        where
          c : Chooses d input.earliest (forward_tape h p input.end) d.unanchored s.length s.half.pattern s.path
          c = chosen p e

          st :
              (k : ℕ) × (rest : List ℕ)
              × StartsAt d (forward_tape h p input.end) k s.length s.half.pattern s.path rest
          st = starts_at d m.loops.0 (forward_tape h p input.end) s.length s.half.pattern s.path m.loops.1 c.0

          k : ℕ
          k = st.0

          before_is : s.before ≡ k
          before_is =
              start_once d No (forward_tape h p input.end) s.path s.before k
              (subst (λ w. IsPathStart d w (forward_tape h p input.end) s.path s.before) m.free
              (subst (λ w. IsPathStart d input.anchored (forward_tape h w input.end) s.path s.before) e s.begins))
              (lazy_start d m.loops.0 (forward_tape h p input.end) k s.length s.half.pattern s.path st.1 m.loops.1
              (forward_bytes h p input.end m.of_bytes.0 m.upto m.of_bytes.1)
              (accepting_inside d.nfa (forward_tape h p input.end) d.unanchored s.length s.half.pattern s.path c.0)
              st.2)

          at_start :
              Chooses d input.earliest (forward_tape h input.start input.end) d.unanchored (g + s.length)
              s.half.pattern (skips g s.path)
          at_start =
              move_chosen d m.loops.0 h input.start p input.end g m.loops.1 m.of_bytes.0 far m.upto m.of_bytes.1 m.none
              input.earliest s.length s.half.pattern s.path c

          inside : p + s.length ≤ input.end
          inside = end_inside d h p input.end d.unanchored s.length s.half.pattern s.path m.upto m.of_bytes.1 c.0

          begins : IsPathStart d No (forward_tape h input.start input.end) (skips g s.path) (g + k)
          begins =
              lazy_start d m.loops.0 (forward_tape h input.start input.end) (g + k) (g + s.length) s.half.pattern
              (skips g s.path) st.1 m.loops.1
              (forward_bytes h input.start input.end m.of_bytes.0
              (let f = m.from in let u = m.upto in omega (arith, f, u)) m.of_bytes.1)
              (accepting_inside d.nfa (forward_tape h input.start input.end) d.unanchored (g + s.length)
              s.half.pattern (skips g s.path) at_start.0)
              (move_start d m.loops.0 h input.start p input.end g m.loops.1 m.of_bytes.0 far m.upto m.of_bytes.1 m.none
              k s.length s.half.pattern s.path st.1 inside st.2)

-- Whether there is a match.
pub truth_moves :
    (d : Engine) (input : Input) (p : ℕ) (truth : Bool) → MaySkipTo d input p → IsMatch d (from p input) truth
    → IsMatch d input truth
truth_moves d input p truth m (o, a, e) = go o (answer_moves d (in_full input) p full o a) e
  where
    full : MaySkipTo d (in_full input) p
    full = record {
      loops = m.loops;
      of_bytes = m.of_bytes;
      free = m.free;
      from = m.from;
      upto = m.upto;
      none = m.none;
    }

    go : (o : Option Half) → MovesAnswer d (in_full input) p o → truth ≡ is_some o → IsMatch d input truth
    go None a e = (None, a, e)
    go (Some half) a e = (Some a.0, a.1, e)
