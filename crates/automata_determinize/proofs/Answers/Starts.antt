-- For a true pair that keeps the UTF-8 promise, the reverse search finds the start of the path that the forward search
-- chose.
use Rattle.std.proofs.Common.{ℕ, ◌≡◌, ◌<◌, ◌≤◌, ◌+◌, ◌-◌, Bool, false, List, [], ◌⊎◌, length, Option, Some, None, inl}
use Rattle.std.proofs.Common.{inr, refl, sym, ap, ap₂, ◌∙◌, subst, arith, eq-or-lt_of_le, true≢false}
use Rattle.automata_base.specs.Nfas.Nfa.{Nfa, accepts}
use Rattle.automata_base.specs.Paths.Paths.{Tape, IsPathFrom}
use Rattle.automata_base.specs.Paths.Selections.{Accepts, Pair, IsFarthest}
use Rattle.automata_base.proofs.Paths.Orders.{some_inj, some_none}
use Rattle.automata_base.proofs.Paths.Places.{path_grows}
use Rattle.automata_base.specs.Haystacks.Tapes.{IsHaystack, forward_tape, reverse_tape, is_split}
use Rattle.automata_base.specs.declared.util.search.Direction.TheVariants.{Forward, Backward}
use Rattle.automata_base.specs.Nfas.Engines.{Engine, first_state, LoopsLazily, IsSkipping}
use Rattle.automata_base.specs.declared.util.search.Anchored.{Anchored}
use Rattle.automata_base.specs.declared.util.search.Anchored.TheVariants.{No, Yes, Pattern}
use Rattle.automata_base.specs.Answers.Answers.{Half, later, IsSplit, Tries, SpanIsDone}
use Rattle.automata_base.specs.Answers.Answers.{SpanReportsNone}
use Rattle.automata_base.specs.Answers.Answers.{StopsAtSplit}
use Rattle.automata_base.specs.Haystacks.Input.{Input}
use Rattle.automata_base.specs.Answers.TruePairs.{Joins, IsTruePair, KeepsUtf8}
use Rattle.automata_base.specs.Answers.Spans.{Chooses}
use Rattle.automata_base.specs.Answers.OfPasses.{EndsOver, IsFarthestAnswer}
use Rattle.automata_base.proofs.Answers.Chosen.{StartsAt}
use Rattle.automata_determinize.proofs.Answers.Chosen.{least_start}
use Rattle.automata_base.proofs.Answers.Text.{unsplit}
use Rattle.automata_base.proofs.Answers.Backs.{end_inside, forward_bytes, narrow}
use Rattle.automata_determinize.proofs.Answers.Backs.{goes_back, comes_forth}
use Rattle.automata_base.proofs.Answers.Tried.{tries_once}
use Rattle.automata_base.proofs.Answers.Starts.{Answered}

pub yes_no : ◌≡◌ {A = Anchored} Yes No → ⊥
yes_no e = cc

pub pattern_no : (k : ℕ) → ◌≡◌ {A = Anchored} (Pattern k) No → ⊥
pattern_no k e = cc

pub mode_cases : (m : Anchored) → (m ≡ No) ⊎ (m ≡ No → ⊥)
mode_cases No = inl refl
mode_cases Yes = inr yes_no
mode_cases (Pattern k) = inr (pattern_no k)

-- In an unanchored search, the path begins at the unanchored start.
pub unanchored :
    (d : Engine) (input : Input) (half : Half) (q i : ℕ) (path : List ℕ) → input.anchored ≡ No
    → Answered d input half q i path
    → Chooses d input.earliest (forward_tape input.haystack half.base input.end) d.unanchored i half.pattern path
unanchored d input half q i path m a =
    subst (λ v. Chooses d input.earliest (forward_tape input.haystack half.base input.end) v i half.pattern path)
    (some_inj (sym a.0 ∙ ap (λ v. first_state d v) m)) a.2

-- The input of an anchored reverse search, which tries only one span.
abbrev pub anchored_back : List ℕ → ℕ → ℕ → Input
anchored_back h b e = record { haystack = h; start = b; end = e; anchored = Yes; earliest = false }

pub only_once :
    (T : Input → Option Pair → Type 0) (S : Type 0) (h : List ℕ) (b e k : ℕ)
    → Tries T S Backward (anchored_back h b e) k
    → k ≡ 0
only_once T S h b e k c = tries_once S (anchored_back h b e) k (λ s free. yes_no free) c.comes

-- The greatest position at which a path accepts.
abbrev pub IsGreatest : Nfa → Tape → ℕ → ℕ → Type 0
IsGreatest n t start m =
    ((pattern : ℕ) × (path : List ℕ) × Accepts n t start m pattern path)
    × ((j pattern : ℕ) (path : List ℕ) → Accepts n t start j pattern path → j ≤ m)

pub farthest_greatest :
    (n : Nfa) (t : Tape) (start m : ℕ) (answer : Option Pair) → IsGreatest n t start m → IsFarthest n t start answer
    → (pair : Pair) × (answer ≡ Some pair) × (pair.place ≡ m)
farthest_greatest n t start m None g f = absurd (f m g.0.0 g.0.1 g.0.2)
farthest_greatest n t start m (Some pair) g f =
    (pair, refl, place (eq-or-lt_of_le (g.1 pair.place pair.pattern f.0.0 f.0.1)))
  where
    place : (pair.place ≡ m) ⊎ (pair.place < m) → pair.place ≡ m
    place (inl e) = e
    place (inr l) = absurd (f.1 m g.0.0 g.0.1 l g.0.2)

-- A reverse search that finds the farthest position returns the greatest position at which a path accepts.
pub back_answer :
    (r : Engine) (h : List ℕ) (b e m : ℕ) (answer : Option Half) → b ≤ e
    → IsGreatest r.nfa (reverse_tape h b e) r.anchored m
    → (IsSkipping r → is_split h (e - m) ≡ false)
    → IsFarthestAnswer Backward r (anchored_back h b e) answer
    → (found : Half) × (answer ≡ Some found) × (found.offset ≡ e - m)
back_answer r h b e m answer l g u = go answer
  where
    Far : Input → Option Pair → Type 0
    Far = EndsOver IsFarthest Backward r

    first : (k : ℕ) → Tries Far (IsSkipping r) Backward (anchored_back h b e) k → k ≡ 0
    first k c = only_once Far (IsSkipping r) h b e k c

    once : (k : ℕ) → Tries Far (IsSkipping r) Backward (anchored_back h b e) k → e - k ≡ e
    once k c = let z = first k c in omega (arith, z)

    greatest :
        (k : ℕ) (o : Option Pair) → e - k ≡ e → IsFarthest r.nfa (reverse_tape h b (e - k)) r.anchored o
        → (pair : Pair) × (o ≡ Some pair) × (e - k - pair.place ≡ e - m)
    greatest k o same s =
        let p =
        farthest_greatest r.nfa (reverse_tape h b e) r.anchored m o g
        (subst (λ v. IsFarthest r.nfa (reverse_tape h b v) r.anchored o) same s) in
        (p.0, p.1, ap₂ (λ v w. v - w) same p.2)

    place_of : Option Pair → ℕ
    place_of None = 0
    place_of (Some v) = v.place

    same_place : {x y : Pair} → ◌≡◌ {A = Option Pair} (Some x) (Some y) → x.place ≡ y.place
    same_place f = ap (λ v. place_of v) f

    none : (k : ℕ) → e - k ≡ e → IsFarthest r.nfa (reverse_tape h b (e - k)) r.anchored None → ⊥
    none k same s = let p = greatest k None same s in some_none (sym p.1)

    split : (k : ℕ) → e - k ≡ e → IsSkipping r → IsSplit Far Backward (later Backward k (anchored_back h b e)) → ⊥
    split k same skipping s =
        let p = greatest k (Some s.0) same s.1 in
        true≢false (sym s.2 ∙ (ap (λ v. is_split h v) (ap (λ w. e - k - w) (same_place p.1) ∙ p.2) ∙ u skipping))

    go :
        (o : Option Half) → IsFarthestAnswer Backward r (anchored_back h b e) o
        → (found : Half) × (o ≡ Some found) × (found.offset ≡ e - m)
    go None (k, tries, SpanIsDone c) = let z = first k tries in absurd (omega (arith, l, c, z))
    go None (k, tries, SpanReportsNone s) = absurd (none k (once k tries) s)
    go None (k, tries, StopsAtSplit skipping f s) = absurd (split k (once k tries) skipping s)
    go (Some found) (k, tries, a) =
        let p = greatest k (Some a.pair) (once k tries) a.reported in
        (found, refl, a.offset ∙ (ap (λ w. e - k - w) (same_place p.1) ∙ p.2))

-- Over the span up to the match end, a reverse path reaches the chosen path's start, and none goes beyond it.
pub goes_to_start :
    (f r : Engine) (x : ℕ) (h : List ℕ) (b e : ℕ) (earliest : Bool) (i k pattern : ℕ) (path rest : List ℕ)
    → IsTruePair f r → IsHaystack h → b ≤ e → e ≤ length h → LoopsLazily f.nfa f.anchored f.unanchored x
    → Chooses f earliest (forward_tape h b e) f.unanchored i pattern path
    → StartsAt f (forward_tape h b e) k i pattern path rest
    → (k ≤ i) × IsGreatest r.nfa (reverse_tape h b (b + i)) r.anchored (i - k)
goes_to_start f r x h b e earliest i k pattern path rest pair bytes l w loop c s =
    (short, ((pattern, some.0, some.1), most))
  where
    inside : b + i ≤ e
    inside = end_inside f h b e f.unanchored i pattern path l w c.0

    short : k ≤ i
    short = path_grows f.nfa (forward_tape h b e) k [] f.anchored rest i s.1.0 s.1.1

    some : (path : List ℕ) × Accepts r.nfa (reverse_tape h b (b + i)) r.anchored (i - k) pattern path
    some = goes_back f r h b i k pattern s.1.0 rest e pair bytes short inside w s.1.1 s.1.2

    most : (j p : ℕ) (other : List ℕ) → Accepts r.nfa (reverse_tape h b (b + i)) r.anchored j p other → j ≤ i - k
    most j p other a =
        let o = comes_forth f r h b i e j p other pair bytes inside w a in
        let g =
        least_start f x earliest (forward_tape h b e) k i pattern path rest loop (forward_bytes h b e bytes l w) c s
        (i - j) p o.1.1 o.1.0 o.1.2 o.1.3 in
        omega (arith, g, o.0, short)

-- With the UTF-8 promise, the start is not inside a character if such offsets are skipped.
pub start_unsplit :
    (f r : Engine) (h : List ℕ) (b e i k pattern z : ℕ) (rest : List ℕ)
    → IsTruePair f r → KeepsUtf8 Forward f → IsHaystack h → b + i ≤ e → e ≤ length h → k ≤ i
    → IsPathFrom f.nfa (forward_tape h b e) k [] f.anchored rest i z → accepts f.nfa z ≡ Some pattern
    → (IsSkipping f → is_split h (b + i) ≡ false)
    → IsSkipping r → is_split h (b + k) ≡ false
start_unsplit f r h b e i k pattern z rest pair keeps bytes u w l p m ends s = go (eq-or-lt_of_le l)
  where
    skipping : IsSkipping f
    skipping = (pair.utf8 ∙ s.0, pair.empty.1 s.1)

    j : Joins Forward f h (b + k) (b + i) pattern
    j = narrow f h b e i k pattern z rest l u w p m

    go : (k ≡ i) ⊎ (k < i) → is_split h (b + k) ≡ false
    go (inl c) = ap (λ v. is_split h (b + v)) c ∙ ends skipping
    go (inr c) =
        unsplit h (b + k) (b + i) (omega (arith, c))
        (keeps h (b + k) (b + i) pattern Yes f.anchored j.0 skipping.0 bytes (omega (arith, c)) (omega (arith, u, w))
        yes_no refl j.1)
