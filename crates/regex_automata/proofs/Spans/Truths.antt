-- Whether there is a match: if nothing is skipped, the first match that a search sees decides it as the whole search
-- does.
use Rattle.std.proofs.Common.{ℕ, zero, suc, ◌≡◌, ◌∙◌, ◌<◌, ◌≤◌, ◌+◌, ◌⊎◌, inl, inr, Bool, true, List, [], ◌∷◌, length}
use Rattle.std.proofs.Common.{Option, Some, None, refl, sym, ap, subst, arith, not, false}
use Rattle.std.specs.Prelude.{is_some}
use Rattle.std.specs.Option.{option_map}
use Rattle.automata_base.specs.Answers.Answers.{Half, HasNoAnswerAt, IsInput, SpanIsDone, SpanReportsNone, StopsAtSplit}
use Rattle.automata_base.specs.Answers.Answers.{Answers, Tries, later, offset_in}
use Rattle.automata_base.specs.Answers.Answers.{IsFirstSpan}
use Rattle.automata_base.specs.Haystacks.Input.{Input}
use Rattle.automata_base.specs.Haystacks.Matches.{HalfMatch}
use Rattle.automata_base.specs.Nfas.Nodes.{Automaton, nfa_of}
use Rattle.automata_base.specs.Paths.Paths.{KeepsCycles, Tape}
use Rattle.automata_base.specs.Paths.Selections.{Pair}
use Rattle.automata_base.specs.Answers.Spans.{IsMatch, in_full}
use Rattle.automata_base.specs.Haystacks.Tapes.{forward_tape}
use Rattle.automata_base.specs.declared.util.search.Direction.TheVariants.{Forward}
use Rattle.automata_determinize.specs.Retraced.Passes.{first_reported, last_reported, reported_at, earlier_or, pair_at}
use Rattle.automata_base.specs.Answers.OfPasses.{IsNearestAnswer}
use Rattle.automata_determinize.specs.Answers.OfPasses.{IsReported, ReportsOver, ReportedIsRight}
use Rattle.automata_determinize.specs.Answers.OfPasses.{reported_over}
use Rattle.automata_base.specs.declared.util.search.Anchored.{Anchored}
use Rattle.automata_base.specs.declared.util.search.MatchKind.{MatchKind}
use Rattle.automata_hybrid.specs.Machines.Machine.{Machine, engine}
use Rattle.automata_hybrid.specs.Searches.Passes.{IsFound, Skips, WithoutBase, without_base}
use Rattle.automata_determinize.proofs.Answers.Turning.{turn_answers}
use Rattle.automata_hybrid.proofs.Machines.Powersets.{report_of_nfa}
use Rattle.automata_hybrid.proofs.Searches.Skips.{found_reported}
use Rattle.regex_automata.specs.Spans.IsMatch.{IsAsked, IsMatchReported, IsNearestThere, IsTruthFound, in_part}
use Rattle.regex_automata.specs.Spans.IsMatch.{AsksInFull, AsksInPart, ReportsForward}
use Rattle.automata_config.specs.Options.{match_kind_of}
use Rattle.std.proofs.lemmas.Bool.{cases_lt}
use Rattle.automata_base.proofs.Answers.Tried.{tries_once}

-- there is a first match exactly if there is a last one
some_same :
    (ps : List ℕ) (i : ℕ) (f l : Option Pair) → is_some f ≡ is_some l
    → is_some (earlier_or f (pair_at ps i None)) ≡ is_some (pair_at ps i l)
some_same [] i None l e = e
some_same [] i (Some pair) l e = e
some_same (p ∷ ps) i None l e = refl
some_same (p ∷ ps) i (Some pair) l e = refl

both_reported :
    (kind : MatchKind) (a : Automaton) (mode : Anchored) (t : Tape) (k : ℕ)
    → is_some (first_reported a kind mode t k) ≡ is_some (last_reported a kind mode t k)
unfolding first_reported last_reported
both_reported kind a mode t zero = refl
both_reported kind a mode t (suc i) =
    some_same (reported_at a kind mode t i) i (first_reported a kind mode t i) (last_reported a kind mode t i)
    (both_reported kind a mode t i)

-- so both decide it for a search that skips nothing
module _ (m : Machine) (input : Input) (whole : Skips m → ⊥) where
  same_reported :
      (k : ℕ)
      → is_some (reported_over Forward m.nfa (match_kind_of m.config) (later Forward k (in_part input)))
      ≡ is_some (reported_over Forward m.nfa (match_kind_of m.config) (later Forward k (in_full input)))
  same_reported k =
      both_reported (match_kind_of m.config) m.nfa input.anchored
      (forward_tape input.haystack (input.start + k) input.end)
      (suc (length (forward_tape input.haystack (input.start + k) input.end).bytes))

  first_try :
      (k : ℕ) → Tries (ReportsOver Forward m.nfa (match_kind_of m.config)) (Skips m) Forward (in_part input) k → k ≡ 0
  first_try k tries = tries_once (Skips m) (in_part input) k (λ skips free. whole skips) tries.comes

  only_try :
      (k : ℕ) → k ≡ 0 → Tries (ReportsOver Forward m.nfa (match_kind_of m.config)) (Skips m) Forward (in_full input) k
  only_try k z = record { comes = IsFirstSpan z; before = λ j l. absurd (omega (arith, l, z)) }

  whole_reported :
      (k : ℕ) (o : Option Pair) → k ≡ 0 → input.start + k ≤ input.end
      → reported_over Forward m.nfa (match_kind_of m.config) (later Forward k (in_full input)) ≡ o
      → (answer : Option Half) × IsReported Forward m.nfa (match_kind_of m.config) (in_full input) answer
      × (is_some o ≡ is_some answer)
  whole_reported k None z l e = (None, (k, only_try k z, SpanReportsNone (sym e)), refl)
  whole_reported k (Some pair) z l e = (
    Some (record {
      pattern = pair.pattern;
      offset = offset_in Forward (later Forward k (in_full input)) pair.place;
      base = input.start + k;
    }),
    (
      k,
      only_try k z,
      record {
        pair = pair;
        within = l;
        reported = sym e;
        whole = λ s. absurd (whole s);
        pattern = refl;
        offset = refl;
        base = refl;
      },
    ),
    refl,
  )

  pub match_reported :
      (o : Option Half) → IsReported Forward m.nfa (match_kind_of m.config) (in_part input) o
      → (answer : Option Half) × IsReported Forward m.nfa (match_kind_of m.config) (in_full input) answer
      × (is_some o ≡ is_some answer)
  match_reported None f = go f.2 where
    z : f.0 ≡ 0
    z = first_try f.0 f.1

    go :
        HasNoAnswerAt (ReportsOver Forward m.nfa (match_kind_of m.config)) (Skips m) Forward (in_part input) f.0
        → (answer : Option Half) × IsReported Forward m.nfa (match_kind_of m.config) (in_full input) answer
        × (is_some {T = Half} None ≡ is_some answer)
    go (SpanIsDone past) = (None, (f.0, only_try f.0 z, SpanIsDone past), refl)
    go (SpanReportsNone none) = ahead (cases_lt input.end (input.start + f.0)) where
      ahead :
          (input.end < input.start + f.0) ⊎ (input.start + f.0 ≤ input.end)
          → (answer : Option Half) × IsReported Forward m.nfa (match_kind_of m.config) (in_full input) answer
          × (is_some {T = Half} None ≡ is_some answer)
      ahead (inl past) = (None, (f.0, only_try f.0 z, SpanIsDone past), refl)
      ahead (inr l) =
          let w =
          whole_reported f.0 (reported_over Forward m.nfa (match_kind_of m.config) (later Forward f.0 (in_full input)))
          z l refl in
          (w.0, w.1, ap (λ (v : Option Pair). is_some v) none ∙ same_reported f.0 ∙ w.2)
    go (StopsAtSplit skips anchored s) = absurd (whole skips)
  match_reported (Some half) f =
      let w =
      whole_reported f.0 (reported_over Forward m.nfa (match_kind_of m.config) (later Forward f.0 (in_full input)))
      (first_try f.0 f.1) f.2.within refl in
      (w.0, w.1, ap (λ (v : Option Pair). is_some v) f.2.reported ∙ same_reported f.0 ∙ w.2)

-- the input that is searched, by whether offsets inside characters are skipped
pub asked_by :
    (m : Machine) (input asked : Input) (b : Bool) → (b ≡ true → Skips m) → (b ≡ false → Skips m → ⊥)
    → asked ≡ record input { earliest = not b } → IsAsked m input asked
asked_by m input asked true does lacks is = AsksInFull (does refl) is
asked_by m input asked false does lacks is = AsksInPart (lacks refl) is

-- the input that is searched differs from the given one only in its earliest flag
pub asked_to :
    {R : Type 0} (P : Input → Type 0) (m : Machine) (input asked : Input) → IsAsked m input asked
    → (P (in_full input) → R) → (P (in_part input) → R) → P asked → R
asked_to P m input asked (AsksInFull skips is) f g h = f (subst P is h)
asked_to P m input asked (AsksInPart whole is) f g h = g (subst P is h)

pub asked_from :
    (P : Input → Type 0) (m : Machine) (input asked : Input) → IsAsked m input asked → P (in_full input)
    → P (in_part input) → P asked
asked_from P m input asked (AsksInFull skips is) f g = subst P (sym is) f
asked_from P m input asked (AsksInPart whole is) f g = subst P (sym is) g

same_some :
    (o : Option HalfMatch) (answer : Option Half) → o ≡ option_map without_base answer → is_some o ≡ is_some answer
same_some o None e = ap (λ (v : Option HalfMatch). is_some v) e
same_some o (Some half) e = ap (λ (v : Option HalfMatch). is_some v) e

-- whether there is a match, by what the search finds
pub truth_found :
    (m : Machine) (input asked : Input) → IsAsked m input asked → (found : Option HalfMatch) (truth : Bool)
    → WithoutBase (IsFound Forward m asked) found → truth ≡ is_some found → IsTruthFound m input truth
truth_found m input asked is found truth f e =
    record { asked = asked; is = is; answer = f.0; found = f.1; same = e ∙ same_some found f.0 f.2 }

-- what passes report, by the NFA
by_nfa :
    (m : Machine) (input : Input) (o : Option Half) → Answers (ReportsForward m) (Skips m) Forward input o
    → IsReported Forward m.nfa (match_kind_of m.config) input o
by_nfa m input o f =
    turn_answers (ReportsForward m) (ReportsOver Forward m.nfa (match_kind_of m.config)) (Skips m) Forward input
    (λ k reported l same. same ∙ report_of_nfa Forward m (later Forward k input)) o f

of_nfa :
    (m : Machine) (input : Input) (o : Option Half) → IsReported Forward m.nfa (match_kind_of m.config) input o
    → Answers (ReportsForward m) (Skips m) Forward input o
of_nfa m input o f =
    turn_answers (ReportsOver Forward m.nfa (match_kind_of m.config)) (ReportsForward m) (Skips m) Forward input
    (λ k reported l same. same ∙ sym (report_of_nfa Forward m (later Forward k input))) o f

pub truth_by_nfa :
    (m : Machine) (input : Input) (truth : Bool) → IsMatchReported m input truth
    → (o : Option Half) × IsReported Forward m.nfa (match_kind_of m.config) (in_full input) o × (truth ≡ is_some o)
truth_by_nfa m input truth f = (f.0, by_nfa m (in_full input) f.0 f.1, f.2)

-- whether there is a match, by what the passes report
pub truth_reported :
    (m : Machine) (input asked : Input) → IsAsked m input asked → (found : Option HalfMatch) (truth : Bool)
    → WithoutBase (IsFound Forward m asked) found → truth ≡ is_some found → IsMatchReported m input truth
truth_reported m input asked (AsksInFull skips is) found truth f e = (
  f.0,
  of_nfa m (in_full input) f.0
      (subst (λ (i : Input). IsReported Forward m.nfa (match_kind_of m.config) i f.0) is
      (found_reported Forward m asked f.0 f.1)),
  e ∙ same_some found f.0 f.2,
)
truth_reported m input asked (AsksInPart whole is) found truth f e =
    let w =
    match_reported m input whole f.0
    (subst (λ (i : Input). IsReported Forward m.nfa (match_kind_of m.config) i f.0) is
    (found_reported Forward m asked f.0 f.1)) in
    (w.0, of_nfa m (in_full input) w.0 w.1, e ∙ same_some found f.0 f.2 ∙ w.2)

pub match_right :
    (m : Machine) → ReportedIsRight m.nfa → (input : Input) (truth : Bool) → KeepsCycles (nfa_of m.nfa) → IsInput input
    → IsMatchReported m input truth → IsMatch (engine m) input truth
match_right m law input truth cycles given f =
    (f.0, law Forward (match_kind_of m.config) (in_full input) f.0 cycles given (by_nfa m (in_full input) f.0 f.1), f.2)

-- if nothing is skipped, the search finds the nearest end
pub truth_nearest :
    (m : Machine) (input asked : Input) → IsAsked m input asked → (found : Option HalfMatch) (truth : Bool)
    → (asked.earliest ≡ true → WithoutBase (IsNearestAnswer Forward (engine m) asked) found)
    → truth ≡ is_some found → (Skips m → ⊥) → IsNearestThere m input truth
truth_nearest m input asked (AsksInFull skips is) found truth f e whole = absurd (whole skips)
truth_nearest m input asked (AsksInPart never is) found truth f e whole =
    let g = f (ap (λ (i : Input). i.earliest) is) in (
      g.0,
      subst (λ (i : Input). IsNearestAnswer Forward (engine m) i g.0) is g.1,
      e ∙ same_some found g.0 g.2,
    )
