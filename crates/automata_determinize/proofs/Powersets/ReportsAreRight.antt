-- What the passes of a search report is the answer of the ordered paths.
use Rattle.std.proofs.Common.{ℕ, zero, suc, ◌≡◌, ◌<◌, ◌≤◌, Bool, true, false, [], length, Option, Some, None}
use Rattle.std.proofs.Common.{refl, sym, ap, ◌∙◌, subst}
use Rattle.automata_base.specs.Answers.Answers.{Half, SelectsFrom, SelectsOver, later, Answers, IsInput}
use Rattle.automata_determinize.specs.Retraced.Passes.{pair_at, earlier_or}
use Rattle.automata_base.specs.declared.util.search.MatchKind.{MatchKind}
use Rattle.automata_base.specs.declared.util.search.MatchKind.TheVariants.{All as KindAll}
use Rattle.automata_base.specs.Nfas.Accepted.{IsChecked, IsInRange}
use Rattle.automata_base.specs.declared.util.search.Anchored.{Anchored}
use Rattle.automata_base.specs.declared.util.search.Anchored.TheVariants.{No, Yes, Pattern}
use Rattle.automata_base.specs.Nfas.Engines.{IsSkipping, engine_of, first_state}
use Rattle.automata_base.specs.Haystacks.Input.{Input}
use Rattle.automata_base.specs.Nfas.Nodes.{Automaton, nfa_of, nodes_of}
use Rattle.automata_base.specs.Paths.Paths.{Tape, next, KeepsCycles}
use Rattle.automata_determinize.specs.Powersets.Passes.{IsTape}
use Rattle.automata_base.specs.Powersets.Powerset.{Powerset, dead}
use Rattle.automata_base.specs.Nfas.Nfa.{Nfa}
use Rattle.automata_base.specs.Paths.Selections.{Pair, IsFarthest, IsNearest}
use Rattle.automata_base.specs.Paths.Starts.{mode_start}
use Rattle.automata_determinize.specs.Retraced.Steps.{start_or_dead, start_state_of, successor}
use Rattle.automata_base.specs.declared.util.search.Direction.{Direction}
use Rattle.automata_base.specs.declared.util.search.Direction.TheVariants.{Forward, Backward}
use Rattle.automata_base.specs.Haystacks.Tapes.{tape_of}
use Rattle.automata_determinize.specs.Retraced.Passes.{state_after, reported_at, last_reported, first_reported}
use Rattle.automata_determinize.specs.Retraced.Passes.{reported_by}
use Rattle.automata_base.specs.Answers.OfPasses.{EndsFrom, EndsOver, IsFarthestAnswer}
use Rattle.automata_determinize.specs.Answers.OfPasses.{IsReported, ReportsOver}
use Rattle.automata_determinize.specs.Answers.OfPasses.{ReportedEndsAreRight, ReportedIsRight}
use Rattle.automata_determinize.proofs.Powersets.Alike.{dead_stays}
use Rattle.automata_determinize.proofs.Powersets.PassReports.{reported_farthest, reported_nearest, reported_selects}
use Rattle.automata_determinize.proofs.Answers.Total.{tape_units, later_input}
use Rattle.automata_determinize.proofs.Answers.Turning.{turn_answers}
use Rattle.automata_base.proofs.Powersets.ReportsAreRight.{start_below}

-- In a mode without a start, every state is dead.
none_after :
    (a : Automaton) (kind : MatchKind) (mode : Anchored) (t : Tape) (k : ℕ)
    → mode_start a mode ≡ None → state_after a kind mode t k ≡ dead
unfolding state_after start_state_of
none_after a kind mode t zero e = ap (λ o. start_or_dead (nfa_of a) o t.before) e
none_after a kind mode t (suc k) e =
    ap (λ Q. successor a kind Q (next t k)) (none_after a kind mode t k e) ∙ dead_stays a kind (next t k)

pub none_at :
    (a : Automaton) (kind : MatchKind) (mode : Anchored) (t : Tape) (i : ℕ)
    → mode_start a mode ≡ None → reported_at a kind mode t i ≡ []
none_at a kind mode t i e = ap (λ (Q : Powerset). Q.patterns) (none_after a kind mode t (suc i) e)

none_last :
    (a : Automaton) (kind : MatchKind) (mode : Anchored) (t : Tape) (k : ℕ)
    → mode_start a mode ≡ None → last_reported a kind mode t k ≡ None
unfolding last_reported
none_last a kind mode t zero e = refl
none_last a kind mode t (suc i) e =
    ap (λ ps. pair_at ps i (last_reported a kind mode t i)) (none_at a kind mode t i e) ∙ none_last a kind mode t i e

none_first :
    (a : Automaton) (kind : MatchKind) (mode : Anchored) (t : Tape) (k : ℕ)
    → mode_start a mode ≡ None → first_reported a kind mode t k ≡ None
unfolding first_reported
none_first a kind mode t zero e = refl
none_first a kind mode t (suc i) e =
    ap (λ o. earlier_or o (pair_at (reported_at a kind mode t i) i None)) (none_first a kind mode t i e)
    ∙ ap (λ ps. pair_at ps i None) (none_at a kind mode t i e)

none_reported :
    (kind : MatchKind) (earliest : Bool) (a : Automaton) (mode : Anchored) (t : Tape)
    → mode_start a mode ≡ None → reported_by kind earliest a mode t ≡ None
none_reported kind true a mode t e = none_first a kind mode t (suc (length t.bytes)) e
none_reported kind false a mode t e = none_last a kind mode t (suc (length t.bytes)) e

pub first_is :
    (a : Automaton) (kind : MatchKind) (mode : Anchored) → first_state (engine_of a kind) mode ≡ mode_start a mode
first_is a kind No = refl
first_is a kind Yes = refl
first_is a kind (Pattern p) = refl

reported_from :
    (a : Automaton) (kind : MatchKind) (earliest : Bool) (mode : Anchored) (t : Tape) (o : Option ℕ)
    → IsChecked a → KeepsCycles (nfa_of a) → IsTape t → mode_start a mode ≡ o
    → SelectsFrom (engine_of a kind) earliest t o (reported_by kind earliest a mode t)
reported_from a kind earliest mode t None d free tape e = none_reported kind earliest a mode t e
reported_from a kind earliest mode t (Some q) d free tape e =
    reported_selects kind earliest a mode t q e d.range (start_below a mode q d e) free tape

reported_over_selects :
    (a : Automaton) (kind : MatchKind) (way : Direction) (input : Input) (o : Option Pair)
    → IsChecked a → KeepsCycles (nfa_of a) → IsInput input → input.start ≤ input.end
    → ReportsOver way a kind input o → SelectsOver way (engine_of a kind) input o
reported_over_selects a kind way input o d free i l e =
    let t : Tape = tape_of way input.haystack input.start input.end in
    let tape : IsTape t = tape_units way input.haystack input.start input.end i.0 l i.1 in
    let s : SelectsFrom (engine_of a kind) input.earliest t (mode_start a input.anchored)
    (reported_by kind input.earliest a input.anchored t) =
    reported_from a kind input.earliest input.anchored t (mode_start a input.anchored) d free tape refl in
    subst (λ (p : Option Pair). SelectsOver way (engine_of a kind) input p) (sym e)
    (subst (λ (q : Option ℕ). SelectsFrom (engine_of a kind) input.earliest t q
    (reported_by kind input.earliest a input.anchored t))
    (sym (first_is a kind input.anchored)) s)

pub reported_right : (a : Automaton) → IsChecked a → ReportedIsRight a
reported_right a d way kind input answer free i =
    turn_answers (ReportsOver way a kind) (SelectsOver way (engine_of a kind)) (IsSkipping (engine_of a kind)) way input
    (λ k o l h.
    let n : IsInput (later way k input) × ((later way k input).start ≤ (later way k input).end) =
    later_input way k input i l in
    reported_over_selects a kind way (later way k input) o d free n.0 n.1 h)
    answer

module _ (Rule : Nfa → Tape → ℕ → Option Pair → Type 0) (a : Automaton) (kind : MatchKind) (earliest : Bool)
    (d : IsChecked a)
    (rule : (mode : Anchored) (t : Tape) (start : ℕ)
    → mode_start a mode ≡ Some start → IsInRange (nfa_of a) → start < length (nodes_of a.states) → IsTape t
    → Rule (nfa_of a) t start (reported_by kind earliest a mode t)) where
  ends_from :
      (mode : Anchored) (t : Tape) (o : Option ℕ)
      → IsTape t → mode_start a mode ≡ o → EndsFrom Rule (engine_of a kind) t o (reported_by kind earliest a mode t)
  ends_from mode t None tape e = none_reported kind earliest a mode t e
  ends_from mode t (Some q) tape e = rule mode t q e d.range (start_below a mode q d e) tape

  ends_over :
      (way : Direction) (input : Input) (o : Option Pair)
      → input.earliest ≡ earliest → IsInput input → input.start ≤ input.end
      → ReportsOver way a kind input o → EndsOver Rule way (engine_of a kind) input o
  ends_over way input o same i l h =
      let t : Tape = tape_of way input.haystack input.start input.end in
      let s : EndsFrom Rule (engine_of a kind) t (mode_start a input.anchored)
      (reported_by kind earliest a input.anchored t) =
      ends_from input.anchored t (mode_start a input.anchored)
      (tape_units way input.haystack input.start input.end i.0 l i.1) refl in
      subst (λ r. EndsOver Rule way (engine_of a kind) input r)
      (sym (h ∙ ap (λ e. reported_by kind e a input.anchored t) same))
      (subst (λ (q : Option ℕ). EndsFrom Rule (engine_of a kind) t q (reported_by kind earliest a input.anchored t))
      (sym (first_is a kind input.anchored)) s)

  later_earliest : (way : Direction) (k : ℕ) (input : Input) → (later way k input).earliest ≡ input.earliest
  later_earliest Forward k input = refl
  later_earliest Backward k input = refl

  ends_right :
      (way : Direction) (input : Input) (answer : Option Half)
      → input.earliest ≡ earliest → IsInput input → IsReported way a kind input answer
      → Answers (EndsOver Rule way (engine_of a kind)) (IsSkipping (engine_of a kind)) way input answer
  ends_right way input answer same i reported =
      turn_answers (ReportsOver way a kind) (EndsOver Rule way (engine_of a kind)) (IsSkipping (engine_of a kind)) way
      input
      (λ k o l h.
      let n : IsInput (later way k input) × ((later way k input).start ≤ (later way k input).end) =
      later_input way k input i l in
      ends_over way (later way k input) o (later_earliest way k input ∙ same) n.0 n.1 h)
      answer reported

pub reported_ends_right : (a : Automaton) → IsChecked a → ReportedEndsAreRight a
reported_ends_right a d way kind input answer i reported = (
  λ e. ends_right IsNearest a kind true d (reported_nearest kind a) way input answer e i reported,
  λ e all.
      subst (λ (k : MatchKind). IsFarthestAnswer way (engine_of a k) input answer) (sym all)
      (ends_right IsFarthest a KindAll false d (reported_farthest a) way input answer e i
      (subst (λ (k : MatchKind). IsReported way a k input answer) all reported)),
)
