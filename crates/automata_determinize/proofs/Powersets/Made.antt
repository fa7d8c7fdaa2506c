-- Start states and successors, from the steps that make them.
use Rattle.std.proofs.Common.{ℕ, ◌≡◌, ◌<◌, ◌≤◌, List, [], ◌∷◌, length, Option, Some, None, true, false, ◌↔◌, refl, sym}
use Rattle.std.proofs.Common.{ap, ◌∙◌, subst, arith}
use Rattle.automata_base.specs.declared.util.search.Anchored.{Anchored}
use Rattle.automata_determinize.specs.Powersets.Accounting.{max_cost}
use Rattle.automata_determinize.specs.Retraced.Computed.{known_looks}
use Rattle.automata_base.specs.declared.util.search.MatchKind.{MatchKind}
use Rattle.automata_base.specs.Powersets.Cuts.{cut_for, targets}
use Rattle.automata_base.specs.Nfas.Accepted.{IsChecked}
use Rattle.automata_base.specs.declared.util.look.Look.{Look}
use Rattle.automata_determinize.specs.Powersets.Results.{AreMatched, IsClosureMade, IsStartMade, IsStepMade}
use Rattle.automata_base.specs.Nfas.Nodes.{Automaton, nfa_of}
use Rattle.automata_determinize.specs.Powersets.Passes.{IsDecided, IsKnownLook, IsMake, IsSuccessor}
use Rattle.automata_base.specs.Paths.Paths.{IsClosure}
use Rattle.automata_base.specs.Powersets.Powerset.{Powerset, cost, dead}
use Rattle.automata_determinize.specs.Paths.Starts.{IsOf, IsStartAt, IsStartOf}
use Rattle.automata_base.specs.Paths.Starts.{mode_start}
use Rattle.automata_base.specs.Haystacks.LookSets.{truth_of}
use Rattle.automata_determinize.specs.Answers.Within.{ReportsOwn}
use Rattle.automata_determinize.proofs.Powersets.Stepping.{is_start, is_successor, start_of_needs, successor_needs}
use Rattle.automata_determinize.proofs.Answers.Within.{start_own, step_own}
use Rattle.automata_determinize.proofs.Paths.Machines.{known_right}

-- The state made from the closure under the looks that are known after a unit.
pub closure_made :
    (a : Automaton) (matched roots closed : List ℕ) (unit : Option ℕ) (known : ℕ) (made : Powerset)
    → ((look : Look) → truth_of known look ≡ known_looks (nfa_of a) unit look)
    → IsClosure (nfa_of a) (truth_of known) roots closed → IsMake (nfa_of a) matched closed unit made
    → IsOf a made → length made.nfa ≤ length a.states → IsClosureMade a matched roots unit made
closure_made a matched roots closed unit known made same closure make is_of few = record {
  closure = record {
    truth = truth_of known;
    known = λ look.
        subst (λ b. (b ≡ true) ↔ IsKnownLook (nfa_of a) unit look) (sym (same look)) (known_right (nfa_of a) unit look);
    list = closed;
    closure = closure;
    made = make;
  };
  patterns = make.patterns;
  is_of = is_of;
  few = few;
}

-- The state made from the targets of the decided list is the successor.
pub step_made :
    (a : Automaton) (kind : MatchKind) (from : Powerset) (unit : Option ℕ) (list : List ℕ) (made : Powerset)
    → IsChecked a → IsOf a from → IsDecided (nfa_of a) from unit list
    → AreMatched a (cut_for kind (nfa_of a) list) made.patterns
    → IsClosureMade a made.patterns (targets (nfa_of a) unit (cut_for kind (nfa_of a) list)) unit made
    → IsStepMade a kind from unit made
step_made a kind from unit list made checked is_of decided matched arrived =
    let step : IsSuccessor (nfa_of a) kind from unit made =
    (list, made.patterns, decided, matched.once, arrived.closure) in
    let same = is_successor a kind from unit made checked.range is_of step in
    let few : length made.nfa ≤ length a.states = arrived.few in
    let seldom : length made.patterns ≤ length a.start_pattern = matched.few in
    record {
      step = step;
      same = same;
      own = subst (ReportsOwn a) (sym same) (step_own a checked kind from unit);
      looks = successor_needs a kind from unit made step;
      is_of = arrived.is_of;
      bounded = omega arith;
    }

starts :
    (a : Automaton) (mode : Anchored) (prev : Option ℕ) (made : Powerset)
    → IsChecked a → ((s : ℕ) → mode_start a mode ≡ Some s → s < length a.states) → IsStartOf a mode prev made
    → IsOf a made → cost made ≤ max_cost a → IsStartMade a mode prev made
starts a mode prev made checked below start is_of bounded =
    let same = is_start a mode prev made checked.range below start in
    record {
      start = start;
      same = same;
      own = subst (ReportsOwn a) (sym same) (start_own a mode prev);
      looks = start_of_needs a mode prev made start;
      is_of = is_of;
      bounded = bounded;
    }

-- The state made from the first state of a mode is the mode's start state.
pub start_made :
    (a : Automaton) (mode : Anchored) (prev : Option ℕ) (start : ℕ) (made : Powerset)
    → IsChecked a → Some start ≡ mode_start a mode → start < length a.states
    → IsClosureMade a [] (start ∷ []) prev made → IsStartMade a mode prev made
start_made a mode prev start made checked at below arrived =
    let few : length made.nfa ≤ length a.states = arrived.few in
    let none : length made.patterns ≡ 0 = ap length arrived.patterns in
    starts a mode prev made checked
    (subst (λ (o : Option ℕ). (q : ℕ) → o ≡ Some q → q < length a.states) at only)
    (subst (λ (o : Option ℕ). IsStartAt (nfa_of a) o prev made) at arrived.closure)
    arrived.is_of (omega arith)
  where
    only : (q : ℕ) → Some start ≡ Some q → q < length a.states
    only q e = let same : start ≡ q = cc in subst (λ v. v < length a.states) same below

-- If a mode has no first state, its start state is empty.
pub start_dead :
    (a : Automaton) (mode : Anchored) (prev : Option ℕ) (states patterns : List ℕ)
    → IsChecked a → None ≡ mode_start a mode → states ≡ [] → patterns ≡ []
    → IsStartMade a mode prev
    (record { nfa = states; patterns = patterns; known = 0; needed = 0; word = false; half = false })
start_dead a mode prev states patterns checked at e f =
    subst (IsStartMade a mode prev) (sym (ap (λ (xs : List ℕ). empty xs patterns) e ∙ ap (empty []) f))
    (starts a mode prev dead checked
    (subst (λ (o : Option ℕ). (q : ℕ) → o ≡ Some q → q < length a.states) at (λ q h. absurd cc))
    (subst (λ (o : Option ℕ). IsStartAt (nfa_of a) o prev dead) at refl)
    (λ s i. absurd i) (omega arith))
  where
    empty : List ℕ → List ℕ → Powerset
    empty xs ys = record { nfa = xs; patterns = ys; known = 0; needed = 0; word = false; half = false }
