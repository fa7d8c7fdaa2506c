-- The construction returns the start state or the successor.
use Rattle.std.proofs.Common.{ℕ, ◌≡◌, ◌<◌, List, [], ◌∷◌, length, Option, Some, None, inl, inr, sym, subst, ap, ◌∙◌}
use Rattle.std.proofs.Common.{refl, true, true≢false}
use Rattle.automata_base.specs.declared.util.search.Anchored.{Anchored}
use Rattle.automata_determinize.specs.Retraced.Computed.{start_behind, successor_of}
use Rattle.automata_base.specs.Nfas.Accepted.{IsInRange}
use Rattle.automata_base.specs.declared.util.search.MatchKind.{MatchKind}
use Rattle.automata_base.specs.Lists.{In}
use Rattle.automata_base.specs.Nfas.Nfa.{Nfa}
use Rattle.automata_base.specs.Nfas.Nodes.{Automaton, nfa_of}
use Rattle.automata_base.specs.declared.util.look.Look.{Look}
use Rattle.automata_determinize.specs.Powersets.Passes.{IsSuccessor, IsMake}
use Rattle.automata_base.specs.Powersets.Passes.{Occurs}
use Rattle.automata_base.specs.Haystacks.LookSets.{truth_of}
use Rattle.automata_base.proofs.Paths.LookSets.{truth_of_none}
use Rattle.automata_base.specs.Powersets.Powerset.{Powerset}
use Rattle.automata_determinize.specs.Paths.Starts.{IsOf, IsStartAt, IsStartOf, NeedsOwnLooks}
use Rattle.automata_base.specs.Paths.Starts.{mode_start}
use Rattle.automata_determinize.specs.Retraced.Steps.{start_or_dead, start_state_of, successor}
use Rattle.automata_determinize.specs.Laws.Steps.{PowersetStartsAreRight, SuccessorsAreRight}
use Rattle.automata_base.proofs.Powersets.Walking.{nodes_length}
use Rattle.automata_determinize.proofs.Paths.Machines.{arrive_right, succ_right}
use Rattle.automata_determinize.proofs.Paths.Unique.{arrival_one, succ_one}

-- The returned state is the successor.
pub is_successor :
    (a : Automaton) (kind : MatchKind) (q : Powerset) (u : Option ℕ) (r : Powerset)
    → IsInRange (nfa_of a) → IsOf a q → IsSuccessor (nfa_of a) kind q u r → r ≡ successor a kind q u
unfolding successor
is_successor a kind q u r range of h =
    succ_one (nfa_of a) kind q u r (successor_of (nfa_of a) kind q u) h
    (succ_right (nfa_of a) kind u q range (λ y i. subst (λ v. y < v) (sym (nodes_length a.states)) (of y i))).0

start_at :
    (n : Nfa) (start : Option ℕ) (prev : Option ℕ) (r : Powerset)
    → IsInRange n → ((s : ℕ) → start ≡ Some s → s < length n.nodes) → IsStartAt n start prev r
    → r ≡ start_or_dead n start prev
start_at n None prev r range below h = h
start_at n (Some s) prev r range below h =
    arrival_one n [] (s ∷ []) prev r (start_behind n s prev) h (arrive_right n [] (s ∷ []) prev range one).0
  where
    one : (y : ℕ) → In y (s ∷ []) → y < length n.nodes
    one y (inl e) = subst (λ v. v < length n.nodes) (sym e) (below s refl)
    one y (inr i) = absurd i

-- The returned state is the start state.
pub is_start :
    (a : Automaton) (mode : Anchored) (prev : Option ℕ) (r : Powerset)
    → IsInRange (nfa_of a) → ((s : ℕ) → mode_start a mode ≡ Some s → s < length a.states) → IsStartOf a mode prev r
    → r ≡ start_state_of a mode prev
unfolding start_state_of
is_start a mode prev r range below h =
    start_at (nfa_of a) (mode_start a mode) prev r range
    (λ s e. subst (λ v. s < v) (sym (nodes_length a.states)) (below s e)) h

pub successors_are_right : (a : Automaton) → IsInRange (nfa_of a) → SuccessorsAreRight a
unfolding successor
successors_are_right a range kind q r u of = (
  is_successor a kind q u r range of,
  λ e. subst (λ z. IsSuccessor (nfa_of a) kind q u z) (sym e)
      (succ_right (nfa_of a) kind u q range (λ y i. subst (λ v. y < v) (sym (nodes_length a.states)) (of y i))).0,
)

start_is :
    (n : Nfa) (start prev : Option ℕ) → IsInRange n → ((s : ℕ) → start ≡ Some s → s < length n.nodes)
    → IsStartAt n start prev (start_or_dead n start prev)
start_is n None prev range below = refl
start_is n (Some s) prev range below = (arrive_right n [] (s ∷ []) prev range one).0
  where
    one : (y : ℕ) → In y (s ∷ []) → y < length n.nodes
    one y (inl e) = subst (λ v. v < length n.nodes) (sym e) (below s refl)
    one y (inr i) = absurd i

pub starts_are_right :
    (a : Automaton) → IsInRange (nfa_of a)
    → ((mode : Anchored) (s : ℕ) → mode_start a mode ≡ Some s → s < length a.states)
    → PowersetStartsAreRight a
unfolding start_state_of
starts_are_right a range below mode prev r = (
  is_start a mode prev r range (below mode),
  λ e. subst (λ z. IsStartOf a mode prev z) (sym e)
      (start_is (nfa_of a) (mode_start a mode) prev range
      (λ s f. subst (λ v. s < v) (sym (nodes_length a.states)) (below mode s f))),
)

-- A state made from a closure needs only looks of the automaton.
made_needs :
    (n : Nfa) (patterns C : List ℕ) (prev : Option ℕ) (Q : Powerset)
    → IsMake n patterns C prev Q → (look : Look) → truth_of Q.needed look ≡ true → Occurs n look
made_needs n patterns C prev Q m look e = let w = (m.needed look).0 e in (w.0, w.1, w.3)

pub successor_needs :
    (a : Automaton) (kind : MatchKind) (q : Powerset) (u : Option ℕ) (r : Powerset)
    → IsSuccessor (nfa_of a) kind q u r → NeedsOwnLooks a r
successor_needs a kind q u r h = made_needs (nfa_of a) h.1 h.4.list u r h.4.made

start_needs :
    (n : Nfa) (start : Option ℕ) (prev : Option ℕ) (r : Powerset)
    → IsStartAt n start prev r → (look : Look) → truth_of r.needed look ≡ true → Occurs n look
start_needs n None prev r h look e =
    absurd (true≢false (sym e ∙ (ap (λ (q : Powerset). truth_of q.needed look) h ∙ truth_of_none look)))
start_needs n (Some s) prev r h look e = made_needs n [] h.list prev r h.made look e

pub start_of_needs :
    (a : Automaton) (mode : Anchored) (prev : Option ℕ) (r : Powerset) → IsStartOf a mode prev r → NeedsOwnLooks a r
start_of_needs a mode prev r h = start_needs (nfa_of a) (mode_start a mode) prev r h
