-- No state of an automaton costs more than the greatest cost.
use Rattle.std.proofs.Common.{ℕ, zero, suc, ◌≡◌, ◌∙◌, ◌≤◌, inl, inr, Bool, true, false, List, [], ◌∷◌, ◌++◌, ◌||◌, eqb}
use Rattle.std.proofs.Common.{length, Option, None, Some, refl, sym, ap, subst, arith}
use Rattle.std.proofs.lemmas.Bool.Decides.{Decides-eqb}
use Rattle.std.proofs.lemmas.Bool.{or_parts}
use Rattle.automata_base.proofs.Powersets.Distinct.{distinct_below}
use Rattle.automata_base.proofs.Powersets.Walking.{nodes_length}
use Rattle.automata_hybrid.proofs.Words.{Anchored, Automaton, cost, In, MatchKind, max_cost, nfa_of, Powerset}
use Rattle.automata_hybrid.proofs.Words.{start_state_of, StatesReportOwn, successor}
use Rattle.automata_base.specs.Lists.{Distinct, cons_some, pick}
use Rattle.automata_base.specs.Nfas.Nfa.{Nfa, Truth, accepts, keep}
use Rattle.automata_base.specs.Paths.Starts.{mode_start}
use Rattle.automata_base.specs.Powersets.Closure.{children}
use Rattle.automata_base.specs.Powersets.Cuts.{cut_for, targets}
use Rattle.automata_determinize.specs.Retraced.Computed.{closure_of, decide, first_visits, known_looks, once_past}
use Rattle.automata_base.specs.Retraced.Computed.{is_in}
use Rattle.automata_determinize.specs.Retraced.Computed.{visits_with}
use Rattle.automata_determinize.specs.Retraced.Steps.{start_or_dead}
use Rattle.automata_hybrid.proofs.Searches.PassState.{false_true}

-- a closure has at most as many states as its fuel
with_few :
    (go : List ℕ → List ℕ → List ℕ) (n : Nfa) (A : Truth) (most : ℕ)
    → ((stack seen : List ℕ) → length (go stack seen) ≤ most) → (stack seen : List ℕ)
    → length (visits_with go n A stack seen) ≤ suc most
with_few go n A most few [] seen = omega arith
with_few go n A most few (x ∷ stack) seen = by (is_in x seen) (with_few go n A most few stack seen) where
  by :
      (b : Bool) → length (visits_with go n A stack seen) ≤ suc most
      → length (elim b as (λ t. List ℕ) [
        | true ↦ visits_with go n A stack seen
        | false ↦ x ∷ go
            (children n A x ++ stack) (x ∷ seen)
      ]) ≤ suc most
  by true rest = rest
  by false rest = let one = few (children n A x ++ stack) (x ∷ seen) in omega (arith, one)

visits_few :
    (fuel : ℕ) (n : Nfa) (A : Truth) (stack seen : List ℕ) → length (first_visits fuel n A stack seen) ≤ fuel
visits_few zero n A stack seen = omega arith
visits_few (suc fuel) n A stack seen = with_few (first_visits fuel n A) n A fuel (visits_few fuel n A) stack seen

-- the elements picked from a list are at most as many as the list has
pick_few : (g : ℕ → Option ℕ) (xs : List ℕ) → length (pick g xs) ≤ length xs
pick_few g [] = omega arith
pick_few g (x ∷ xs) = by (g x) (pick_few g xs) where
  by : (o : Option ℕ) → length (pick g xs) ≤ length xs → length (cons_some o (pick g xs)) ≤ suc (length xs)
  by None rest = omega (arith, rest)
  by (Some y) rest = omega (arith, rest)

-- an element that was seen is not found again
once_apart : (seen xs : List ℕ) (y : ℕ) → In y (once_past seen xs) → is_in y seen ≡ false
once_apart seen [] y is = absurd is
once_apart seen (x ∷ xs) y is =
    by (is_in x seen) refl is (once_apart seen xs y)
    (λ rest. (or_parts (eqb y x) (is_in y seen) (once_apart (x ∷ seen) xs y rest)).1)
  where
    by :
        (b : Bool) → is_in x seen ≡ b
        → In y (elim b as (λ t. List ℕ) [ true ↦ once_past seen xs | false ↦ x ∷ once_past (x ∷ seen) xs ])
        → (In y (once_past seen xs) → is_in y seen ≡ false) → (In y (once_past (x ∷ seen) xs) → is_in y seen ≡ false)
        → is_in y seen ≡ false
    by true was is met rest = met is
    by false was (inl same) met rest = subst (λ z. is_in z seen ≡ false) (sym same) was
    by false was (inr is) met rest = rest is

once_distinct : (seen xs : List ℕ) → Distinct (once_past seen xs)
once_distinct seen [] = tt
once_distinct seen (x ∷ xs) = by (is_in x seen) (once_distinct seen xs) (once_distinct (x ∷ seen) xs) where
  again : In x (once_past (x ∷ seen) xs) → ⊥
  again is =
      let apart : (eqb x x || is_in x seen) ≡ false = once_apart (x ∷ seen) xs x is in
      let same : eqb x x ≡ true = (Decides-eqb x x).1 refl in
      false_true (sym apart ∙ ap (λ b. b || is_in x seen) same)

  by :
      (b : Bool) → Distinct (once_past seen xs) → Distinct (once_past (x ∷ seen) xs)
      → Distinct (elim b as (λ t. List ℕ) [ true ↦ once_past seen xs | false ↦ x ∷ once_past (x ∷ seen) xs ])
  by true rest more = rest
  by false rest more = (again, more)

module _ (a : Automaton) where
  closure_few :
      (A : Truth) (roots : List ℕ) → length (pick (keep (nfa_of a)) (closure_of (nfa_of a) A roots)) ≤ length a.states
  closure_few A roots =
      let picked = pick_few (keep (nfa_of a)) (closure_of (nfa_of a) A roots) in
      let visited = visits_few (length (nfa_of a).nodes) (nfa_of a) A roots [] in
      omega (arith, picked, visited, nodes_length a.states)

  pub start_cheap : (mode : Anchored) (prev : Option ℕ) → cost (start_state_of a mode prev) ≤ max_cost a
  unfolding start_state_of
  start_cheap mode prev = by (mode_start a mode) where
    by : (o : Option ℕ) → cost (start_or_dead (nfa_of a) o prev) ≤ max_cost a
    by None = omega arith
    by (Some start) =
        let few = closure_few (known_looks (nfa_of a) prev) (start ∷ []) in
        omega (arith, few)

  pub successor_cheap :
      StatesReportOwn a → (kind : MatchKind) (q : Powerset) (unit : Option ℕ)
      → cost (successor a kind q unit) ≤ max_cost a
  unfolding successor
  successor_cheap own kind q unit =
      let few = closure_few (known_looks (nfa_of a) unit)
      (targets (nfa_of a) unit (cut_for kind (nfa_of a) (decide (nfa_of a) q unit))) in
      let distinct = once_distinct []
      (pick (accepts (nfa_of a)) (cut_for kind (nfa_of a) (decide (nfa_of a) q unit))) in
      let patterns = distinct_below (length a.start_pattern) (successor a kind q unit).patterns distinct
      (own.1 kind q unit) in
      omega (arith, few, patterns)
