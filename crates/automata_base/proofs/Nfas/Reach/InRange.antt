-- States that `NFA::from_states` accepts lead to states.
use Rattle.std.proofs.Common.{ℕ, zero, suc, ◌≡◌, ◌<◌, ◌&&◌, ltb, true, List, [], ◌∷◌, length, get_or, inl, inr, refl}
use Rattle.std.proofs.Common.{sym, ap, ◌∙◌, subst, arith, ⊎_elim, All}
use Rattle.std.proofs.lemmas.Bool.{lt-ltb}
use Rattle.automata_base.specs.declared.nfa.thompson.state.State.{State}
use Rattle.automata_base.specs.declared.nfa.thompson.state.State.TheVariants as is
use Rattle.automata_base.specs.declared.nfa.thompson.state.Transition.{Transition}
use Rattle.automata_base.specs.declared.nfa.thompson.reach.Edges.TheVariants.{Every}
use Rattle.automata_base.specs.Nfas.Accepted.{IsChecked}
use Rattle.automata_base.specs.Lists.{In, all_below}
use Rattle.automata_base.specs.Nfas.Nodes.{Automaton, node_of, nodes_of, ranges_of, dense_from}
use Rattle.automata_base.specs.Paths.Paths.{all_true}
use Rattle.automata_base.specs.Retraced.Reach.{node_in, targets_at, byte_targets, nexts}
use Rattle.automata_base.specs.Nfas.Errors.{state_below, states_below, transitions_below}
use Rattle.automata_base.specs.Powersets.Closure.{children_at}
use Rattle.automata_base.proofs.Powersets.Walking.{nodes_length}
use Rattle.automata_base.proofs.Nfas.Reach.Led.{node_takes}
use Rattle.automata_base.proofs.Powersets.Belows.{all_below_from}
use Rattle.automata_base.proofs.Paths.Walks.{in_left}
use Rattle.automata_base.proofs.Paths.Walks.{in_either}

two : (p q n : ℕ) → p < n → q < n → (ltb p n && ltb q n) ≡ true
two p q n l k = ap (λ v. v && ltb q n) (lt-ltb p n l) ∙ lt-ltb q n k

pub below_each : (n : ℕ) (xs : List ℕ) → All (λ s. s < n) xs → all_below n xs ≡ true
below_each n [] f = refl
below_each n (x ∷ xs) f =
    ap (λ v. v && all_below n xs) (lt-ltb x n (f 0 x (omega arith)))
    ∙ below_each n xs (λ k d l. f (suc k) d (omega (arith, l)))

below_ranges :
    (n : ℕ) (ts : List Transition) → ((r : ℕ) → In r (nexts (ranges_of ts)) → r < n) → transitions_below n ts ≡ true
below_ranges n [] f = refl
below_ranges n (t ∷ ts) f =
    ap (λ v. v && transitions_below n ts) (lt-ltb t.next n (f t.next (inl refl)))
    ∙ below_ranges n ts (λ r i. f r (inr i))

below_dense :
    (n v : ℕ) (xs : List ℕ) → 0 < n → ((r : ℕ) → In r (nexts (dense_from v xs)) → r < n) → all_below n xs ≡ true
below_dense n v [] z f = refl
below_dense n v (zero ∷ xs) z f = ap (λ b. b && all_below n xs) (lt-ltb 0 n z) ∙ below_dense n (suc v) xs z f
below_dense n v (suc m ∷ xs) z f =
    ap (λ b. b && all_below n xs) (lt-ltb (suc m) n (f (suc m) (inl refl)))
    ∙ below_dense n (suc v) xs z (λ r i. f r (inr i))

pub state_is_below :
    (n : ℕ) (x : State) → 0 < n → ((r : ℕ) → In r (targets_at Every (node_of x)) → r < n) → state_below n x ≡ true
state_is_below n (is.ByteRange lo hi next) z f = lt-ltb next n (f next (inl refl))
state_is_below n (is.Sparse ts) z f = below_ranges n ts.items f
state_is_below n (is.Dense targets) z f = below_dense n 0 targets.value z f
state_is_below n (is.Look look next) z f = lt-ltb next n (f next (inl refl))
state_is_below n (is.Union alternates) z f =
    all_below_from n alternates.items (λ r i. f r (in_left r alternates.items [] i))
state_is_below n (is.BinaryUnion alt1 alt2) z f = two alt1 alt2 n (f alt1 (inl refl)) (f alt2 (inr (inl refl)))
state_is_below n (is.Capture next pattern index slot) z f = lt-ltb next n (f next (inl refl))
state_is_below n is.Fail z f = refl
state_is_below n (is.Match pattern) z f = refl

below_states :
    (n : ℕ) (xs : List State) → ((q : ℕ) → state_below n (get_or xs q is.Fail) ≡ true) → states_below n xs ≡ true
below_states n [] f = refl
below_states n (x ∷ xs) f = ap (λ v. v && states_below n xs) (f 0) ∙ below_states n xs (λ q. f (suc q))

pub node_is : (states : List State) (q : ℕ) → node_in states q ≡ node_of (get_or states q is.Fail)
node_is [] q = refl
node_is (x ∷ xs) zero = refl
node_is (x ∷ xs) (suc q) = node_is xs q

pub checked_below : (a : Automaton) → IsChecked a → states_below (length a.states) a.states ≡ true
checked_below a checked =
    below_states (length a.states) a.states
    (λ q. state_is_below (length a.states) (get_or a.states q is.Fail) some (goes q))
  where
    some : 0 < length a.states
    some = let k = checked.anchored in omega (arith, k)

    size : length (nodes_of a.states) ≡ length a.states
    size = nodes_length a.states

    goes : (q r : ℕ) → In r (targets_at Every (node_of (get_or a.states q is.Fail))) → r < length a.states
    goes q r i = ⊎_elim
        (λ (j : In r (children_at (node_in a.states q) all_true)). let k = checked.range.0 q r all_true j in
        omega (arith, k, size))
        (λ (j : In r (byte_targets (node_in a.states q))).
        let w = node_takes a.states q r checked.ordered j in
        let k = checked.range.1 q w.0 r w.1 in omega (arith, k, size))
        (in_either r (children_at (node_in a.states q) all_true) (byte_targets (node_in a.states q))
        (subst (λ v. In r (targets_at Every v)) (sym (node_is a.states q)) i))
