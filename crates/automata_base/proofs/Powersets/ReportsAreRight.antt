-- The start of an anchored mode is a state of the NFA.
use Rattle.std.proofs.Common.{ℕ, suc, ◌≡◌, ◌<◌, List, [], ◌∷◌, length, Some}
use Rattle.std.proofs.Common.{refl, ap, subst, arith}
use Rattle.std.specs.Prelude.{slice_get, All}
use Rattle.automata_base.specs.Nfas.Accepted.{IsChecked}
use Rattle.automata_base.specs.Nfas.Engines.{Anchored, No, Yes, Pattern}
use Rattle.automata_base.specs.Nfas.Nodes.{Automaton, nodes_of}
use Rattle.automata_base.specs.Paths.Starts.{mode_start}
use Rattle.automata_base.proofs.Paths.Orders.{some_inj}
use Rattle.std.proofs.lemmas.Option.{slice_get_within, get_or_from_slice_get}

nodes_length : (states : List _) → length (nodes_of states) ≡ length states
nodes_length [] = refl
nodes_length (x ∷ xs) = ap suc (nodes_length xs)

all_get : (n : ℕ) (xs : List ℕ) (k q : ℕ) → All (λ s. s < n) xs → slice_get xs k ≡ Some q → q < n
all_get n xs k q h e =
    subst (λ v. v < n) (get_or_from_slice_get xs k q 0 e) (h k 0 (slice_get_within xs k q e))

pub start_below :
    (a : Automaton) (mode : Anchored) (q : ℕ) → IsChecked a → mode_start a mode ≡ Some q
    → q < length (nodes_of a.states)
start_below a No q d e =
    let s : a.start_unanchored ≡ q = some_inj e in omega (arith, d.unanchored, s, nodes_length a.states)
start_below a Yes q d e =
    let s : a.start_anchored ≡ q = some_inj e in omega (arith, d.anchored, s, nodes_length a.states)
start_below a (Pattern p) q d e =
    let l : q < length a.states = all_get (length a.states) a.start_pattern p q d.starts e in
    omega (arith, l, nodes_length a.states)
