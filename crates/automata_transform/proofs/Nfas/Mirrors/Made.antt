-- `reversed` returns the reversed NFA.
use Rattle.std.proofs.Common.{ℕ, ◌≡◌, List, length, refl, sym, subst}
use Rattle.automata_base.specs.declared.nfa.thompson.state.State.{State}
use Rattle.automata_base.specs.Nfas.Automata.{automaton}
use Rattle.automata_base.specs.Nfas.Accepted.{IsChecked}
use Rattle.automata_transform.specs.Nfas.Mirrors.{IsReversed, reversed_flags}
use Rattle.automata_base.specs.Nfas.Nodes.{Automaton}
use Rattle.automata_transform.specs.Retraced.ReversedEdges.{AreReversed}
use Rattle.automata_base.proofs.Nfas.Reach.InRange.{checked_below}
use Rattle.automata_transform.proofs.Nfas.Mirrors.Parts.{made_reversed}

pub whole_made :
    (a b : Automaton) (states : List State) (first patterns root : ℕ) (made : List State) (entries : List ℕ)
    → IsChecked a → states ≡ a.states → first ≡ a.start_anchored → patterns ≡ length a.start_pattern
    → AreReversed states first patterns made entries root
    → b ≡ automaton made root root entries (reversed_flags a.flags) → IsReversed a b
whole_made a b states first patterns root made entries checked s f p m e =
    subst (λ (z : Automaton). IsReversed a z) (sym e)
    (made_reversed a (automaton made root root entries (reversed_flags a.flags)) checked (checked_below a checked) w
    refl refl refl refl)
  where
    w : AreReversed a.states a.start_anchored (length a.start_pattern) made entries root
    w =
        subst (λ (z : List State). AreReversed z a.start_anchored (length a.start_pattern) made entries root) s
        (subst (λ z. AreReversed states z (length a.start_pattern) made entries root) f
        (subst (λ z. AreReversed states first z made entries root) p m))
