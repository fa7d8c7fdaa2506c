-- Which looks occur.
use Rattle.std.proofs.Common.{ℕ, ◌≡◌, ◌↔◌, Bool, true, eqb, refl, sym, ap, ◌∙◌}
use Rattle.std.proofs.lemmas.Bool.{eq-eqb}
use Rattle.automata_base.specs.Nfas.Accepted.{IsLooks}
use Rattle.automata_base.specs.Haystacks.Looks.{Look, look_index}
use Rattle.automata_base.specs.Nfas.Nfa.{Assert}
use Rattle.automata_base.specs.Nfas.Nodes.{Automaton, nfa_of}
use Rattle.automata_base.specs.Powersets.Passes.{Occurs}
use Rattle.automata_base.specs.Haystacks.LookSets.{truth_of}
use Rattle.automata_base.proofs.Paths.Machines.{code_one, any_node_true, any_node_from}

pub occurs_is :
    (a : Automaton) (looks : ℕ) → IsLooks a looks → (look : Look)
    → (truth_of looks look ≡ true) ↔ Occurs (nfa_of a) look
occurs_is a looks h look = (
  from,
  λ w. h look
      ∙ any_node_from same (nfa_of a).nodes w.0 look w.1 w.2 (eq-eqb (look_index look) (look_index look) refl),
)
  where
    same : Look → Bool
    same = λ (other : Look). eqb (look_index other) (look_index look)

    from : truth_of looks look ≡ true → Occurs (nfa_of a) look
    from t =
        let w = any_node_true same (nfa_of a).nodes (sym (h look) ∙ t) in
        (w.0, w.2, w.3 ∙ ap (λ z. Assert z w.2) (code_one w.1 look w.4))
