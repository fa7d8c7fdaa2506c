use Rattle.std.proofs.Common.{◌∙◌, ◌++◌, ◌∷◌, [], ap, List, ℕ, refl}
use Rattle.automata_hybrid.proofs.Machines.OneState.{match_settles}
use Rattle.automata_hybrid.proofs.dfa.DFA.always_match.Goals as goal

pub of_state-requires : goal.of_state-requires
of_state-requires c =
    match_settles _ refl (c.in_ok-push.ensures.items ∙ ap (λ (l : List ℕ). l ++ 0 ∷ []) c.new-starts.ensures.items)
