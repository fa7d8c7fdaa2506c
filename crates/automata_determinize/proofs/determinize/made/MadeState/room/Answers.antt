use Rattle.std.proofs.Common.{ap, sym, subst, ◌∙◌}
use Rattle.automata_determinize.specs.Powersets.Code.{decoded, ids_of, numbers}
use Rattle.automata_determinize.specs.Powersets.Key.{ListsItsStates}
use Rattle.automata_determinize.proofs.determinize.made.MadeState.room.Goals as goal

pub returns : goal.returns
unfolding ids_of numbers
returns c =
    subst ListsItsStates (sym c.in_ok-made.ensures.ok)
    (ap (λ bytes. (decoded bytes).nfa) c.in_ok-bytes.ensures.items ∙ sym c.in_ok-nfa.ensures.items)
