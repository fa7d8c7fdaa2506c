use Rattle.std.proofs.Common.{◌∙◌, ap, List, ℕ}
use Rattle.automata_base.specs.Powersets.Powerset.{Powerset}
use Rattle.automata_determinize.specs.Powersets.Code.{number_at}
use Rattle.automata_determinize.proofs.determinize.state.State.needed.Goals as goal

pub returns : goal.returns
returns c =
    c.u32_at.ensures
    ∙ (ap (λ (xs : List ℕ). number_at xs 5) c.as_slice.ensures.value ∙ ap (λ (q : Powerset). q.needed) c.self.view_is)
