use Rattle.std.proofs.Common.{◌∙◌, ap}
use Rattle.automata_base.specs.Powersets.Powerset.{Powerset}
use Rattle.automata_determinize.specs.Powersets.Code.{is_set}
use Rattle.automata_determinize.proofs.determinize.state.State.half.Goals as goal

pub returns : goal.returns
returns c = ap (is_set 8) c.as_slice.ensures.value ∙ ap (λ (q : Powerset). q.half) c.self.view_is
