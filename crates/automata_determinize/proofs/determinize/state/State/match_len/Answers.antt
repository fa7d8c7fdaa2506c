use Rattle.std.proofs.Common.{◌∙◌, ap, List, ℕ, length}
use Rattle.automata_base.specs.Powersets.Powerset.{Powerset}
use Rattle.automata_determinize.specs.Powersets.Code.{patterns_of}
use Rattle.automata_determinize.proofs.determinize.state.State.match_len.Goals as goal

pub returns : goal.returns
returns c =
    c.pattern_count.ensures
    ∙ (ap (λ (xs : List ℕ). length (patterns_of xs)) c.as_slice.ensures.value
    ∙ ap (λ (q : Powerset). length q.patterns) c.self.view_is)
