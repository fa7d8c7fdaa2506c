use Rattle.std.proofs.Common.{◌∙◌, ap, List, ℕ, slice_index}
use Rattle.automata_base.specs.Powersets.Powerset.{Powerset}
use Rattle.automata_determinize.specs.Powersets.Code.{patterns_of}
use Rattle.automata_determinize.proofs.determinize.state.State.match_pattern.Goals as goal

pub returns : goal.returns
returns c =
    c.pattern_at.ensures
    ∙ (ap (λ (xs : List ℕ). slice_index (patterns_of xs) c.args.index) c.as_slice.ensures.value
    ∙ ap (λ (q : Powerset). slice_index q.patterns c.args.index) c.self.view_is)
