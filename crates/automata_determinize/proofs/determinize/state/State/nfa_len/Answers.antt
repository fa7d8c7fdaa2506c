use Rattle.std.proofs.Common.{sym, ◌∙◌, ap, List, ℕ, length}
use Rattle.automata_base.specs.Powersets.Powerset.{Powerset}
use Rattle.automata_determinize.specs.Powersets.Code.{ids_bytes, numbers}
use Rattle.automata_determinize.proofs.Powersets.Code.Groups.{length-ids_of}
use Rattle.automata_determinize.proofs.determinize.state.State.nfa_len.Goals as goal

pub returns : goal.returns
returns c =
    c.number_count.ensures
    ∙ ap (λ (xs : List ℕ). length (numbers xs)) (c.ids_in.ensures ∙ ap ids_bytes c.as_slice.ensures.value)
    ∙ sym (length-ids_of 0 (numbers (ids_bytes c.self.inside.bytes)))
    ∙ ap (λ (q : Powerset). length q.nfa) c.self.view_is
