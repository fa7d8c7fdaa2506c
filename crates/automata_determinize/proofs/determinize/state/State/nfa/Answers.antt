use Rattle.std.proofs.Common.{sym, ◌∙◌, ap, subst, List, ℕ}
use Rattle.automata_base.specs.Powersets.Powerset.{Powerset}
use Rattle.automata_determinize.specs.Powersets.Code.{AreIds, ids_bytes, ids_of, numbers}
use Rattle.automata_determinize.proofs.Powersets.Code.Reading.{ids_are}
use Rattle.automata_determinize.proofs.determinize.state.State.nfa.Goals as goal

pub new-requires : goal.new-requires
new-requires c =
    subst (AreIds 0) (sym (c.ids_in.ensures ∙ ap ids_bytes c.as_slice.ensures.value)) (ids_are _ c.self.invariant)

pub returns : goal.returns
returns c =
    c.new.ensures
    ∙ (ap (λ (xs : List ℕ). ids_of 0 (numbers xs)) (c.ids_in.ensures ∙ ap ids_bytes c.as_slice.ensures.value)
    ∙ ap (λ (q : Powerset). q.nfa) c.self.view_is)
