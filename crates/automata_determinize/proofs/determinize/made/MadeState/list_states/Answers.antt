use Rattle.std.proofs.Common.{◌≡◌, ap, sym, ◌∙◌}
use Rattle.std.proofs.lemmas.Slice.Eq.{slice_eq-Decides}
use Rattle.std.specs.Cmp.{unsigned_Decides}
use Rattle.automata_determinize.specs.Powersets.Code.{decoded}
use Rattle.automata_base.specs.Powersets.Powerset.{Powerset}
use Rattle.automata_determinize.proofs.Powersets.Code.Inverse.{decoded-code}
use Rattle.automata_determinize.proofs.determinize.made.MadeState.list_states.Goals as goal

pub returns-then-eq : goal.returns-then-eq
returns-then-eq c =
    let same : c.as_bytes.result.now ≡ c.as_slice.result.now =
    (slice_eq-Decides unsigned_Decides c.as_bytes.result.now c.as_slice.result.now c.eq.result c.eq.ensures).0
    c.if-eq.true in
    sym c.requires
    ∙ ap (λ bytes. (decoded bytes).nfa) (sym c.as_slice.ensures.value ∙ (sym same ∙ c.as_bytes.ensures.bytes))
    ∙ ap (λ (q : Powerset). q.nfa) (decoded-code c.args.from.now c.as_bytes.ensures.state)
