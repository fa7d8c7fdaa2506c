use Rattle.std.proofs.Common.{ap, ◌∙◌, subst, sym}
use Rattle.automata_determinize.specs.Powersets.Code.{IsCode, decoded}
use Rattle.automata_determinize.proofs.determinize.state.State.encode.Goals as goal

pub invariant_of-result : goal.invariant_of-result
invariant_of-result c = subst IsCode (sym (c.in_ok-bytes.ensures ∙ c.deref.ensures.value)) c.in_ok-write.ensures.code

pub returns : goal.returns
returns c = ap decoded (c.in_ok-bytes.ensures ∙ c.deref.ensures.value) ∙ c.in_ok-write.ensures.state
