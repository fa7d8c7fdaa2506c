use Rattle.std.proofs.Common.{arith, ap, sym, ◌∙◌, length}
use Rattle.automata_determinize.specs.Powersets.Code.{code}
use Rattle.automata_determinize.proofs.Powersets.Code.Inverse.{length-code}
use Rattle.automata_determinize.proofs.determinize.state.State.as_bytes.Goals as goal

pub returns-clause-bytes : goal.returns-clause-bytes
returns-clause-bytes c = c.as_slice.ensures.value ∙ (sym c.self.invariant.same ∙ ap code c.self.view_is)

pub returns-clause-cost : goal.returns-clause-cost
returns-clause-cost c =
    omega (
      arith,
      ap length (c.as_slice.ensures.value ∙ sym c.self.invariant.same ∙ ap code c.self.view_is),
      length-code
          c.args.self.now,
    )
