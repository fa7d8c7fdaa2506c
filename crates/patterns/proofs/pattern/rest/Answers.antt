use Rattle.std.proofs.Common.{◌∙◌, ap, arith, length, subst, sym}
use Rattle.automata_base.specs.Haystacks.Input.{Input, IsValidInput}
use Rattle.patterns.proofs.pattern.rest.Goals as goal

pub returns-clause-input : goal.returns-clause-input
returns-clause-input c =
    c.range.ensures
    ∙ ap (λ (v : Input). record v { start = c.args.start; end = length c.args.hay.now }) c.new.ensures.input

pub returns-clause-valid : goal.returns-clause-valid
returns-clause-valid c =
    let whole = subst IsValidInput c.new.ensures.input c.new.ensures.valid in
    subst IsValidInput
    (sym (c.range.ensures
    ∙ ap (λ (v : Input). record v { start = c.args.start; end = length c.args.hay.now }) c.new.ensures.input))
    (record { bytes = whole.bytes; within = (omega (arith, c.requires), omega arith); bound = whole.bound })
