use Rattle.std.proofs.Common.{arith, ◌+◌}
use Rattle.automata_base.specs.Retraced.Boundaries.{is_marked}
use Rattle.automata_base.proofs.ByteClasses.Marking.{unmarked_next}
use Rattle.automata_base.proofs.util.alphabet.has_mark.Goals as goal

pub loop-i-init : goal.loop-i-init
loop-i-init c = λ none k h. absurd (omega (arith, h))

pub loop-i-preserved : goal.loop-i-preserved
loop-i-preserved c =
    unmarked_next (λ k. is_marked c.args.marks.now (c.args.at + k)) c.loop-i.i c.loop-i.any c.either-any.result
    c.either-any.ensures c.loop-i.invariant

pub returns : goal.returns
returns c = λ none i h. c.loop-i.invariant none i (omega (arith, h))
