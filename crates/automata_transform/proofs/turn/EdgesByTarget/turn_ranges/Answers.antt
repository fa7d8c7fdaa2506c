use Rattle.std.proofs.Common.{ap, ◌∙◌}
use Rattle.automata_base.specs.Nfas.Errors.{transitions_below}
use Rattle.automata_transform.specs.Retraced.ReversedEdges.{turns_of, turn_ranges}
use Rattle.automata_transform.proofs.Nfas.Mirrors.Byte.{ranges_large}
use Rattle.automata_transform.proofs.Nfas.Mirrors.Lists.{err_is}
use Rattle.automata_base.proofs.Nfas.Reach.Adding.{next_below}
use Rattle.automata_transform.proofs.turn.EdgesByTarget.turn_ranges.Goals as goal

pub turn_range-requires : goal.turn_range-requires
turn_range-requires c =
    next_below _ c.args.ranges.now c.loop-range.range-index c.range-item.result
    (ap (λ z. transitions_below z c.args.ranges.now) c.loop-range.invariant.few ∙ c.requires) c.loop-range-test.true
    c.range-item.is

pub returns-in_err-turn_range-clause-large : goal.returns-in_err-turn_range-clause-large
returns-in_err-turn_range-clause-large c = λ e.
    ranges_large (turns_of c.loop-range.self) c.args.from c.args.ranges.now c.loop-range.range-index c.range-item.result
    c.loop-range-test.true c.range-item.is (turn_ranges (turns_of c.args.self.now) c.args.from c.args.ranges.now)
    c.loop-range.invariant.rest
    (c.in_err-turn_range.ensures.large (err_is c.from_residual.result _ _ c.from_residual.ensures.1 e))
