use Rattle.std.proofs.Common.{◌≡◌, subst, sym, arith}
use Rattle.automata_hybrid.proofs.Words.{bit_at, Direction}
use Rattle.automata_hybrid.specs.Private.Fast.SelfLoops.{HasEither, lane_of}
use Rattle.automata_hybrid.proofs.Fast.Lanes.{all_near, leading_clear, near_upto, trailing_clear, trailing_few}
use Rattle.automata_hybrid.proofs.search.fast.lanes.count_in_either.Goals as goal

pub returns-then-outside-eq0-clause-near : goal.returns-then-outside-eq0-clause-near
returns-then-outside-eq0-clause-near c =
    all_near c.args.way (HasEither c.args.first c.args.second) c.args.at c.outside_both-outside.result c.args.bytes.now
    c.outside_both-outside.ensures.near
    c.if-outside-eq0.true

pub returns-in-Forward-clause-few : goal.returns-in-Forward-clause-few
returns-in-Forward-clause-few c =
    trailing_few c.outside_both-outside.result c.if-outside-eq0.false c.outside_both-outside.ensures.small

pub returns-in-Forward-clause-near : goal.returns-in-Forward-clause-near
returns-in-Forward-clause-near c =
    near_upto c.args.way (HasEither c.args.first c.args.second) c.args.at c.outside_both-outside.result c.args.bytes.now
    c.outside_both-outside.ensures.near
    _ (trailing_few c.outside_both-outside.result c.if-outside-eq0.false c.outside_both-outside.ensures.small)
    (λ k l. subst (λ (way : Direction). bit_at c.outside_both-outside.result (lane_of way k) ≡ 0) (sym c.in-Forward.is)
    (trailing_clear c.outside_both-outside.result c.if-outside-eq0.false c.outside_both-outside.ensures.small k l))

pub returns-in-Backward-clause-near : goal.returns-in-Backward-clause-near
returns-in-Backward-clause-near c =
    near_upto c.args.way (HasEither c.args.first c.args.second) c.args.at c.outside_both-outside.result c.args.bytes.now
    c.outside_both-outside.ensures.near
    c.saturating_sub.result (omega (arith, c.saturating_sub.ensures))
    (λ k l. subst (λ (way : Direction). bit_at c.outside_both-outside.result (lane_of way k) ≡ 0) (sym c.in-Backward.is)
    (leading_clear c.outside_both-outside.result c.ilog2.result c.saturating_sub.result c.ilog2.ensures.next_power_gt
    c.saturating_sub.ensures k l))
