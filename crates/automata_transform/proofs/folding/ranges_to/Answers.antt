use Rattle.std.proofs.Common.{◌-◌, refl, arith}
use Rattle.automata_transform.proofs.Nfas.Folds.Ranges.{ranges_none, ranges_skip, ranges_push, ranges_done, leaf_is}
use Rattle.automata_transform.proofs.folding.ranges_to.Goals as goal

pub loop-byte-init : goal.loop-byte-init
loop-byte-init c = ranges_none c.args.heads.now c.new-ranges.result.items c.new-ranges.ensures.items

pub loop-byte-preserved-in_ok-push_range : goal.loop-byte-preserved-in_ok-push_range
loop-byte-preserved-in_ok-push_range c =
    let after = c.run_end-end.ensures.after in
    ranges_push c.args.heads.now c.loop-byte.ranges.items c.push_range.new.ranges.items
    (record { lo = c.loop-byte.byte; hi = c.run_end-end.result - 1; next = c.in-Some.next }) c.loop-byte.byte
    c.run_end-end.result
    c.in_ok-push_range.ensures refl (omega (arith, after))
    (leaf_is c.args.heads.now c.loop-byte.byte _ _ c.requires c.loop-byte-test.true c.in-Some.is)
    c.run_end-end.ensures.few after c.run_end-end.ensures.same c.loop-byte.invariant

pub loop-byte-preserved : goal.loop-byte-preserved
loop-byte-preserved c =
    ranges_skip c.args.heads.now c.loop-byte.ranges.items c.loop-byte.byte c.run_end-end.result
    (leaf_is c.args.heads.now c.loop-byte.byte _ _ c.requires c.loop-byte-test.true c.in_default.is)
    c.run_end-end.ensures.few
    c.run_end-end.ensures.after c.run_end-end.ensures.same c.loop-byte.invariant

pub returns : goal.returns
returns c =
    ranges_done c.args.heads.now c.loop-byte.ranges.items c.loop-byte.byte c.requires c.loop-byte-test.false
    c.loop-byte.invariant
