use Rattle.replay.proofs.Replies.Lists.{all_bad_turn, all_bad_end}
use Rattle.replay.proofs.refuse_all.Goals as goal

pub loop-request-preserved : goal.loop-request-preserved
loop-request-preserved c =
    all_bad_turn c.args.script.now c.loop-request.replies.items c.push.new.self.items c.loop-request._request-index
    c.loop-request-test.true c.loop-request.invariant c.in_ok-push.ensures.items

pub returns : goal.returns
returns c =
    all_bad_end c.args.script.now c.loop-request.replies.items c.loop-request._request-index c.loop-request-test.false
    c.loop-request.invariant
