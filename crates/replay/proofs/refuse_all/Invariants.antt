use Rattle.std.proofs.Common.{drop}
use Rattle.replay.proofs.Replies.Lists.{AllBad}
use Rattle.replay.proofs.refuse_all.Given as goal

abbrev pub invariant-loop-request : goal.invariant-loop-request
invariant-loop-request l = AllBad l.script l.replies.items (drop l._request-index l.script)
