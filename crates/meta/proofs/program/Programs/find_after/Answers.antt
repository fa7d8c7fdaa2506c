use Rattle.std.proofs.Common.{◌+◌, None, Some, arith}
use Rattle.meta.proofs.Following.{next_again, next_first, none_past}
use Rattle.meta.proofs.program.Programs.find_after.Goals as goal

pub returns-in-None-clause-found : goal.returns-in-None-clause-found
returns-in-None-clause-found c = λ res all.
    next_first c.args.self.now.utf8 res c.args.hay.now c.args.end None (c.in-None.ensures.found res all) tt

pub returns-then-end-clause-found : goal.returns-then-end-clause-found
returns-then-end-clause-found c = λ res all.
    next_first c.args.self.now.utf8 res c.args.hay.now c.args.end (Some c.in-Some.found)
    (c.in-Some.ensures.found res all) (omega (arith, c.if-end.true, c.end.ensures.end))

pub returns-then-end-hay-clause-found : goal.returns-then-end-hay-clause-found
returns-then-end-hay-clause-found c = λ res all.
    next_again c.args.self.now.utf8 res c.args.hay.now c.args.end c.in-Some.found None
    (c.in-Some.ensures.found res all) (omega (arith, c.if-end.false, c.end.ensures.end))
    (none_past c.args.self.now.utf8 res c.args.hay.now (c.args.end + 1) (omega (arith, c.if-end-hay.true)))

pub returns-clause-found : goal.returns-clause-found
returns-clause-found c = λ res all.
    next_again c.args.self.now.utf8 res c.args.hay.now c.args.end c.in-Some.found c.find_at-2.result
    (c.in-Some.ensures.found res all) (omega (arith, c.if-end.false, c.end.ensures.end))
    (c.find_at-2.ensures.found res all)
